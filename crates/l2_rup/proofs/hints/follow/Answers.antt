use Rattle.std.proofs.Common.{◌≡◌, ◌<◌, ◌≤◌, ◌+◌, ◌∷◌, List, ℕ, get_or, sym, ◌∙◌, subst, arith, length, drop}
use Rattle.std.specs.Prelude.{ℤ}
use Rattle.std.proofs.lemmas.List.{drop_more, length-drop}
use Rattle.l2_cnf.specs.Steps.{Leads, IsUnit}
use Rattle.l2_cnf.proofs.Derivations.{Leads-more}
use Rattle.l2_rup.proofs.Looks.{Leads-next}
use Rattle.l2_cnf.specs.Logic.{IsWithin}
use Rattle.l2_rup.specs.Checked.{known_of}
use Rattle.std.proofs.lemmas.Bool.{OnTrue_at, OnFalse_at}
use Rattle.l2_rup.proofs.hints.follow.Goals as goal

pub all_false-requires : goal.all_false-requires
all_false-requires c = subst (λ n. IsWithin n c.clause-clause.result.now) (sym (c.loop-i.invariant.variables ∙ c.requires)) c.clause-clause.ensures.within

pub advance-requires : goal.advance-requires
advance-requires c = subst (λ n. IsWithin n c.clause-clause.result.now) (sym (c.loop-i.invariant.variables ∙ c.requires)) c.clause-clause.ensures.within

-- the hints from here on
rest_is : (hints : List ℕ) (i : ℕ) → i < length hints → drop i hints ≡ get_or hints i 0 ∷ drop (i + 1) hints
rest_is hints i h = drop_more hints i 0 h

rest_length : (hints : List ℕ) (i : ℕ) → i < length hints → (i + 1 ≡ length hints → ⊥) → 1 ≤ length (drop (i + 1) hints)
rest_length hints i h ne = omega (arith, length-drop (i + 1) hints)

pub returns-then-not-advance-clause-leads : goal.returns-then-not-advance-clause-leads
returns-then-not-advance-clause-leads c = (
  (λ t. cc),
  (λ leads.
      let here = subst (Leads (known_of c.args.known.now) c.loop-i.trail.literals) (rest_is c.args.hints.now c.loop-i.i c.loop-i-test.true) (c.loop-i.invariant.leads.0 leads) in
      let more = (Leads-more (known_of c.args.known.now) c.loop-i.trail.literals (get_or c.args.hints.now c.loop-i.i 0) (drop (c.loop-i.i + 1) c.args.hints.now) (rest_length c.args.hints.now c.loop-i.i c.loop-i-test.true c.if-i-hints.false)).0 here in
      absurd (OnFalse_at c.if-not-advance.true c.advance.ensures.stuck more.1.0 (subst (λ x. IsUnit c.loop-i.trail.literals x more.1.0) (sym c.clause-clause.ensures.clause) more.1.1))),
)

pub loop-i-preserved : goal.loop-i-preserved
loop-i-preserved c =
    let clauses : List (List ℤ) = (known_of c.args.known.now) in
    let hint : ℕ = get_or c.args.hints.now c.loop-i.i 0 in
    let rest : List ℕ = drop (c.loop-i.i + 1) c.args.hints.now in
    let moved = OnTrue_at c.if-not-advance.false c.advance.ensures.moved in
    let l : ℤ = moved.0 in
    let next = Leads-next clauses c.loop-i.trail.literals hint rest l (rest_length c.args.hints.now c.loop-i.i c.loop-i-test.true c.if-i-hints.false)
    (c.if-hint-lt1.false, omega (arith, c.if-hint-len.false, c.len.ensures.len))
    (subst (λ x. IsUnit c.loop-i.trail.literals x l) c.clause-clause.ensures.clause moved.1) in
    let here = rest_is c.args.hints.now c.loop-i.i c.loop-i-test.true in
    record {
      variables = c.advance.ensures.variables ∙ c.loop-i.invariant.variables;
      leads = (
        (λ leads. subst (λ t. Leads clauses t rest) (sym moved.2) (next.0 (subst (Leads clauses c.loop-i.trail.literals) here (c.loop-i.invariant.leads.0 leads)))),
        (λ leads. c.loop-i.invariant.leads.1 (subst (Leads clauses c.loop-i.trail.literals) (sym here) (next.1 (subst (λ t. Leads clauses t rest) moved.2 leads)))),
      );
    }
