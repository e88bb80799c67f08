use Rattle.std.proofs.Common.{◌≡◌, ◌≢◌, ◌++◌, ◌∷◌, [], inl, inr, sym, ◌∙◌, ap, subst, get_or, length}
use Rattle.std.specs.Prelude.{ℤ, neg_ℤ, Contains}
use Rattle.std.proofs.lemmas.List.Elements.{Contains-push}
use Rattle.l2_watch.specs.Watch.{IsPair}
use Rattle.l2_watch.proofs.Moves.{code_tells, no_length}
use Rattle.l2_watch.proofs.Pasts.{IsGrown-push}
use Rattle.l2_watch.proofs.raise.raise_one.Goals as goal
use Rattle.l2_watch.proofs.raise.raise_one.Goals.{Else-is_empty, After-is_true}

not_empty : (c : Else-is_empty) → get_or c.args.clauses.now c.args.r [] ≢ []
not_empty c e =
    let same : c.clause-clause.result.now ≡ [] = c.clause-clause.ensures ∙ e in
    no_length (length c.clause-clause.result.now) c.is_empty.result c.is_empty.ensures c.if-is_empty.false (ap length same)

one_pair : (c : Else-is_empty) → IsPair (get_or c.args.clauses.now c.args.r []) c.args.pair.0 c.args.pair.1
one_pair c = elim c.requires.pair [ inl none ↦ absurd (not_empty c none) | inr p ↦ p ]

-- each literal is the first one
all_one : (c : After-is_true) → IsPair (get_or c.args.clauses.now c.args.r []) c.args.pair.0 c.args.pair.1 → (m : ℤ) → Contains (get_or c.args.clauses.now c.args.r []) m → m ≡ c.args.pair.0
all_one c p = p.one (code_tells c.args.pair.0 c.args.pair.1 (sym c.eq-single.ensures ∙ c.if-not-single.false))

pub returns-then-is_false-clause-cases : goal.returns-then-is_false-clause-cases
returns-then-is_false-clause-cases c = λ m h.
    let same : m ≡ c.args.pair.0 = all_one (goal.at.returns-then-is_false-clause-cases c).After-is_true (one_pair (goal.at.returns-then-is_false-clause-cases c).Else-is_empty) m h in
    subst (λ x. Contains c.args.history.now.literals (neg_ℤ x)) (c.literal-first.ensures ∙ sym same) (c.is_false.ensures.0 c.if-is_false.true)

pub returns-clause-grown : goal.returns-clause-grown
returns-clause-grown c =
    let d = (goal.at.returns-clause-grown c).After-is_true in
    let e = (goal.at.returns-clause-grown c).Else-is_empty in
    IsGrown-push c.args.clauses.now c.args.history.now c.push.new.self c.args.pair.0 c.args.r c.requires.count c.requires.within (one_pair e).first (λ m h ne. absurd (ne (all_one d (one_pair e) m h))) (c.push.ensures.literals ∙ ap (λ x. c.args.history.now.literals ++ x ∷ []) c.literal-first.ensures) c.push.ensures.reasons c.push.ensures.variables

pub returns-clause-cases : goal.returns-clause-cases
returns-clause-cases c = (not_empty (goal.at.returns-clause-cases c).Else-is_empty, (λ e. subst (λ x. Contains c.push.new.self.literals x) c.literal-first.ensures (rw c.push.ensures.literals (Contains-push c.args.history.now.literals c.literal-first.result))))
