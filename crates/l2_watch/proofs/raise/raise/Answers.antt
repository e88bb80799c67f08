use Rattle.std.proofs.Common.{◌≡◌, ◌≢◌, ◌<◌, ◌⊎◌, inl, inr, [], ◌∷◌, sym, subst, ◌∙◌, ℕ, List, get_or, length, arith}
use Rattle.std.specs.Prelude.{ℤ, Contains}
use Rattle.std.proofs.lemmas.List.{get_or_default}
use borrow.Author.Count.{below_more}
use Rattle.l2_cnf.specs.Trail.{AreOver}
use Rattle.l2_watch.specs.Watch.{IsPair}
use Rattle.l2_watch.specs.Visit.{pair_of, IsRaised, IsSingle}
use Rattle.l2_watch.proofs.Pasts.{IsGrown-then, grown_more}
use Rattle.l2_watch.proofs.raise.raise.Goals as goal

pub raise_at-requires-clause-over : goal.raise_at-requires-clause-over
raise_at-requires-clause-over c = λ clause h. subst (λ n. AreOver n clause) (sym c.loop-i.invariant.grown.variables) (c.requires.over clause h)

pub returns-then-raise_at-clause-grown : goal.returns-then-raise_at-clause-grown
returns-then-raise_at-clause-grown c = IsGrown-then c.args.clauses.now c.args.history.now c.loop-i.history c.raise_at.new.history c.loop-i.invariant.grown c.raise_at.ensures.grown

pub loop-i-preserved : goal.loop-i-preserved
loop-i-preserved c =
    let singles : List ℕ = c.args.singles.now in
    let new = c.raise_at.new.history.literals in
    record {
      grown = IsGrown-then c.args.clauses.now c.args.history.now c.loop-i.history c.raise_at.new.history c.loop-i.invariant.grown c.raise_at.ensures.grown;
      raised = below_more (λ k. get_or singles k 0 < length c.args.clauses.now → IsRaised (get_or c.args.clauses.now (get_or singles k 0) []) new (pair_of c.args.pairs.now (get_or singles k 0))) c.loop-i.i
          (λ k h within. let old = c.loop-i.invariant.raised k h within in (old.0, (λ e. grown_more c.args.clauses.now c.loop-i.history c.raise_at.new.history c.raise_at.ensures.grown (pair_of c.args.pairs.now (get_or singles k 0)).0 (old.1 e))))
          c.if-raise_at.ensures.cases;
    }

-- a clause with two literals or more needs no look
raised_else : (clause : List ℤ) (trail : List ℤ) (pair : ℤ × ℤ) → ((clause ≡ []) ⊎ IsPair clause pair.0 pair.1) → (IsSingle clause → IsRaised clause trail pair) → IsRaised clause trail pair
raised_else [] trail pair is raised = raised (λ l m h k. absurd (omega (arith, h.1)))
raised_else (x ∷ clause) trail pair (inl none) raised = absurd (let e : x ∷ clause ≡ [] = none in cc)
raised_else (x ∷ clause) trail pair (inr p) raised = ((λ e. cc), (λ e. (raised (λ l m h k. p.one e l h ∙ sym (p.one e m k))).1 e))

pub returns-clause-cases : goal.returns-clause-cases
returns-clause-cases c = λ r h.
    let clause = get_or c.args.clauses.now r [] in
    raised_else clause c.loop-i.history.literals (pair_of c.args.pairs.now r) (c.requires.pair r h) (λ single.
    let (k, b, e) = c.requires.singles r h single in
    let at : get_or c.args.singles.now k 0 ≡ r = get_or_default c.args.singles.now k 0 r b ∙ e in
    subst (λ x. IsRaised (get_or c.args.clauses.now x []) c.loop-i.history.literals (pair_of c.args.pairs.now x)) at (c.loop-i.invariant.raised k (omega (arith, b)) (omega (arith, at, h))))
