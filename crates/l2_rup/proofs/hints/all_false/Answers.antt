use Rattle.std.proofs.Common.{◌≡◌, sym, ◌∙◌, subst, arith, true, refl}
use Rattle.std.specs.Prelude.{pos, neg_ℤ, Contains}
use Rattle.std.proofs.lemmas.List.{get_or_default}
use borrow.Author.Count.{below_more}
use Rattle.l2_rup.proofs.Looks.{all_by_index}
use Rattle.l2_rup.proofs.hints.all_false.Goals as goal

pub is_false-requires : goal.is_false-requires
is_false-requires c = c.requires c.literal-item.result (c.loop-literal.literal-index, c.loop-literal-test.true, sym c.literal-item.is)

pub returns-then-not-is_false : goal.returns-then-not-is_false
returns-then-not-is_false c = (
  (λ t. cc),
  (λ all. let yes : c.is_false.result ≡ true = c.is_false.ensures.1 (all c.literal-item.result (c.loop-literal.literal-index, c.loop-literal-test.true, sym c.literal-item.is)) in cc),
)

pub loop-literal-preserved : goal.loop-literal-preserved
loop-literal-preserved c = below_more _ _ c.loop-literal.invariant
    (subst (λ x. Contains c.args.trail.now.literals (neg_ℤ x)) (c.literal-item.is ∙ get_or_default c.args.clause.now c.loop-literal.literal-index c.literal-item.result (pos 0) c.loop-literal-test.true) (c.is_false.ensures.0 c.if-not-is_false.false))

pub returns : goal.returns
returns c = (
  (λ t. all_by_index c.args.trail.now.literals c.args.clause.now (λ k h. c.loop-literal.invariant k (omega (arith, h, c.loop-literal-test.false)))),
  (λ all. refl),
)
