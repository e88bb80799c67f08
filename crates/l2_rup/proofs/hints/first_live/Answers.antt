use Rattle.std.proofs.Common.{◌∙◌, subst}
use Rattle.std.specs.Prelude.{pos, neg_ℤ, Contains}
use Rattle.std.proofs.lemmas.List.{get_or_default}
use borrow.Author.Count.{below_more}
use Rattle.l2_rup.proofs.hints.first_live.Goals as goal

pub loop-i-preserved : goal.loop-i-preserved
loop-i-preserved c = below_more _ _ c.loop-i.invariant
    (subst (λ x. Contains c.args.trail.now.literals (neg_ℤ x)) (c.index-clause-i.is ∙ get_or_default c.args.clause.now c.loop-i.i c.index-clause-i.result (pos 0) c.loop-i-test.true) (c.is_false.ensures.0 c.if-not-is_false.false))
