use Rattle.std.proofs.Common.{refl, arith, ◌∙◌}
use Rattle.l2_missed.proofs.Asking.{next_literal, met_literal, no_clause, of_none, of_some}
use Rattle.l2_missed.proofs.shared.Shared.model_with.Goals as goal

pub returns-in-Some-clause-is : goal.returns-in-Some-clause-is
returns-in-Some-clause-is c =
    met_literal c.args.self.now c.loop-literal.self c.loop-literal.invariant.0 c.in-Some.values c.args.clause.now c.loop-literal.literal-index _ (of_some c.in_ok-values.field-0 c.in-Some.values _ _ c.in_ok-values.ensures.is c.in-Some.is) c.literal-item.is c.loop-literal-test.true

pub loop-literal-preserved : goal.loop-literal-preserved
loop-literal-preserved c = (
  c.model_of.ensures.same ∙ c.loop-literal.invariant.0,
  next_literal c.args.self.now c.loop-literal.self c.loop-literal.invariant.0 c.args.clause.now c.loop-literal.literal-index _ c.loop-literal.invariant.1 (of_none c.in_ok-values.field-0 _ _ c.in_ok-values.ensures.is c.in-None.is) c.literal-item.is c.loop-literal-test.true,
)

pub returns-clause-is : goal.returns-clause-is
returns-clause-is c = no_clause c.args.self.now c.args.clause.now c.loop-literal.literal-index (omega (arith, c.loop-literal-test.false)) c.loop-literal.invariant.1
