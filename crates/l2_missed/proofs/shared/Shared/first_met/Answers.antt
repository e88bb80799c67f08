use Rattle.std.proofs.Common.{arith, ◌∙◌}
use Rattle.l2_missed.proofs.Asking.{next_clause, met_clause, of_none, of_some}
use Rattle.l2_missed.proofs.shared.Shared.first_met.Goals as goal

pub returns-in-Some-clause-is : goal.returns-in-Some-clause-is
returns-in-Some-clause-is c =
    met_clause c.args.self.now c.loop-i.self c.loop-i.invariant.0 c.in-Some.values c.args.clauses.now c.args.from c.args.to c.loop-i.i c.clause.result.now c.loop-i.invariant.2 (of_some c.in_ok-values.field-0 c.in-Some.values _ _ c.in_ok-values.ensures.is c.in-Some.is) c.clause.ensures c.loop-i.invariant.1 c.loop-i-test.true

pub loop-i-preserved : goal.loop-i-preserved
loop-i-preserved c = (
  c.model_with.ensures.same ∙ c.loop-i.invariant.0,
  omega (arith, c.loop-i.invariant.1),
  next_clause c.args.self.now c.loop-i.self c.loop-i.invariant.0 c.args.clauses.now c.args.from c.loop-i.i c.clause.result.now c.loop-i.invariant.2 (of_none c.in_ok-values.field-0 _ _ c.in_ok-values.ensures.is c.in-None.is) c.clause.ensures,
)

pub returns-clause-is : goal.returns-clause-is
returns-clause-is c = λ i low high. c.loop-i.invariant.2 i low (omega (arith, high, c.loop-i-test.false))
