use Rattle.l2_rup.proofs.Knows.{AllWithin-fresh, Satisfies-fresh}
use Rattle.l2_rup.proofs.known.Known.new.Goals as goal

pub invariant_of-result : goal.invariant_of-result
invariant_of-result c = (
  AllWithin-fresh c.args.variables c.args.base.now c.args.last c.in_ok-steps.steps.clauses c.requires.base c.requires.last c.in_ok-steps.ensures.clauses,
  (λ v model. Satisfies-fresh v c.in_ok-steps.steps.clauses c.in_ok-steps.ensures.clauses),
)
