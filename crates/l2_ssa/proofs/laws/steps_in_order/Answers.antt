use Rattle.l2_ssa.proofs.Orders.{steps_in_order}
use Rattle.l2_ssa.proofs.laws.steps_in_order.Goals as goal

-- src/laws.rt:17:1
pub returns : goal.returns
returns c = steps_in_order
