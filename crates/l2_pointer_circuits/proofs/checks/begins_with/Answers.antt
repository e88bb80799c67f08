use Rattle.l2_pointer_circuits.proofs.Loops.{too_long}
use Rattle.l2_pointer_circuits.proofs.checks.begins_with.Goals as goal

pub returns-then-types-cells : goal.returns-then-types-cells
returns-then-types-cells c = too_long c.args.types.now c.args.cells.now c.if-types-cells.true
