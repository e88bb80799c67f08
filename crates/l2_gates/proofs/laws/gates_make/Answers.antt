use Rattle.l2_gates.proofs.Made.{gates_make}
use Rattle.l2_gates.proofs.laws.gates_make.Goals as goal

-- src/laws.rt:10:1
pub returns : goal.returns
returns c = gates_make
