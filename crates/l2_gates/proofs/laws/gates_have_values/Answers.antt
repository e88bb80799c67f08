use Rattle.l2_gates.proofs.Values.{gates_give}
use Rattle.l2_gates.proofs.laws.gates_have_values.Goals as goal

-- src/laws.rt:5:1
pub returns : goal.returns
returns c = gates_give
