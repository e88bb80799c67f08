use Rattle.l2_circuit_laws.proofs.Numbers as numbers
use Rattle.l2_circuit_laws.proofs.laws.differences_are.Goals as goal

pub returns : goal.returns
returns c = numbers.differences_are
