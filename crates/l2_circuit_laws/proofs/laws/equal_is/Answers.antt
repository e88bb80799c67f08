use Rattle.l2_circuit_laws.proofs.Numbers as numbers
use Rattle.l2_circuit_laws.proofs.laws.equal_is.Goals as goal

pub returns : goal.returns
returns c = numbers.equal_is_so
