use Rattle.l2_circuit_laws.proofs.Numbers as numbers
use Rattle.l2_circuit_laws.proofs.laws.less_is.Goals as goal

pub returns : goal.returns
returns c = numbers.less_is_so
