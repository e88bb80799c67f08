use Rattle.l2_circuit_laws.proofs.Makings as makings
use Rattle.l2_circuit_laws.proofs.making.circuits_make.Goals as goal

pub returns : goal.returns
returns c = makings.circuits_make
