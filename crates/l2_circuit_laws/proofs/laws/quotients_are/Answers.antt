use Rattle.l2_circuit_laws.proofs.Quotients as quotients
use Rattle.l2_circuit_laws.proofs.laws.quotients_are.Goals as goal

pub returns : goal.returns
returns c = quotients.quotients_are
