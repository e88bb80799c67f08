use Rattle.l2_circuit_laws.proofs.Made as made
use Rattle.l2_circuit_laws.proofs.laws.columns_are_made.Goals as goal

pub returns : goal.returns
returns c = made.columns_are_made
