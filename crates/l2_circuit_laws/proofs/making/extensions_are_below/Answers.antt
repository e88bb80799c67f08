use Rattle.l2_circuit_laws.proofs.Makings as makings
use Rattle.l2_circuit_laws.proofs.making.extensions_are_below.Goals as goal

pub returns : goal.returns
returns c = makings.extensions_are_below
