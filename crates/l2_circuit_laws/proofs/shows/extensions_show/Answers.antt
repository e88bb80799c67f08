use Rattle.l2_circuit_laws.proofs.Constants as constants
use Rattle.l2_circuit_laws.proofs.shows.extensions_show.Goals as goal

pub returns : goal.returns
returns c = constants.extensions_show
