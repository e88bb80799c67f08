use Rattle.l2_circuit_laws.proofs.Constants as constants
use Rattle.l2_circuit_laws.proofs.shows.constants_show.Goals as goal

pub returns : goal.returns
returns c = constants.constants_show
