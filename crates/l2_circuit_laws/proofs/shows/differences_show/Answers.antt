use Rattle.l2_circuit_laws.proofs.Shown as shown
use Rattle.l2_circuit_laws.proofs.shows.differences_show.Goals as goal

pub returns : goal.returns
returns c = shown.differences_show
