use Rattle.l2_circuit_laws.proofs.Shown as shown
use Rattle.l2_circuit_laws.proofs.shows.sums_show.Goals as goal

pub returns : goal.returns
returns c = shown.sums_show
