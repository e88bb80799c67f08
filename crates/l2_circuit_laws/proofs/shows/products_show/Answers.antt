use Rattle.l2_circuit_laws.proofs.Shown as shown
use Rattle.l2_circuit_laws.proofs.shows.products_show.Goals as goal

pub returns : goal.returns
returns c = shown.products_show
