use Rattle.l2_circuit_laws.proofs.Choices as choices
use Rattle.l2_circuit_laws.proofs.shows.truths_show.Goals as goal

pub returns : goal.returns
returns c = choices.truths_show
