use Rattle.l2_circuit_laws.proofs.Choices as choices
use Rattle.l2_circuit_laws.proofs.shows.choices_show.Goals as goal

pub returns : goal.returns
returns c = choices.choices_show
