use Rattle.l2_operator_laws.proofs.Moves as lemmas
use Rattle.l2_operator_laws.proofs.laws.right_shifts_show.Goals as goal

pub returns : goal.returns
returns c = lemmas.right_shifts_show
