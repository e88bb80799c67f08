use Rattle.l2_operator_laws.proofs.Cut as lemmas
use Rattle.l2_operator_laws.proofs.laws.resized_show.Goals as goal

pub returns : goal.returns
returns c = lemmas.resized_show
