use Rattle.l2_operator_laws.proofs.Quotients as lemmas
use Rattle.l2_operator_laws.proofs.laws.quotients_show.Goals as goal

pub returns : goal.returns
returns c = lemmas.quotients_show
