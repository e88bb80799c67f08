use Rattle.l2_operator_laws.proofs.Conversions as lemmas
use Rattle.l2_operator_laws.proofs.laws.conversions_show.Goals as goal

pub returns : goal.returns
returns c = lemmas.conversions_show
