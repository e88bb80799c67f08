use Rattle.l2_operator_laws.proofs.Room as lemmas
use Rattle.l2_operator_laws.proofs.laws.values_tell.Goals as goal

pub returns : goal.returns
returns c = lemmas.values_tell
