use Rattle.l2_operator_laws.proofs.Room as lemmas
use Rattle.l2_operator_laws.proofs.laws.constants_tell.Goals as goal

pub returns : goal.returns
returns c = lemmas.constants_tell
