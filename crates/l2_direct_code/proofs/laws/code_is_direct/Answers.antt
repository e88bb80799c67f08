use Rattle.l2_direct_code.proofs.Direct as direct
use Rattle.l2_direct_code.proofs.laws.code_is_direct.Goals as goal

pub returns : goal.returns
returns c = direct.code_is_direct
