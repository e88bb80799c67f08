use Rattle.l2_direct_code.proofs.Labelled.{direct_law}
use Rattle.l2_direct_code.proofs.laws.stays_direct.Goals as goal

pub returns : goal.returns
returns c = direct_law
