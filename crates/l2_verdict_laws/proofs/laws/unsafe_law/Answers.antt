use Rattle.l2_verdict_laws.proofs.Meaning.{unsafe}
use Rattle.l2_verdict_laws.proofs.laws.unsafe_law.Goals as goal

pub returns : goal.returns
returns c = unsafe
