use Rattle.l2_verdict_laws.proofs.Meaning.{unwind}
use Rattle.l2_verdict_laws.proofs.laws.unwind_law.Goals as goal

pub returns : goal.returns
returns c = unwind c.meet_law.ensures.proves
