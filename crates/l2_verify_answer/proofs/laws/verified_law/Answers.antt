use Rattle.l2_verify_answer.proofs.Shown.{verified}
use Rattle.l2_verify_answer.proofs.laws.verified_law.Goals as goal

pub returns : goal.returns
returns c = verified c.programs_are_lawful.ensures c.safe_law.ensures c.unsafe_law.ensures
