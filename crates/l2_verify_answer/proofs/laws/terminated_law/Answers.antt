use Rattle.l2_verify_answer.proofs.Shown.{terminated}
use Rattle.l2_verify_answer.proofs.laws.terminated_law.Goals as goal

pub returns : goal.returns
returns c = terminated c.programs_are_lawful.ensures c.terminating_law.ensures
