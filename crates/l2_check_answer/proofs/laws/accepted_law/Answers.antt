use Rattle.l2_check_answer.proofs.Shown.{shown}
use Rattle.l2_check_answer.proofs.laws.accepted_law.Goals as goal

pub returns : goal.returns
returns c = shown c.accepted_is_true.ensures c.programs_are_lawful.ensures
