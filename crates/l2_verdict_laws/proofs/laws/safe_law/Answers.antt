use Rattle.l2_verdict_laws.proofs.Meaning.{safe}
use Rattle.l2_verdict_laws.proofs.laws.safe_law.Goals as goal

pub returns : goal.returns
returns c = safe c.cut_law.ensures.safe c.code_has_the_sets_of_its_program.ensures.closed
