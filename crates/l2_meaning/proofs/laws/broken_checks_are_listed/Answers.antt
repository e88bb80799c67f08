use Rattle.l2_meaning.proofs.Starts.{broken_law}
use Rattle.l2_meaning.proofs.laws.broken_checks_are_listed.Goals as goal

pub returns : goal.returns
returns c = broken_law
