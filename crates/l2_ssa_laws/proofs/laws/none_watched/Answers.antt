use Rattle.l2_ssa_laws.proofs.Solved.{none_watched}
use Rattle.l2_ssa_laws.proofs.laws.none_watched.Goals as goal

-- src/laws.rt:25:1
pub returns : goal.returns
returns c = none_watched
