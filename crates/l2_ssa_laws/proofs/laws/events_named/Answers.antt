use Rattle.l2_ssa_laws.proofs.Named.{events_named}
use Rattle.l2_ssa_laws.proofs.laws.events_named.Goals as goal

-- src/laws.rt:37:1
pub returns : goal.returns
returns c = events_named
