use Rattle.std.proofs.Common.{◌-◌, ◌+◌, length}
use Rattle.l2_cdcl.proofs.redundant.Notes.cover.Given as goal

abbrev pub decreases-loop-self : goal.decreases-loop-self
decreases-loop-self l = l.variables + 1 - length l.self.rounds.items
