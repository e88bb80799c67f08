use Rattle.std.proofs.Common.{◌≤◌, ◌<◌, length}
use Rattle.l2_watch.specs.Board.{start_of}
use Rattle.l2_cdcl.proofs.target.level_of.Given as goal

abbrev pub invariant-loop-level : goal.invariant-loop-level
invariant-loop-level l = record {
  most : l.level ≤ length l.watch.levels;
  above : l.level < length l.watch.levels → l.place < start_of l.watch.levels l.level;
}

abbrev pub decreases-loop-level : goal.decreases-loop-level
decreases-loop-level l = l.level
