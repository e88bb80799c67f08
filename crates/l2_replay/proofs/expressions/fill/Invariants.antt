use Rattle.std.proofs.Common.{◌≡◌, drop}
use Rattle.l2_meaning.specs.Meaning.{fill}
use Rattle.l2_replay.specs.Reach.{Fits}
use Rattle.l2_replay.proofs.expressions.fill.Given as goal

abbrev pub invariant-loop-i : goal.invariant-loop-i
invariant-loop-i l = (fill l.n l.i (drop l.i l.types) l.m ≡ fill l.n 0 l.initial.types l.initial.m) × Fits l.p l.m
