use Rattle.std.proofs.Common.{◌≡◌, drop}
use Rattle.l2_meaning.specs.Execution.{declare_all}
use Rattle.l2_replay.specs.Reach.{setting, Fits}
use Rattle.l2_replay.proofs.replay_program.declare_all.Given as goal

abbrev pub invariant-loop-i : goal.invariant-loop-i
invariant-loop-i l = (declare_all (setting l.p) (drop l.i l.ns) l.m ≡ declare_all (setting l.initial.p) l.initial.ns l.initial.m) × Fits l.p l.m
