use Rattle.std.proofs.Common.{◌≡◌, ◌≤◌, ◌-◌, length, take}
use Rattle.l2_outside.specs.Outside.{grown}
use Rattle.l2_outside.proofs.write.write_text.Given as goal

-- the sink grew by the bytes done
abbrev pub invariant-loop-done : goal.invariant-loop-done
invariant-loop-done g l = record {
  within : l.done ≤ length l.text;
  wrote : g.K.Sink.written l.out ≡ grown (g.K.Sink.written l.initial.out) (take l.done l.text);
  later : g.K.Sink.faults l.initial.out ≤ g.K.Sink.faults l.out;
}

abbrev pub decreases-loop-done : goal.decreases-loop-done
decreases-loop-done g l = length l.text - l.done
