use Rattle.std.proofs.Common.{◌≤◌}
use Rattle.l2_cdcl.specs.Analysis.{AreUnmarked}
use Rattle.l2_cdcl.proofs.analysis.last_marked.Given as goal

abbrev pub invariant-loop-k : goal.invariant-loop-k
invariant-loop-k l = record {
  within : l.k ≤ l.end;
  none : AreUnmarked l.watch.past.literals l.marks l.k l.end;
}

abbrev pub decreases-loop-k : goal.decreases-loop-k
decreases-loop-k l = l.k
