use Rattle.std.proofs.Common.{◌≤◌, ◌<◌, length, reverse}
use Rattle.l2_cdcl.specs.Chain.{Chain, IsFrom, IsMarkedBefore}
use Rattle.l2_cdcl.proofs.root.traced_hints.Given as goal

abbrev pub invariant-loop-k : goal.invariant-loop-k
invariant-loop-k l = record {
  most : l.k ≤ length l.watch.past.literals;
  room : l.watch.variables < length l.marks;
  chain : Chain l.watch.clauses (IsMarkedBefore l.watch.past.literals l.k l.marks) (IsFrom l.watch.past.literals l.k) (reverse l.hints.items);
}

abbrev pub decreases-loop-k : goal.decreases-loop-k
decreases-loop-k l = l.k
