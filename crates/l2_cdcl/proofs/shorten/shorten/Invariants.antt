use Rattle.std.proofs.Common.{◌≡◌, ◌≤◌, ℕ, length, reverse, true}
use Rattle.l2_watch.specs.Watch.{Refutes}
use Rattle.l2_cdcl.specs.Analysis.{IsMarked}
use Rattle.l2_cdcl.specs.Chain.{Chain}
use Rattle.l2_cdcl.specs.Shortening.{IsKept, IsGone}
use Rattle.l2_cdcl.proofs.shorten.shorten.Given as goal

abbrev pub invariant-loop-place : goal.invariant-loop-place
invariant-loop-place l = record {
  most : l.last ≤ l.at.start;
  len : length l.marks ≡ length l.initial.marks;
  less : (v : ℕ) → IsMarked l.marks v → IsMarked l.initial.marks v;
  kept : l.hints.kept ≡ l.initial.hints.kept;
  refutes : Refutes l.watch.clauses (IsKept l.watch.past.literals l.at.low l.at.start l.point l.marks);
  chain : l.hints.kept ≡ true → Chain l.watch.clauses (IsKept l.watch.past.literals l.at.low l.at.start l.point l.marks) (IsGone l.watch.past.literals l.last l.at.start l.point l.marks) (reverse l.hints.numbers);
}
