use Rattle.std.proofs.Common.{◌≡◌, ℕ, length}
use Rattle.l2_cdcl.specs.Analysis.{IsMarked, IsAside, IsMore, HasVariable}
use Rattle.l2_cdcl.proofs.shorten.take_all_in.Given as goal

abbrev pub invariant-loop-place : goal.invariant-loop-place
invariant-loop-place l = record {
  len : length l.marks ≡ length l.initial.marks;
  more : IsMore l.initial.marks l.marks l.initial.aside.items l.aside.items;
  put : IsAside l.watch.past.literals l.at.low l.at.start l.marks l.aside.items;
  known : (v : ℕ) → IsMarked l.marks v → HasVariable l.watch.clauses v;
}
