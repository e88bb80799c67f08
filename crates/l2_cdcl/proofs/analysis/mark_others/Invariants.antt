use Rattle.std.proofs.Common.{◌≡◌, ◌≢◌, ◌⊎◌, ◌<◌, ℕ, length, get_or}
use Rattle.std.specs.Prelude.{pos, nat_abs}
use Rattle.l2_cdcl.specs.Analysis.{IsMarked, IsOpen, IsAside, IsMore}
use Rattle.l2_cdcl.proofs.analysis.mark_others.Given as goal

abbrev pub invariant-loop-literal : goal.invariant-loop-literal
invariant-loop-literal l = record {
  len : length l.marks ≡ length l.initial.marks;
  more : IsMore l.initial.marks l.marks l.initial.aside.items l.aside.items;
  put : IsAside l.watch.past.literals l.at.low l.at.start l.marks l.aside.items;
  opened : (k : ℕ) → k < l.literal-index → get_or l.clause k (pos 0) ≢ l.but → IsOpen l.watch.past.literals l.at.low l.at.start (length l.watch.past.literals) l.marks l.aside.items (get_or l.clause k (pos 0));
  from : (v : ℕ) → IsMarked l.marks v → IsMarked l.initial.marks v ⊎ ((k : ℕ) × (k < l.literal-index) × (nat_abs (get_or l.clause k (pos 0)) ≡ v));
}
