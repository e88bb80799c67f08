use Rattle.std.proofs.Common.{◌≡◌, ◌<◌, ℕ, length, get_or}
use Rattle.std.specs.Prelude.{pos, nat_abs}
use Rattle.l2_cdcl.specs.Analysis.{IsMarked}
use Rattle.l2_cdcl.proofs.root.mark_all.Given as goal

abbrev pub invariant-loop-literal : goal.invariant-loop-literal
invariant-loop-literal l = record {
  len : length l.marks ≡ length l.initial.marks;
  more : (v : ℕ) → IsMarked l.initial.marks v → IsMarked l.marks v;
  all : (k : ℕ) → k < l.literal-index → IsMarked l.marks (nat_abs (get_or l.clause k (pos 0)));
}
