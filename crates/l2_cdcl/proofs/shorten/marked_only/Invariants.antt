use Rattle.std.proofs.Common.{◌≡◌, ◌<◌, ℕ, get_or}
use Rattle.std.specs.Prelude.{ℤ, pos, nat_abs, Contains}
use Rattle.l2_cnf.specs.Trail.{AreApart}
use Rattle.l2_cdcl.specs.Analysis.{IsMarked}
use Rattle.l2_cdcl.proofs.shorten.marked_only.Given as goal

abbrev pub invariant-loop-literal : goal.invariant-loop-literal
invariant-loop-literal l = record {
  all : (k : ℕ) → k < l.literal-index → IsMarked l.marks (nat_abs (get_or l.aside k (pos 0))) → Contains l.kept.items (get_or l.aside k (pos 0));
  part : (m : ℤ) → Contains l.kept.items m → (k : ℕ) × (k < l.literal-index) × (get_or l.aside k (pos 0) ≡ m) × (IsMarked l.marks (nat_abs m));
  apart : AreApart l.aside → AreApart l.kept.items;
}
