use Rattle.std.proofs.Common.{◌≡◌, ◌<◌, ℕ, get_or, length}
use Rattle.l2_cdcl.proofs.marks.wipe.Given as goal

abbrev pub invariant-loop-i : goal.invariant-loop-i
invariant-loop-i l = record {
  none : (k : ℕ) → k < l.i → get_or l.stamps.items k 0 ≡ 0;
  len : length l.stamps.items ≡ length l.initial.stamps.items;
}
