use Rattle.std.proofs.Common.{◌≡◌, ◌<◌, ◌+◌, ℕ, length, get_or}
use Rattle.std.specs.Prelude.{pos, neg_ℤ, Contains}
use Rattle.l2_cdcl.specs.Analysis.{IsFalseBefore}
use Rattle.l2_cdcl.proofs.target.last_fallen.Given as goal

abbrev pub invariant-loop-literal : goal.invariant-loop-literal
invariant-loop-literal l = record {
  stands : Contains l.aside l.last.literal;
  within : l.last.place < length l.watch.past.literals;
  here : get_or l.watch.past.literals l.last.place (pos 0) ≡ neg_ℤ l.last.literal;
  all : (k : ℕ) → k < l.literal-index → IsFalseBefore l.watch.past.literals (l.last.place + 1) (get_or l.aside k (pos 0));
}
