use Rattle.std.proofs.Common.{◌≡◌, ℕ, ◌+◌, length, slice_index_or}
use Rattle.l2_inclusions.proofs.rows.add_zeros.Given as goal

abbrev pub invariant-loop : goal.invariant-loop
invariant-loop l = record {
  same : (n : ℕ) → slice_index_or l.numbers.items n 0 ≡ slice_index_or l.initial.numbers.items n 0;
  count : length l.numbers.items ≡ length l.initial.numbers.items + l.counter;
}
