use Rattle.std.proofs.Common.{◌≡◌, ℕ, ◌≤◌, length}
use Rattle.l2_mods.specs.Counts.{count_at}
use Rattle.l2_mods.proofs.scope.grow.Given as goal

abbrev pub invariant-loop : goal.invariant-loop
invariant-loop l = (l.counter ≤ length l.counts.items) × ((n : ℕ) → count_at l.counts.items n ≡ count_at l.fn.counts.items n)
