use Rattle.std.proofs.Common.{◌≡◌, ℕ, ◌≤◌, length}
use Rattle.l2_small_check.specs.Tables.{place_of}
use Rattle.l2_small_check.proofs.table.grow.Given as goal

abbrev pub invariant-loop : goal.invariant-loop
invariant-loop l = (l.counter ≤ length l.places.items) × ((n : ℕ) → place_of l.places.items n ≡ place_of l.fn.places.items n)
