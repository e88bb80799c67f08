use Rattle.std.proofs.Common.{◌≡◌, ◌++◌, drop}
use Rattle.l2_strategy.specs.Places.{rows_of}
use Rattle.l2_strategy.proofs.places.Place.point.Given as goal

abbrev pub invariant-loop-i : goal.invariant-loop-i
invariant-loop-i l = l.rows ++ rows_of l.bounds (drop l.i l.self-inside.forms.items) (drop l.i l.self-inside.indexes.items) ≡ rows_of l.bounds l.self-inside.forms.items l.self-inside.indexes.items
