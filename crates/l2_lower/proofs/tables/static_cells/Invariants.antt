use Rattle.std.proofs.Common.{◌≡◌, ◌++◌, drop, map}
use Rattle.l2_meaning.specs.Execution.{value_in}
use Rattle.l2_lower.proofs.tables.static_cells.Given as goal

abbrev pub invariant-loop-s : goal.invariant-loop-s
invariant-loop-s l = l.cells.items ++ map value_in (drop l.s-index l.values) ≡ map value_in l.initial.values
