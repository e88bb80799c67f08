use Rattle.std.proofs.Common.{◌≡◌, ◌++◌, drop, map}
use Rattle.l2_meaning.specs.Execution.{first_cell}
use Rattle.l2_lower.proofs.tables.dead_cells.Given as goal

abbrev pub invariant-loop-ty : goal.invariant-loop-ty
invariant-loop-ty l = l.cells.items ++ map first_cell (drop l.ty-index l.types) ≡ map first_cell l.initial.types
