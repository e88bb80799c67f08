use Rattle.std.proofs.Common.{◌≡◌, ◌≤◌, ◌+◌, drop}
use Rattle.l2_code.specs.Sizes.{cells_of_type}
use Rattle.l2_size.proofs.tables.cells_of_type.Given as goal

abbrev pub invariant-loop-cell : goal.invariant-loop-cell
invariant-loop-cell l = (l.n + cells_of_type l.ty (drop l.cell-index l.cells) ≡ cells_of_type l.ty l.cells) × (l.n ≤ l.cell-index)
