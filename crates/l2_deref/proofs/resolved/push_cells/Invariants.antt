use Rattle.std.proofs.Common.{◌≡◌, ◌++◌, drop}
use Rattle.l2_deref.specs.Candidates.{cells_from}
use Rattle.l2_deref.proofs.resolved.push_cells.Given as goal

abbrev pub invariant-loop-t : goal.invariant-loop-t
invariant-loop-t l = l.list.items ++ cells_from l.ty l.object l.offset (drop l.t-index l.types) ≡ l.initial.list.items ++ cells_from l.ty l.object 0 l.types
