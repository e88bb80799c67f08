use Rattle.std.proofs.Common.{◌≡◌, map, take}
use Rattle.l2_meaning.specs.Execution.{first_cell}
use Rattle.l2_replay.proofs.start.dead_object.Given as goal

abbrev pub invariant-loop-ty : goal.invariant-loop-ty
invariant-loop-ty l = l.cells.items ≡ map first_cell (take l.ty-index l.ty-items)
