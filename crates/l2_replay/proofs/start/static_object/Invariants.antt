use Rattle.std.proofs.Common.{◌≡◌, map, take}
use Rattle.l2_meaning.specs.Execution.{value_in}
use Rattle.l2_replay.proofs.start.static_object.Given as goal

abbrev pub invariant-loop-s : goal.invariant-loop-s
invariant-loop-s l = l.cells.items ≡ map value_in (take l.s-index l.s-items)
