use Rattle.std.proofs.Common.{◌≡◌, drop}
use Rattle.l2_code.specs.Sets.{has_pointer}
use Rattle.l2_points.proofs.gather.has_pointer.Given as goal

abbrev pub invariant-loop-ty : goal.invariant-loop-ty
invariant-loop-ty l = has_pointer (drop l.ty-index l.cells) ≡ has_pointer l.cells
