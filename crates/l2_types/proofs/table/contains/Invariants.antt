use Rattle.std.proofs.Common.{◌≡◌, drop}
use Rattle.l2_types.specs.Switches.{contains}
use Rattle.l2_types.proofs.table.contains.Given as goal

abbrev pub invariant-loop-w : goal.invariant-loop-w
invariant-loop-w l = contains (drop l.w-index l.values) l.v ≡ contains l.values l.v
