use Rattle.std.proofs.Common.{◌≡◌, drop}
use Rattle.l2_types.specs.Founds.{object_at}
use Rattle.l2_types.proofs.table.object_at.Given as goal

abbrev pub invariant-loop-p : goal.invariant-loop-p
invariant-loop-p l = object_at l.number (drop l.p-index l.places) l.place ≡ object_at 1 l.places l.place
