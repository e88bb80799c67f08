use Rattle.std.proofs.Common.{◌≡◌, None, drop}
use Rattle.l2_types.specs.States.{lookup_from}
use Rattle.l2_types.proofs.table.lookup_in.Given as goal

abbrev pub invariant-loop-e : goal.invariant-loop-e
invariant-loop-e l = lookup_from l.found (drop l.e-index l.scope) l.name ≡ lookup_from None l.scope l.name
