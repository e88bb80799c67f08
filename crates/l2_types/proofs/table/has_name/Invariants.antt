use Rattle.std.proofs.Common.{◌≡◌, drop}
use Rattle.l2_types.specs.Scopes.{has_name}
use Rattle.l2_types.proofs.table.has_name.Given as goal

abbrev pub invariant-loop-e : goal.invariant-loop-e
invariant-loop-e l = has_name l.level (drop l.e-index l.scope) l.name ≡ has_name l.level l.scope l.name
