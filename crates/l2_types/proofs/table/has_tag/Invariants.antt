use Rattle.std.proofs.Common.{◌≡◌, drop}
use Rattle.l2_types.specs.Scopes.{has_tag}
use Rattle.l2_types.proofs.table.has_tag.Given as goal

abbrev pub invariant-loop-e : goal.invariant-loop-e
invariant-loop-e l = has_tag l.level (drop l.e-index l.tags) l.name ≡ has_tag l.level l.tags l.name
