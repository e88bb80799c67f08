use Rattle.std.proofs.Common.{◌≡◌, drop}
use Rattle.l2_types.specs.Founds.{has}
use Rattle.l2_types.proofs.table.has.Given as goal

abbrev pub invariant-loop-m : goal.invariant-loop-m
invariant-loop-m l = has (drop l.m-index l.names) l.name ≡ has l.names l.name
