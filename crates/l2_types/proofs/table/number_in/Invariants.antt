use Rattle.std.proofs.Common.{◌≡◌, drop}
use Rattle.l2_types.specs.Founds.{number_from}
use Rattle.l2_types.proofs.table.number_in.Given as goal

abbrev pub invariant-loop-m : goal.invariant-loop-m
invariant-loop-m l = number_from l.number (drop l.m-index l.names) l.name ≡ number_from 1 l.names l.name
