use Rattle.std.proofs.Common.{◌≡◌, drop}
use Rattle.l2_types.specs.Founds.{has}
use Rattle.l2_types_unit.proofs.calls.has.Given as goal

abbrev pub invariant-loop-m : goal.invariant-loop-m
invariant-loop-m l = has (drop l.m-index l.all) l.n ≡ has l.all l.n
