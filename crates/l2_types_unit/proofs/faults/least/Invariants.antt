use Rattle.std.proofs.Common.{◌≡◌, drop}
use Rattle.l2_types_unit.specs.Faults.{least, least_from}
use Rattle.l2_types_unit.proofs.faults.least.Given as goal

abbrev pub invariant-loop-f : goal.invariant-loop-f
invariant-loop-f l = least_from l.best (drop l.f-index l.faults) ≡ least l.faults
