use Rattle.std.proofs.Common.{◌≡◌, drop}
use Rattle.l2_runs.specs.Members.{has}
use Rattle.l2_pointer_circuits.proofs.checks.has.Given as goal

abbrev pub invariant-loop-one : goal.invariant-loop-one
invariant-loop-one l = has (drop l.one-index l.set) l.member ≡ has l.set l.member
