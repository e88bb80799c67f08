use Rattle.std.proofs.Common.{◌≡◌, drop}
use Rattle.l2_directives.specs.Constants.{first_that_holds}
use Rattle.l2_directives.proofs.constant.first_that_holds.Given as goal

abbrev pub invariant-loop-scalar : goal.invariant-loop-scalar
invariant-loop-scalar l = first_that_holds l.value (drop l.scalar-index l.types) ≡ first_that_holds l.value l.types
