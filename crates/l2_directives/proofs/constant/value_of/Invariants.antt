use Rattle.std.proofs.Common.{◌≡◌, ◌+◌, ◌*◌, drop, fold}
use Rattle.l2_directives.specs.Constants.{digit_value, value_of}
use Rattle.l2_directives.proofs.constant.value_of.Given as goal

abbrev pub invariant-loop-digit : goal.invariant-loop-digit
invariant-loop-digit l = fold (λ v d. v * l.base + digit_value d) l.value (drop l.digit-index l.digits) ≡ value_of l.base l.digits
