use Rattle.std.proofs.Common.{◌≡◌, ◌+◌, ◌*◌, ◌∙◌, get_or, arith}
use Rattle.l2_directives.proofs.Numbers.{overflowed, past}
use Rattle.l2_directives.specs.Constants.{digit_value, value_of}
use Rattle.l2_directives.proofs.constant.value_of.Goals as goal

pub returns-in-None-clause-great : goal.returns-in-None-clause-great
returns-in-None-clause-great c =
    let h = past (c.loop-digit.value * c.from.result) 18446744073709551616 c.in-None.ensures in
    overflowed c.args.base c.from.result c.loop-digit.value 0 (value_of c.args.base c.args.digits.now) c.args.digits.now c.loop-digit.digit-index c.requires c.loop-digit-test.true c.from.ensures c.loop-digit.invariant (omega arith) (omega arith)

pub returns-in-None-checked_add-clause-great : goal.returns-in-None-checked_add-clause-great
returns-in-None-checked_add-clause-great c =
    let h = past (c.in-Some.product + c.from-in-Some.result) 18446744073709551616 c.in-None-checked_add.ensures in
    let m = c.in-Some.ensures in let m1 = m.1 in
    let e : c.from-in-Some.result ≡ digit_value (get_or c.args.digits.now c.loop-digit.digit-index 0) = c.from-in-Some.ensures ∙ c.digit_value.ensures.value in
    overflowed c.args.base c.from.result c.loop-digit.value c.from-in-Some.result (value_of c.args.base c.args.digits.now) c.args.digits.now c.loop-digit.digit-index c.requires c.loop-digit-test.true c.from.ensures c.loop-digit.invariant (omega arith) (omega arith)
