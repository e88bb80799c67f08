use Rattle.std.proofs.Common.{◌≡◌, ◌<◌, ◌+◌, ◌*◌, length, take, arith}
use Rattle.std.specs.Str.Parse.{AllDigits, digits_value}
use Rattle.std.proofs.lemmas.Int.Digits.{digits_more, digits_value_more}
use Rattle.l2_dimacs.proofs.Spelling.{digit_below, small_so_far}
use Rattle.l2_dimacs.proofs.number.read_number.Goals as goal

pub returns-in_default : goal.returns-in_default
returns-in_default c = λ n number.
    let inside : c.loop-byte.byte-index < length c.args.word.now = omega arith in
    c.in_default.ensures (digit_below c.args.word.now c.loop-byte.byte-index number.digits inside)

pub loop-byte-preserved : goal.loop-byte-preserved
loop-byte-preserved c =
    let i = c.loop-byte.byte-index in
    let word = c.args.word.now in
    let inside : i < length word = omega arith in
    let digits : AllDigits 10 (take (i + 1) word) = digits_more 10 word i inside c.loop-byte.invariant.digits c.in-Some.ensures.0 in
    let value : c.loop-byte.value * 10 + c.in-Some.digit ≡ digits_value 10 (take (i + 1) word) = omega (arith, c.in-Some.ensures.1, c.loop-byte.invariant.value, digits_value_more 10 word i inside) in
    record {
      digits = digits;
      value = value;
      small = small_so_far word (i + 1) (c.loop-byte.value * 10 + c.in-Some.digit) (omega arith) (omega (arith, inside)) digits value;
    }
