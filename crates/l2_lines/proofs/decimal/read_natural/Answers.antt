use Rattle.std.proofs.Common.{◌≡◌, ◌≢◌, ℕ, MatchOption, ◌≤◌, ◌<◌, ◌+◌, ◌*◌, true, false, take, length, get_or, rules, arith, sym, ap, subst, ◌∙◌}
use Rattle.std.specs.Char.{digit_value}
use Rattle.std.specs.Str.Parse.{AllDigits, digits_value}
use Rattle.std.specs.Fmt.{decimal}
use Rattle.std.proofs.lemmas.Int.Digits.{digits_more, digits_value_more}
use Rattle.std.proofs.lemmas.List.{take_all}
use Rattle.l2_lines.specs.Numbers.{BeginsPlainly}
use Rattle.l2_lines.proofs.Decimals.{decimal_begins_plainly, decimal_of_value, digit_goes}
use Rattle.l2_lines.proofs.decimal.read_natural.Goals as goal

pub returns-then-not-begins_plainly : goal.returns-then-not-begins_plainly
returns-then-not-begins_plainly c = λ n within is.
    let plain : BeginsPlainly c.args.word.now = subst BeginsPlainly (sym is) (decimal_begins_plainly n (omega (arith, c.ranges.most.fits))) in
    let yes : c.begins_plainly.result ≡ true = c.begins_plainly.ensures.1 plain in
    let no : c.begins_plainly.result ≡ false = c.if-not-begins_plainly.true in
    cc

pub loop-byte-init : goal.loop-byte-init
loop-byte-init c = search rules

pub returns-in_err-value : goal.returns-in_err-value
returns-in_err-value c =
    let fails : (digit_value (get_or c.args.word.now c.loop-byte.byte-index 0) < 10) × (c.loop-byte.value * 10 + digit_value (get_or c.args.word.now c.loop-byte.byte-index 0) ≤ c.args.most) → ⊥ = c.in_err-value.ensures in
    subst (λ r. MatchOption r ((n : ℕ) → n ≤ c.args.most → c.args.word.now ≢ decimal n) (λ n. (n ≤ c.args.most) × (c.args.word.now ≡ decimal n)))
    (sym c.from_residual.ensures)
    (λ n within is. fails (digit_goes c.args.word.now c.loop-byte.byte-index c.loop-byte.value c.args.most n (omega arith) (omega (arith, c.ranges.most.fits)) c.loop-byte.invariant.value within is))

pub loop-byte-preserved : goal.loop-byte-preserved
loop-byte-preserved c =
    let pushed : ((digit_value (get_or c.args.word.now c.loop-byte.byte-index 0) < 10) × (c.loop-byte.value * 10 + digit_value (get_or c.args.word.now c.loop-byte.byte-index 0) ≤ c.args.most)) × (c.in_ok-value.value ≡ c.loop-byte.value * 10 + digit_value (get_or c.args.word.now c.loop-byte.byte-index 0)) = c.in_ok-value.ensures in
    let inside : c.loop-byte.byte-index < length c.args.word.now = omega arith in
    record {
      digits = digits_more 10 c.args.word.now c.loop-byte.byte-index inside c.loop-byte.invariant.digits pushed.0.0;
      value = omega (arith, pushed.1, c.loop-byte.invariant.value, digits_value_more 10 c.args.word.now c.loop-byte.byte-index inside);
      within = omega (arith, pushed.0.1, pushed.1);
    }

pub returns : goal.returns
returns c =
    let all : take c.loop-byte.byte-index c.args.word.now ≡ c.args.word.now = take_all c.loop-byte.byte-index c.args.word.now (omega arith) in
    let digits : AllDigits 10 c.args.word.now = subst (AllDigits 10) all c.loop-byte.invariant.digits in
    let value : c.loop-byte.value ≡ digits_value 10 c.args.word.now = c.loop-byte.invariant.value ∙ ap (digits_value 10) all in
    let plain : BeginsPlainly c.args.word.now = c.begins_plainly.ensures.0 c.if-not-begins_plainly.false in
    (c.loop-byte.invariant.within, sym (decimal_of_value c.args.word.now digits plain (omega (arith, value, c.loop-byte.invariant.within, c.ranges.most.fits))) ∙ ap decimal (sym value))
