use Rattle.std.proofs.Common.{◌≡◌, ◌<◌, ◌^◌, [], ap, sym, ◌∙◌, get_or, arith}
use Rattle.std.specs.Fmt.{decimal}
use Rattle.l2_lines.proofs.Decimals.{decimal_injective_wide}
use Rattle.l2_derivation_file.proofs.words.Words.between.Goals as goal

pub returns-then-number-from : goal.returns-then-number-from
returns-then-number-from c = λ n rest least most is.
    let value = c.in_ok-number.number.value in
    let small : n < 10 ^ 64 = omega (arith, most, c.ranges.most.fits) in
    let fits : value < 10 ^ 64 = omega (arith, c.in_ok-number.ensures.0, c.ranges.most.fits) in
    let word : decimal n ≡ decimal value = ap (λ l. get_or l 0 []) (sym is ∙ c.in_ok-number.ensures.1) in
    let same : n ≡ value = decimal_injective_wide n value small fits word in
    omega (arith, same, least, c.if-number-from.true)
