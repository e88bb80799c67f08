use Rattle.std.proofs.Common.{◌≡◌, ◌+◌, ◌-◌, ◌≤◌, ◌^◌, arith, ap, sym, ◌∙◌}
use Rattle.std.specs.Fmt.{decimal}
use Rattle.std.proofs.lemmas.Int.{ints}
use Rattle.l2_lines.proofs.Decimals.{decimal_injective_wide}
use Rattle.l2_lines.proofs.decimal.read_below_zero.Goals as goal

pub returns-in-Some : goal.returns-in-Some
returns-in-Some c =
    let read : (c.in-Some.n ≤ 2 ^ 127) × (c.args.digits.now ≡ decimal c.in-Some.n) = c.in-Some.ensures in
    (c.in-Some.n - 1, omega (arith, ints), read.1 ∙ ap decimal (omega arith))

pub returns-in_default : goal.returns-in_default
returns-in_default c = λ n small is.
    let read : (c.in-Some.n ≤ 2 ^ 127) × (c.args.digits.now ≡ decimal c.in-Some.n) = c.in-Some.ensures in
    let same : c.in-Some.n ≡ n + 1 = decimal_injective_wide c.in-Some.n (n + 1) (omega arith) (omega arith) (sym read.1 ∙ is) in
    omega arith
