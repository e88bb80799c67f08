-- Literals and numbers of steps as words.
use Rattle.std.proofs.Common.{◌≡◌, ◌≢◌, ℕ, ℤ, pos, negsuc, nat_abs, codes, refl, ap, FitsSigned, arith}
use Rattle.std.specs.Int.{w128}
use Rattle.std.specs.Fmt.{decimal, signed_decimal}
use Rattle.std.proofs.lemmas.Int.{ints}
use Rattle.l2_lines.proofs.Decimals.{decimal_of_value, decimal_injective_wide, signed_decimal_injective_wide}
use Rattle.l2_cert.specs.Certificate.{IsLiteral, IsNumber}

pub literal_fits : (z : ℤ) → IsLiteral z → FitsSigned w128 z
literal_fits (pos n) fits = record { sfits = omega (arith, ints, fits.0, fits.1) }
literal_fits (negsuc n) fits = record { sfits = omega (arith, ints, fits.0, fits.1) }

pub zero_fits : FitsSigned w128 (pos 0)
zero_fits = record { sfits = omega (arith, ints) }

pub literal_is_not_zero : (z : ℤ) → IsLiteral z → signed_decimal z ≢ decimal 0
literal_is_not_zero z fits is =
    let same : z ≡ pos 0 = signed_decimal_injective_wide z (pos 0) (literal_fits z fits) zero_fits is in
    omega (arith, fits.0, ap nat_abs same)

pub same_literal : (y z : ℤ) → IsLiteral y → IsLiteral z → signed_decimal y ≡ signed_decimal z → y ≡ z
same_literal y z first second is = signed_decimal_injective_wide y z (literal_fits y first) (literal_fits z second) is

pub number_is_not_zero : (n : ℕ) → IsNumber n → decimal n ≢ decimal 0
number_is_not_zero n fits is =
    let same : n ≡ 0 = decimal_injective_wide n 0 (omega (arith, fits.1)) (omega arith) is in
    omega (arith, fits.0, same)

pub zero_word : decimal 0 ≡ codes "0"
zero_word = decimal_of_value (codes "0") (omega arith, tt) (omega arith, λ first. refl) (omega arith)

pub same_number : (m n : ℕ) → IsNumber m → IsNumber n → decimal m ≡ decimal n → m ≡ n
same_number m n first second is = decimal_injective_wide m n (omega (arith, first.1)) (omega (arith, second.1)) is
