-- Numbers among words.
use Rattle.std.specs.Prelude.{ℕ, Bool, true, ◌&&◌, nat_lt, nat_le, if◌then◌else◌, List, [], ◌∷◌, Option, Some, None}
use Rattle.std.specs.Char.{digit_value}
use Rattle.std.specs.Str.Parse.{digits_value, without_leading_plus}

abbrev pub are_digits : List ℕ → Bool
are_digits [] = true
are_digits (c ∷ cs) = nat_lt (digit_value c) 10 && are_digits cs

abbrev pub digits_number : List ℕ → Option ℕ
digits_number [] = None
digits_number (c ∷ cs) = if are_digits (c ∷ cs) then Some (digits_value 10 (c ∷ cs)) else None

-- a number in decimal digits, which a plus may precede
abbrev pub number : List ℕ → Option ℕ
number text = digits_number (without_leading_plus text)

abbrev pub within : ℕ → ℕ → Option ℕ → Option ℕ
within least most None = None
within least most (Some n) = if nat_le least n && nat_le n most then Some n else None

-- a number from the least to the most
abbrev pub number_between : ℕ → ℕ → List ℕ → Option ℕ
number_between least most text = within least most (number text)
