-- Lists of numbers that grow at their ends.
use Rattle.std.specs.Prelude.{ℤ, Option, Some, None, if◌then◌else◌, List, [], ◌∷◌, ◌++◌}
use Rattle.l2_syntax.specs.declared.token.Token.{Token}
use Rattle.l2_meaning.specs.Thresholds.{is_among, number_in}

-- with this number at its end, unless it has it already
abbrev pub with_last : List ℤ → ℤ → List ℤ
with_last xs z = if is_among xs z then xs else xs ++ z ∷ []

abbrev pub with_number : List ℤ → Option ℤ → List ℤ
with_number xs None = xs
with_number xs (Some z) = with_last xs z

-- with the number that a token is
abbrev pub with_token : List ℤ → Token → List ℤ
with_token xs t = with_number xs (number_in t.kind)
