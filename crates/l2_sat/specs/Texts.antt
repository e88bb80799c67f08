-- The texts that are printed.
use Rattle.std.specs.Prelude.{ℕ, zero, suc, Bool, true, false, ℤ, pos, negsuc, List, [], ◌∷◌, ◌++◌, codes}
use Rattle.std.specs.Fmt.{decimal, signed_decimal}

-- the literal of a variable that is true
abbrev pub literal_of : Bool → ℕ → ℤ
literal_of true n = pos n
literal_of false zero = pos 0
literal_of false (suc n) = negsuc n

-- the literals of the variables 1 to n that are true, a space before each
abbrev pub literals_text : (ℕ → Bool) → ℕ → List ℕ
literals_text a zero = []
literals_text a (suc n) = literals_text a n ++ 32 ∷ signed_decimal (literal_of (a (suc n)) (suc n))

-- values of the variables 1 to `v` that satisfy a formula
abbrev pub model_text : (ℕ → Bool) → ℕ → List ℕ
model_text a v = codes "s SATISFIABLE\nv" ++ (literals_text a v ++ codes " 0\n")

-- a line of a word and a number
abbrev pub numbered : List ℕ → ℕ → List ℕ
numbered words n = words ++ (decimal n ++ codes "\n")
