-- The digest of a list of clauses: that of Fowler, Noll and Vo over the numbers of 64 bits of all literals, with a 0 behind each clause.
use Rattle.std.specs.Prelude.{ℕ, ◌*◌, ◌-◌, ◌%◌, ◌^◌, List, [], ◌∷◌, ℤ, pos, negsuc}
use Rattle.std.specs.Int.Bits.{bit_xor}

-- a digest that goes on by one number
abbrev pub mixed : ℕ → ℕ → ℕ
mixed digest number = (bit_xor digest number * 1099511628211) % 2 ^ 64

-- a literal in 64 bits, in two's complement
abbrev pub number_of : ℤ → ℕ
number_of (pos n) = n
number_of (negsuc n) = 2 ^ 64 - 1 - n

-- a digest behind a clause
abbrev pub after_clause : ℕ → List ℤ → ℕ
after_clause digest [] = mixed digest 0
after_clause digest (literal ∷ rest) = after_clause (mixed digest (number_of literal)) rest

abbrev pub after_list : ℕ → List (List ℤ) → ℕ
after_list digest [] = digest
after_list digest (clause ∷ rest) = after_list (after_clause digest clause) rest

unfoldable pub digest_of : List (List ℤ) → ℕ
digest_of list = after_list 14695981039346656037 list
