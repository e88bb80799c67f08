-- Clauses of whole numbers that are clauses of literals.
use Rattle.std.proofs.Common.{◌≡◌, ◌≤◌, ℕ, zero, suc, ℤ, List, [], ◌∷◌, ◌++◌, map, take, length, refl, sym, subst}
use Rattle.l2_gates.specs.Gates.{literals_of}
use Rattle.l2_goals.specs.Numbers.{numbers, all_numbers}

abbrev pub AreLiterals : List (List ℤ) → Type 0
AreLiterals list = all_numbers (map literals_of list) ≡ list

first_is : (c d : List ℤ) (cs ds : List (List ℤ)) → c ∷ cs ≡ d ∷ ds → c ≡ d
first_is c d cs ds e = cc

rest_is : (c d : List ℤ) (cs ds : List (List ℤ)) → c ∷ cs ≡ d ∷ ds → cs ≡ ds
rest_is c d cs ds e = cc

pub head_literals : (c : List ℤ) (cs : List (List ℤ)) → AreLiterals (c ∷ cs) → numbers (literals_of c) ≡ c
head_literals c cs h = first_is (numbers (literals_of c)) c (all_numbers (map literals_of cs)) cs h

pub tail_literals : (c : List ℤ) (cs : List (List ℤ)) → AreLiterals (c ∷ cs) → AreLiterals cs
tail_literals c cs h = rest_is (numbers (literals_of c)) c (all_numbers (map literals_of cs)) cs h

pub more_literals : (c : List ℤ) (cs : List (List ℤ)) → numbers (literals_of c) ≡ c → AreLiterals cs → AreLiterals (c ∷ cs)
more_literals c cs h k = λ i. h i ∷ k i

pub append_literals : (a b : List (List ℤ)) → AreLiterals a → AreLiterals b → AreLiterals (a ++ b)
append_literals [] b h k = k
append_literals (c ∷ cs) b h k = more_literals c (cs ++ b) (head_literals c cs h) (append_literals cs b (tail_literals c cs h) k)

pub take_literals : (n : ℕ) (a : List (List ℤ)) → AreLiterals a → AreLiterals (take n a)
take_literals zero a h = refl
take_literals (suc n) [] h = refl
take_literals (suc n) (c ∷ cs) h = more_literals c (take n cs) (head_literals c cs h) (take_literals n cs (tail_literals c cs h))

-- the first of some clauses behind others
pub some_more : (old more new : List (List ℤ)) → AreLiterals old → AreLiterals more → (n : ℕ) × (n ≤ length more) × (new ≡ old ++ take n more) → AreLiterals new
some_more old more new h k (n, l, e) = subst AreLiterals (sym e) (append_literals old (take n more) h (take_literals n more k))
