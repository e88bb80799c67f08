-- Literals of words in two parts.
use Rattle.std.proofs.Common.{◌≡◌, ℕ, zero, suc, ◌≤◌, ℤ, List, [], ◌∷◌, ◌++◌, length, take, drop, refl, ap, ◌∙◌}
use Rattle.std.proofs.lemmas.List.{map-append, drop-map, take_all, drop_all}
use Rattle.l2_gates.specs.Gates.{literal_of, literals_of}

pub literals_take : (a : List ℤ) (n : ℕ) → take n (literals_of a) ≡ literals_of (take n a)
literals_take a zero = refl
literals_take [] (suc n) = refl
literals_take (x ∷ a) (suc n) = ap (λ l. literal_of x ∷ l) (literals_take a n)

pub literals_drop : (a : List ℤ) (n : ℕ) → drop n (literals_of a) ≡ literals_of (drop n a)
literals_drop a n = drop-map literal_of n a

pub literals_append : (a b : List ℤ) → literals_of (a ++ b) ≡ literals_of a ++ literals_of b
literals_append a b = map-append literal_of a b

pub all_taken : (a : List ℤ) (n : ℕ) → length a ≤ n → take n (literals_of a) ≡ literals_of a
all_taken a n h = literals_take a n ∙ ap literals_of (take_all n a h)

pub all_dropped : (a : List ℤ) (n : ℕ) → length a ≤ n → drop n (literals_of a) ≡ []
all_dropped a n h = literals_drop a n ∙ ap literals_of (drop_all n a h)
