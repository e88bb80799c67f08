-- Thresholds rise.
use Rattle.std.proofs.Common.{◌≡◌, ℕ, zero, suc, ◌<◌, ℤ, pos, negsuc, ◌<ℤ◌, List, [], ◌∷◌, ◌++◌, length, inl, inr, refl, subst, arith}
use Rattle.std.specs.Prelude.{slice_index_or, Contains, take, flat_map}
use Rattle.std.specs.List.{AllByRecursion}
use Rattle.std.specs.List.Sorted.{IsStrictlySortedBy}
use Rattle.std.specs.Cmp.{int_cmp_total, int_ranks}
use Rattle.std.specs.Ordering.{int_cmp, MatchOrdering}
use Rattle.std.specs.declared.cmp.Ordering.TheVariants.{Less}
use Rattle.l2_syntax.specs.declared.token.Token.{Token}
use Rattle.l2_meaning.specs.Thresholds.{values_of, firsts, near, thresholds_of}
use Rattle.l2_meaning.proofs.Orders.{In, contains_from_in, strict_in_order, in_in_order}
use Rattle.l2_thresholds.proofs.Sorting.{equal_integers}

above : (x : ℤ) (xs : List ℤ) (j : ℕ) → AllByRecursion (λ y. int_cmp x y ≡ Less) xs → j < length xs → x <ℤ slice_index_or xs j (pos 0)
above x [] j h l = absurd (omega arith)
above x (y ∷ xs) zero (a, r) l = subst (λ o. MatchOrdering o (x <ℤ y) (x ≡ y) (y <ℤ x)) a (int_ranks x y)
above x (y ∷ xs) (suc j) (a, r) l = above x xs j r (omega arith)

rises : (xs : List ℤ) → IsStrictlySortedBy int_cmp xs → (i j : ℕ) → i < j → j < length xs → slice_index_or xs i (pos 0) <ℤ slice_index_or xs j (pos 0)
unfolding IsStrictlySortedBy
rises [] h i j l m = absurd (omega arith)
rises (x ∷ xs) h i zero l m = absurd (omega arith)
rises (x ∷ xs) h zero (suc j) l m = above x xs j h.0 (omega arith)
rises (x ∷ xs) h (suc i) (suc j) l m = rises xs h.1 i j (omega arith) (omega arith)

pub rise : (tokens : List Token) → (i j : ℕ) → i < j → j < length (thresholds_of tokens) → slice_index_or (thresholds_of tokens) i (pos 0) <ℤ slice_index_or (thresholds_of tokens) j (pos 0)
rise tokens = rises (thresholds_of tokens) (strict_in_order int_cmp int_cmp_total equal_integers (flat_map near (take 256 (firsts [] (values_of tokens))) ++ negsuc 0 ∷ pos 0 ∷ pos 1 ∷ []))

in_right : (z : ℤ) (xs ys : List ℤ) → In z ys → In z (xs ++ ys)
in_right z [] ys h = h
in_right z (x ∷ xs) ys h = inr (in_right z xs ys h)

pub has_zero : (tokens : List Token) → Contains (thresholds_of tokens) (pos 0)
has_zero tokens =
    contains_from_in (thresholds_of tokens) (pos 0)
    (in_in_order int_cmp int_cmp_total equal_integers (pos 0) (flat_map near (take 256 (firsts [] (values_of tokens))) ++ negsuc 0 ∷ pos 0 ∷ pos 1 ∷ [])
    (in_right (pos 0) (flat_map near (take 256 (firsts [] (values_of tokens)))) (negsuc 0 ∷ pos 0 ∷ pos 1 ∷ []) (inr (inl refl))))
