-- Clauses in a row, each with a 0 behind it.
use Rattle.std.proofs.Common.{◌≡◌, ℕ, zero, suc, ◌+◌, ◌≤◌, ℤ, pos, negsuc, List, [], ◌∷◌, ◌++◌, length, drop, get_or, refl, sym, ap, subst, ◌∙◌, append_assoc, append-nil, arith}
use Rattle.std.specs.List.{All}
use Rattle.std.proofs.lemmas.List.Elements.{All-head, All-tail}
use Rattle.l2_cnf.specs.Lit.{IsLiteral}
use Rattle.l2_dimacs.specs.Profile.{AreClauses, flat}

pub flat-append : (xs ys : List (List ℤ)) → flat (xs ++ ys) ≡ flat xs ++ flat ys
flat-append [] ys = refl
flat-append (x ∷ xs) ys = ap (λ l. x ++ pos 0 ∷ l) (flat-append xs ys) ∙ sym (append_assoc x (pos 0 ∷ flat xs) (flat ys))

zero_is_none : ¬ IsLiteral (pos 0)
zero_is_none is = let none : 1 ≤ 0 = is in omega (arith, none)

-- up to the first 0
same_front : (c d x y : List ℤ) → All IsLiteral c → All IsLiteral d → c ++ pos 0 ∷ x ≡ d ++ pos 0 ∷ y → (c ≡ d) × (x ≡ y)
same_front [] [] x y first second is = (refl, ap (drop 1) is)
same_front [] (z ∷ d) x y first second is = absurd (zero_is_none (subst IsLiteral (sym (ap (λ l. get_or l 0 (pos 0)) is)) (All-head IsLiteral z d second)))
same_front (z ∷ c) [] x y first second is = absurd (zero_is_none (subst IsLiteral (ap (λ l. get_or l 0 (pos 0)) is) (All-head IsLiteral z c first)))
same_front (z ∷ c) (w ∷ d) x y first second is =
    let head : z ≡ w = ap (λ l. get_or l 0 (pos 0)) is in
    let rest = same_front c d x y (All-tail IsLiteral z c first) (All-tail IsLiteral w d second) (ap (drop 1) is) in
    (λ i. head i ∷ rest.0 i, rest.1)

-- where so many clauses begin with as many others, they are these and nothing is left
pub flat_front : (cs ds : List (List ℤ)) (ys : List ℤ) → AreClauses cs → AreClauses ds → flat cs ≡ flat ds ++ ys → length cs ≡ length ds → (cs ≡ ds) × (ys ≡ [])
flat_front [] [] ys first second is count = (refl, sym is)
flat_front [] (d ∷ ds) ys first second is count = absurd (omega (arith, count))
flat_front (c ∷ cs) [] ys first second is count = absurd (omega (arith, count))
flat_front (c ∷ cs) (d ∷ ds) ys first second is count =
    let parts = same_front c d (flat cs) (flat ds ++ ys) (All-head (All IsLiteral) c cs first) (All-head (All IsLiteral) d ds second) (is ∙ append_assoc d (pos 0 ∷ flat ds) ys) in
    let rest = flat_front cs ds ys (All-tail (All IsLiteral) c cs first) (All-tail (All IsLiteral) d ds second) parts.1 (omega (arith, count)) in
    (λ i. parts.0 i ∷ rest.0 i, rest.1)

-- ---- how many 0s there are

abbrev ends_at : ℤ → ℕ
ends_at (pos zero) = 1
ends_at (pos (suc n)) = 0
ends_at (negsuc n) = 0

abbrev ends_in : List ℤ → ℕ
ends_in [] = 0
ends_in (z ∷ zs) = ends_at z + ends_in zs

ends_in-append : (xs ys : List ℤ) → ends_in (xs ++ ys) ≡ ends_in xs + ends_in ys
ends_in-append [] ys = omega arith
ends_in-append (x ∷ xs) ys = let rest = ends_in-append xs ys in omega (arith, rest)

no_end : (z : ℤ) → IsLiteral z → ends_at z ≡ 0
no_end (pos zero) is = absurd (zero_is_none is)
no_end (pos (suc n)) is = refl
no_end (negsuc n) is = refl

no_ends : (clause : List ℤ) → All IsLiteral clause → ends_in clause ≡ 0
no_ends [] all = refl
no_ends (z ∷ clause) all =
    let first = no_end z (All-head IsLiteral z clause all) in
    let rest = no_ends clause (All-tail IsLiteral z clause all) in
    omega (arith, first, rest)

one_each : (clauses : List (List ℤ)) → AreClauses clauses → ends_in (flat clauses) ≡ length clauses
one_each [] all = refl
one_each (c ∷ clauses) all =
    let front = no_ends c (All-head (All IsLiteral) c clauses all) in
    let rest = one_each clauses (All-tail (All IsLiteral) c clauses all) in
    omega (arith, ends_in-append c (pos 0 ∷ flat clauses), front, rest)

-- where the numbers that were read are all, as many clauses were read
pub all_read : (cs ds : List (List ℤ)) (part : List ℤ) → AreClauses cs → AreClauses ds → All IsLiteral part → flat cs ≡ (flat ds ++ part) ++ [] → length cs ≡ length ds
all_read cs ds part first second literals is =
    let whole : ends_in (flat cs) ≡ ends_in (flat ds ++ part) = ap ends_in (is ∙ append-nil (flat ds ++ part)) in
    omega (arith, whole, one_each cs first, one_each ds second, ends_in-append (flat ds) part, no_ends part literals)
