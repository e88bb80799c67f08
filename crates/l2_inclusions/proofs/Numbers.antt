-- Numbers in lists.
use Rattle.std.specs.Prelude.{◌≡◌, ℕ, zero, suc, List, [], ◌∷◌, ◌++◌, refl}
use Rattle.std.proofs.Common.{get_or, subst, sym}
use lib.ListN.{replicate}

replicate_zero : (n k : ℕ) → ◌≡◌ {A = ℕ} (get_or (replicate n 0) k 0) 0
replicate_zero zero k = refl
replicate_zero (suc n) zero = refl
replicate_zero (suc n) (suc k) = replicate_zero n k

pub zero_in : (xs : List ℕ) (n k : ℕ) → xs ≡ replicate n 0 → ◌≡◌ {A = ℕ} (get_or xs k 0) 0
zero_in xs n k e = subst (λ (ys : List ℕ). ◌≡◌ {A = ℕ} (get_or ys k 0) 0) (sym e) (replicate_zero n k)

zero_push : (xs : List ℕ) (n : ℕ) → ◌≡◌ {A = ℕ} (get_or (xs ++ 0 ∷ []) n 0) (get_or xs n 0)
zero_push [] zero = refl
zero_push [] (suc n) = refl
zero_push (x ∷ xs) zero = refl
zero_push (x ∷ xs) (suc n) = zero_push xs n

pub zero_more : (xs ys : List ℕ) (n : ℕ) → ys ≡ xs ++ 0 ∷ [] → ◌≡◌ {A = ℕ} (get_or ys n 0) (get_or xs n 0)
zero_more xs ys n e = subst (λ (zs : List ℕ). ◌≡◌ {A = ℕ} (get_or zs n 0) (get_or xs n 0)) (sym e) (zero_push xs n)
