-- The temporaries as code keeps them.
use Rattle.std.proofs.Common.{arith, ◌≡◌, ℕ, zero, suc, ◌<◌, true, false, refl, ap, ◌∙◌, List, [], ◌∷◌, ◌++◌, length}
use Rattle.std.specs.Prelude.{slice_set, if◌then◌else◌, ◌==◌}
use Rattle.l2_code.specs.declared.action.Operand.{Operand}
use Rattle.l2_ssa.specs.Walks.{F}
use Rattle.l2_walker.specs.Made.{temps_of}

one_more : (xs : List Operand) (n : ℕ) → temps_of (xs ++ F ∷ []) n ≡ temps_of xs n
one_more [] zero = refl
one_more [] (suc n) = refl
one_more (x ∷ xs) zero = refl
one_more (x ∷ xs) (suc n) = one_more xs n

pub temps_grow : (xs : List Operand) → temps_of (xs ++ F ∷ []) ≡ temps_of xs
temps_grow xs = λ i n. one_more xs n i

set_at : (xs : List Operand) (t : ℕ) (a : Operand) → t < length xs → (n : ℕ) → temps_of (slice_set xs t a) n ≡ (if n == t then a else temps_of xs n)
set_at [] t a h n = absurd (omega (arith, h))
set_at (x ∷ xs) zero a h zero = ap (λ b. if b then a else x) same
  where
    same : true ≡ (zero == zero)
    same = grind arith
set_at (x ∷ xs) zero a h (suc n) = ap (λ b. if b then a else temps_of xs n) other
  where
    other : false ≡ (suc n == zero)
    other = grind arith
set_at (x ∷ xs) (suc t) a h zero = ap (λ b. if b then a else x) other
  where
    other : false ≡ (zero == suc t)
    other = grind arith
set_at (x ∷ xs) (suc t) a h (suc n) = set_at xs t a (omega (arith, h)) n ∙ ap (λ b. if b then a else temps_of xs n) same
  where
    same : (n == t) ≡ (suc n == suc t)
    same = grind arith

pub temps_set : (xs : List Operand) (t : ℕ) (a : Operand) → t < length xs → temps_of (slice_set xs t a) ≡ (λ n. if n == t then a else temps_of xs n)
temps_set xs t a h = λ i n. set_at xs t a h n i
