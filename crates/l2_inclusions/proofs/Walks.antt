-- Walks over graphs.
use Rattle.std.specs.Prelude.{◌≡◌, ℕ, zero, suc, ◌<◌, Bool, true, List, [], ◌∷◌, ◌++◌, length}
use Rattle.std.proofs.Common.{arith, get_or, sym, subst}
use Rattle.l2_inclusions.proofs.Sharing.{each_push}
use Rattle.l2_inclusions.specs.Edges.{AllPass, EachPasses}

pub pass_at : (w : ℕ → Bool) (xs : List ℕ) (i x : ℕ) → AllPass w xs → i < length xs → x ≡ get_or xs i x → w x ≡ true
pass_at w xs i x all h e = subst (λ (y : ℕ). w y ≡ true) (sym e) (all i x h)

pass_push : (w : ℕ → Bool) (xs : List ℕ) (x : ℕ) → AllPass w xs → w x ≡ true → AllPass w (xs ++ x ∷ [])
pass_push w [] x all h zero d k = h
pass_push w [] x all h (suc i) d k = absurd (omega arith)
pass_push w (y ∷ xs) x all h zero d k = all 0 d (omega arith)
pass_push w (y ∷ xs) x all h (suc i) d k = pass_push w xs x (λ j e l. all (suc j) e (omega arith)) h i d (omega arith)

pub pass_more : (w : ℕ → Bool) (xs ys : List ℕ) (x : ℕ) → ys ≡ xs ++ x ∷ [] → AllPass w xs → w x ≡ true → AllPass w ys
pass_more w xs ys x e all h = subst (AllPass w) (sym e) (pass_push w xs x all h)

pub passes_more : (q : ℕ → Bool) (xs ys : List ℕ) (x : ℕ) → ys ≡ xs ++ x ∷ [] → EachPasses q xs → q x ≡ true → EachPasses q ys
passes_more q xs ys x e all h = subst (EachPasses q) (sym e) (each_push (λ k. q k ≡ true) xs x all h)
