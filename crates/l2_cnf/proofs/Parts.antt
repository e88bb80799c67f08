-- Steps kept by their parts: how many there are, one of them, and one more.
use Rattle.std.proofs.Common.{◌≡◌, ℕ, suc, zero, ◌<◌, List, ◌++◌, [], ◌∷◌, length, take, get_or, refl, ap, arith}
use Rattle.std.specs.Prelude.{ℤ}
use Rattle.l2_cnf.specs.Lines.{step_of, steps_of, step_at}

pub length-steps_of : (numbers : List ℕ) (clauses : List (List ℤ)) (hints : List (List ℕ)) → length clauses ≡ length numbers → length hints ≡ length numbers → length (steps_of numbers clauses hints) ≡ length numbers
length-steps_of [] clauses hints e f = refl
length-steps_of (n ∷ numbers) [] hints e f = absurd (omega (arith, e))
length-steps_of (n ∷ numbers) (c ∷ clauses) [] e f = absurd (omega (arith, f))
length-steps_of (n ∷ numbers) (c ∷ clauses) (h ∷ hints) e f = ap suc (length-steps_of numbers clauses hints (omega (arith, e)) (omega (arith, f)))

pub step_at-steps_of : (numbers : List ℕ) (clauses : List (List ℤ)) (hints : List (List ℕ)) (i : ℕ) → length clauses ≡ length numbers → length hints ≡ length numbers → i < length numbers → step_at (steps_of numbers clauses hints) i ≡ step_of (get_or numbers i 0) (get_or clauses i []) (get_or hints i [])
step_at-steps_of [] clauses hints i e f within = absurd (omega (arith, within))
step_at-steps_of (n ∷ numbers) [] hints i e f within = absurd (omega (arith, e))
step_at-steps_of (n ∷ numbers) (c ∷ clauses) [] i e f within = absurd (omega (arith, f))
step_at-steps_of (n ∷ numbers) (c ∷ clauses) (h ∷ hints) zero e f within = refl
step_at-steps_of (n ∷ numbers) (c ∷ clauses) (h ∷ hints) (suc i) e f within = step_at-steps_of numbers clauses hints i (omega (arith, e)) (omega (arith, f)) (omega (arith, within))

pub steps_of-push : (numbers : List ℕ) (clauses : List (List ℤ)) (hints : List (List ℕ)) (number : ℕ) (clause : List ℤ) (hint : List ℕ) → length clauses ≡ length numbers → length hints ≡ length numbers → steps_of (numbers ++ number ∷ []) (clauses ++ clause ∷ []) (hints ++ hint ∷ []) ≡ steps_of numbers clauses hints ++ step_of number clause hint ∷ []
steps_of-push [] [] [] number clause hint e f = refl
steps_of-push [] (c ∷ clauses) hints number clause hint e f = absurd (omega (arith, e))
steps_of-push [] [] (h ∷ hints) number clause hint e f = absurd (omega (arith, f))
steps_of-push (n ∷ numbers) [] hints number clause hint e f = absurd (omega (arith, e))
steps_of-push (n ∷ numbers) (c ∷ clauses) [] number clause hint e f = absurd (omega (arith, f))
steps_of-push (n ∷ numbers) (c ∷ clauses) (h ∷ hints) number clause hint e f = ap (λ x. step_of n c h ∷ x) (steps_of-push numbers clauses hints number clause hint (omega (arith, e)) (omega (arith, f)))

pub steps_of-take : (n : ℕ) (numbers : List ℕ) (clauses : List (List ℤ)) (hints : List (List ℕ)) → length clauses ≡ length numbers → length hints ≡ length numbers → steps_of (take n numbers) (take n clauses) (take n hints) ≡ take n (steps_of numbers clauses hints)
steps_of-take zero numbers clauses hints e f = refl
steps_of-take (suc n) [] clauses hints e f = refl
steps_of-take (suc n) (number ∷ numbers) [] hints e f = absurd (omega (arith, e))
steps_of-take (suc n) (number ∷ numbers) (c ∷ clauses) [] e f = absurd (omega (arith, f))
steps_of-take (suc n) (number ∷ numbers) (c ∷ clauses) (h ∷ hints) e f = ap (λ x. step_of number c h ∷ x) (steps_of-take n numbers clauses hints (omega (arith, e)) (omega (arith, f)))
