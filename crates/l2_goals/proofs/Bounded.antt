-- Clauses whose literals are literals of so many variables.
use Rattle.std.proofs.Common.{◌≡◌, ℕ, zero, suc, ◌<◌, ◌≤◌, ℤ, pos, negsuc, nat_abs, List, [], ◌∷◌, map, length, get_or, refl, ap, ◌∙◌, subst, arith}
use Rattle.l2_cnf.specs.Logic.{IsWithin, AllWithin}
use Rattle.l2_gates.specs.Gates.{literal_of, literals_of, number_of}
use Rattle.l2_goals.specs.Numbers.{numbers, all_numbers}

-- the first so many literals
abbrev pub AreSmall : ℕ → List ℤ → ℕ → Type 0
AreSmall variables clause i = (k : ℕ) (d : ℤ) → k < i → (1 ≤ nat_abs (get_or clause k d)) × (nat_abs (get_or clause k d) ≤ variables)

pub record IsFine (variables : ℕ) (clause : List ℤ) : Type 0 where
  pub within : IsWithin variables clause
  pub same : numbers (literals_of clause) ≡ clause

-- the first so many clauses
abbrev pub AreFine : ℕ → List (List ℤ) → ℕ → Type 0
AreFine variables list i = (k : ℕ) (d : List ℤ) → k < i → IsFine variables (get_or list k d)

literal_back : (z : ℤ) → 1 ≤ nat_abs z → number_of (literal_of z) ≡ z
literal_back (pos zero) h = absurd (omega (arith, h))
literal_back (pos (suc n)) h = refl
literal_back (negsuc n) h = refl

clause_back : (clause : List ℤ) → ((k : ℕ) (d : ℤ) → k < length clause → 1 ≤ nat_abs (get_or clause k d)) → numbers (literals_of clause) ≡ clause
clause_back [] h = refl
clause_back (z ∷ clause) h =
    ap (λ x. x ∷ numbers (literals_of clause)) (literal_back z (h 0 z (omega arith))) ∙ ap (λ xs. z ∷ xs) (clause_back clause (λ k d l. h (suc k) d (omega (arith, l))))

list_back : (list : List (List ℤ)) → ((k : ℕ) (d : List ℤ) → k < length list → numbers (literals_of (get_or list k d)) ≡ get_or list k d) → all_numbers (map literals_of list) ≡ list
list_back [] h = refl
list_back (c ∷ list) h =
    ap (λ x. x ∷ all_numbers (map literals_of list)) (h 0 c (omega arith)) ∙ ap (λ xs. c ∷ xs) (list_back list (λ k d l. h (suc k) d (omega (arith, l))))

pub small_clause : (variables : ℕ) (clause : List ℤ) → AreSmall variables clause (length clause) → IsFine variables clause
small_clause variables clause h = record {
  within = λ z (k, l, e). subst (λ x. nat_abs x ≤ variables) e (h k z l).1;
  same = clause_back clause (λ k d l. (h k d l).0);
}

pub clause_same : (variables : ℕ) (clause : List ℤ) → AreSmall variables clause (length clause) → numbers (literals_of clause) ≡ clause
clause_same variables clause h = (small_clause variables clause h).same

pub fine_within : (variables : ℕ) (list : List (List ℤ)) → AreFine variables list (length list) → AllWithin variables list
fine_within variables list h = λ clause (k, l, e). subst (IsWithin variables) e (h k clause l).within

pub fine_same : (variables : ℕ) (list : List (List ℤ)) → AreFine variables list (length list) → all_numbers (map literals_of list) ≡ list
fine_same variables list h = list_back list (λ k d l. (h k d l).same)

pub clause_same_at : (variables : ℕ) (clause : List ℤ) (i : ℕ) → AreSmall variables clause i → length clause ≤ i → numbers (literals_of clause) ≡ clause
clause_same_at variables clause i h end = clause_same variables clause (λ k d l. h k d (omega (arith, l, end)))

pub list_same_at : (variables : ℕ) (list : List (List ℤ)) (i : ℕ) → AreFine variables list i → length list ≤ i → all_numbers (map literals_of list) ≡ list
list_same_at variables list i h end = fine_same variables list (λ k d l. h k d (omega (arith, l, end)))
