-- What a checker knows: clauses over its variables, and accepted clauses that the formula implies.
use Rattle.std.proofs.Common.{◌≡◌, ℕ, ◌+◌, Bool, List, ◌++◌, [], ◌∷◌, length, get_or, take, refl, sym, ap, ◌∙◌, subst, arith}
use Rattle.std.specs.Prelude.{ℤ, Contains}
use Rattle.std.proofs.lemmas.List.{append_assoc, get_or_push, length_push, take_all, take_more}
use Rattle.std.proofs.lemmas.List.Elements.{Contains-push}
use Rattle.l2_cnf.specs.Logic.{IsWithin, AllWithin, Satisfies}
use Rattle.l2_cnf.specs.Steps.{EndsEmpty}
use Rattle.l2_cnf.proofs.Within.{AllWithin-none, AllWithin-push, AllWithin-append}

-- a formula and no accepted clauses
pub AllWithin-fresh : (n : ℕ) (base last steps : List (List ℤ)) → AllWithin n base → AllWithin n last → steps ≡ [] → AllWithin n (base ++ last ++ steps)
AllWithin-fresh n base last steps a b none = AllWithin-append n (base ++ last) steps (AllWithin-append n base last a b) (subst (AllWithin n) (sym none) (AllWithin-none n))

pub Satisfies-fresh : (v : ℕ → Bool) (steps : List (List ℤ)) → steps ≡ [] → Satisfies v steps
Satisfies-fresh v steps none = subst (Satisfies v) (sym none) (λ clause h. absurd (omega (arith, h.1)))

-- one more accepted clause
pub AllWithin-more : (n : ℕ) (formula steps steps' : List (List ℤ)) (clause : List ℤ) → AllWithin n (formula ++ steps) → IsWithin n clause → steps' ≡ steps ++ clause ∷ [] → AllWithin n (formula ++ steps')
AllWithin-more n formula steps steps' clause all within is =
    subst (AllWithin n) (append_assoc formula steps (clause ∷ []) ∙ ap (λ x. formula ++ x) (sym is)) (AllWithin-push n (formula ++ steps) clause all within)

-- no values make the empty clause true
pub empty_refuted : (v : ℕ → Bool) (steps : List (List ℤ)) → EndsEmpty steps → ¬ Satisfies v steps
empty_refuted v steps (front, is) model =
    let found = model [] (subst (λ x. Contains x []) (sym is) (Contains-push front [])) in
    absurd (omega (arith, found.1.1))

empty_is : (clause : List ℤ) → length clause ≡ 0 → clause ≡ []
empty_is [] h = refl
empty_is (l ∷ clause) h = absurd (omega (arith, h))

-- the last clause is the empty one, by its index
pub EndsEmpty-at : (steps : List (List ℤ)) (i : ℕ) (clause : List ℤ) → i + 1 ≡ length steps → clause ≡ get_or steps i [] → length clause ≡ 0 → EndsEmpty steps
EndsEmpty-at steps i clause n is none =
    let whole : take (i + 1) steps ≡ steps = take_all (i + 1) steps (omega arith) in
    let more : take (i + 1) steps ≡ take i steps ++ get_or steps i [] ∷ [] = take_more steps i [] (omega arith) in
    (take i steps, sym whole ∙ more ∙ ap (λ x. take i steps ++ x ∷ []) (sym is ∙ empty_is clause none))

pub at-EndsEmpty : (steps : List (List ℤ)) (i : ℕ) (clause : List ℤ) → i + 1 ≡ length steps → clause ≡ get_or steps i [] → EndsEmpty steps → length clause ≡ 0
at-EndsEmpty steps i clause n is (front, ends) =
    let last : get_or (front ++ [] ∷ []) i [] ≡ [] = get_or_push front [] [] i (omega (arith, ap length ends, length_push front [])) in
    ap length (is ∙ ap (λ x. get_or x i []) ends ∙ last)
