-- Goals, one by one.
use Rattle.std.proofs.Common.{◌≡◌, ℕ, zero, suc, ◌+◌, ◌<◌, List, [], ◌∷◌, ◌++◌, map, length, drop, sym, ap, ◌∙◌, arith, append_assoc}
use Rattle.std.proofs.lemmas.List.{map-append}
use Rattle.l2_gates.specs.Gates.{Lit}
use Rattle.l2_ssa.specs.Walks.{Goal, RowGoal, CheckGoal}
use Rattle.l2_ssa_points.specs.Goals.{goals_of_rows, check_goals}

pub one_row_more : (l j i : ℕ) → goals_of_rows l j (suc i) ≡ goals_of_rows l j i ++ RowGoal l (j + i) ∷ []
one_row_more l j zero = ap (λ n. RowGoal l n ∷ []) (omega arith)
one_row_more l j (suc i) =
    let same : suc j + i ≡ j + suc i = omega arith in
    ap (λ gs. RowGoal l j ∷ gs) (one_row_more l (suc j) i) ∙ ap (λ n. RowGoal l j ∷ (goals_of_rows l (suc j) i ++ RowGoal l n ∷ [])) same

pub one_check_more : (j i : ℕ) → check_goals j (suc i) ≡ check_goals j i ++ CheckGoal (j + i) ∷ []
one_check_more j zero = ap (λ n. CheckGoal n ∷ []) (omega arith)
one_check_more j (suc i) =
    let same : suc j + i ≡ j + suc i = omega arith in
    ap (λ gs. CheckGoal j ∷ gs) (one_check_more (suc j) i) ∙ ap (λ n. CheckGoal j ∷ (check_goals (suc j) i ++ CheckGoal n ∷ [])) same

-- behind some clauses and those of goals one more
pub pushed : (f : Goal → List Lit) (first now next : List (List Lit)) (done : List Goal) (goal : Goal) (all : List Goal) → now ≡ first ++ map f done → next ≡ now ++ f goal ∷ [] → all ≡ done ++ goal ∷ [] → next ≡ first ++ map f all
pushed f first now next done goal all h k e =
    k ∙ ap (λ t. t ++ f goal ∷ []) h ∙ append_assoc first (map f done) (f goal ∷ [])
    ∙ ap (λ t. first ++ t) (sym (map-append f done (goal ∷ [])) ∙ sym (ap (map f) e))

-- behind some clauses those of a part, and then the others
pub passed : (f : Goal → List Lit) (whole now next : List (List Lit)) (left part rest : List Goal) → whole ≡ now ++ map f left → next ≡ now ++ map f part → left ≡ part ++ rest → whole ≡ next ++ map f rest
passed f whole now next left part rest h k e =
    h ∙ ap (λ t. now ++ t) (ap (map f) e ∙ map-append f part rest) ∙ sym (append_assoc now (map f part) (map f rest)) ∙ ap (λ t. t ++ map f rest) (sym k)
