-- One goal more.
use Rattle.std.proofs.Common.{◌≡◌, ℕ, suc, ◌+◌, List, [], ◌∷◌, ◌++◌, ap, ◌∙◌, arith}
use Rattle.l2_gates.specs.Gates.{Lit}
use Rattle.l2_ssa.specs.Walks.{RowGoal, CheckGoal}
use Rattle.l2_ssa.specs.Views.{events_of}
use Rattle.l2_ssa_points.specs.Goals.{goals_of_rows, check_goals}
use Rattle.l2_goals.specs.declared.clauses.Endings.{Endings}
use Rattle.l2_goals.specs.Formulas.{literals}
use Rattle.l2_goals.specs.Kept.{endings}
use Rattle.l2_goals.proofs.Going.{one_row_more, one_check_more, pushed}

pub check_pushed : (e : Endings) (first now next : List (List Lit)) (i n : ℕ) → now ≡ first ++ endings e (check_goals 1 i) → next ≡ now ++ literals e.words.now (CheckGoal n) (events_of e.events.now) ∷ [] → n ≡ i + 1 → next ≡ first ++ endings e (check_goals 1 (i + 1))
check_pushed e first now next i n h k same =
    let count : i + 1 ≡ suc i = omega arith in
    let at : 1 + i ≡ n = omega (arith, same) in
    pushed (λ g. literals e.words.now g (events_of e.events.now)) first now next (check_goals 1 i) (CheckGoal n) (check_goals 1 (i + 1)) h k
    (ap (check_goals 1) count ∙ one_check_more 1 i ∙ ap (λ m. check_goals 1 i ++ CheckGoal m ∷ []) at)

pub row_pushed : (e : Endings) (l : ℕ) (first now next : List (List Lit)) (i n : ℕ) → now ≡ first ++ endings e (goals_of_rows l 1 i) → next ≡ now ++ literals e.words.now (RowGoal l n) (events_of e.events.now) ∷ [] → n ≡ i + 1 → next ≡ first ++ endings e (goals_of_rows l 1 (i + 1))
row_pushed e l first now next i n h k same =
    let count : i + 1 ≡ suc i = omega arith in
    let at : 1 + i ≡ n = omega (arith, same) in
    pushed (λ g. literals e.words.now g (events_of e.events.now)) first now next (goals_of_rows l 1 i) (RowGoal l n) (goals_of_rows l 1 (i + 1)) h k
    (ap (goals_of_rows l 1) count ∙ one_row_more l 1 i ∙ ap (λ m. goals_of_rows l 1 i ++ RowGoal l m ∷ []) at)
