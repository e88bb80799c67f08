-- Where the goals of a point's rows stand among all.
use Rattle.std.proofs.Common.{◌≡◌, ℕ, zero, suc, ◌+◌, ◌-◌, ◌<◌, ◌≤◌, List, [], ◌∷◌, ◌++◌, length, refl, sym, ap, ◌∙◌, subst, drop, Some, Result, Ok, Err, arith}
use Rattle.std.specs.Prelude.{slice_get, IfOk}
use Rattle.std.proofs.lemmas.List.{length-append, drop_more}
use native.Mathlib.Decide.{dec_lt}
use Rattle.l2_templates.specs.declared.form.Row.{Row}
use Rattle.l2_templates.specs.declared.point.LoopPoint.{LoopPoint}
use Rattle.l2_templates.specs.declared.point.LoopPoint.TheVariants.{Bottom, Rows}
use Rattle.l2_templates.specs.Points.{loop_at}
use Rattle.l2_ssa.specs.Walks.{Goal, RowGoal}
use Rattle.l2_ssa_points.specs.Goals.{goals_of_rows, loop_goals, row_goals}
use Rattle.l2_row_engine.specs.Indexes.{goal_count, goals_before, first_row}

module _ {A : Type 0} where
  pub here : (xs ys : List A) (i : ℕ) (x : A) → slice_get xs i ≡ Some x → slice_get (xs ++ ys) i ≡ Some x
  here [] ys i x h = cc
  here (y ∷ xs) ys zero x h = h
  here (y ∷ xs) ys (suc i) x h = here xs ys i x h

  pub left : (xs ys : List A) (i : ℕ) → i < length xs → slice_get (xs ++ ys) i ≡ slice_get xs i
  left [] ys i h = absurd (omega (arith, h))
  left (y ∷ xs) ys zero h = refl
  left (y ∷ xs) ys (suc i) h = left xs ys i (omega (arith, h))

  pub on : (xs ys : List A) (i : ℕ) → length xs ≤ i → slice_get (xs ++ ys) i ≡ slice_get ys (i - length xs)
  on [] ys i h = let e : i ≡ i - 0 = omega arith in ap (slice_get ys) e
  on (y ∷ xs) ys zero h = absurd (omega (arith, h))
  on (y ∷ xs) ys (suc i) h = let e : i - length xs ≡ suc i - suc (length xs) = omega arith in on xs ys i (omega (arith, h)) ∙ ap (slice_get ys) e

length_rows : (l i n : ℕ) → length (goals_of_rows l i n) ≡ n
length_rows l i zero = refl
length_rows l i (suc n) = ap suc (length_rows l (suc i) n)

pub count_is : (l : ℕ) (p : LoopPoint) → length (loop_goals l p) ≡ goal_count p
count_is l Bottom = refl
count_is l (Rows rows) = length_rows l 1 (length rows)

-- the goal of a row of a loop
pub row_here : (l i n j : ℕ) → j < n → slice_get (goals_of_rows l i n) j ≡ Some (RowGoal l (i + j))
row_here l i zero j h = absurd (omega (arith, h))
row_here l i (suc n) zero h = ap (λ r. Some (RowGoal l r)) (omega arith)
row_here l i (suc n) (suc j) h =
    let e : suc i + j ≡ i + suc j = omega arith in
    row_here l (suc i) n j (omega (arith, h)) ∙ ap (λ r. Some (RowGoal l r)) e

pub goal_here : (l : ℕ) (p : LoopPoint) (rest : List LoopPoint) (i : ℕ) (g : Goal) → slice_get (loop_goals l p) i ≡ Some g → slice_get (row_goals l (p ∷ rest)) i ≡ Some g
goal_here l p rest i g h = here (loop_goals l p) (row_goals (suc l) rest) i g h

pub goal_on : (l : ℕ) (p : LoopPoint) (rest : List LoopPoint) (i : ℕ) → goal_count p ≤ i → slice_get (row_goals l (p ∷ rest)) i ≡ slice_get (row_goals (suc l) rest) (i - goal_count p)
goal_on l p rest i h =
    on (loop_goals l p) (row_goals (suc l) rest) i (subst (λ n. n ≤ i) (sym (count_is l p)) h)
    ∙ ap (λ n. slice_get (row_goals (suc l) rest) (i - n)) (count_is l p)

-- ---- before a loop

pub before_next : (q : List LoopPoint) (i : ℕ) → i < length q → goals_before q (suc i) ≡ goals_before q i + goal_count (loop_at q i)
before_next [] i h = absurd (omega (arith, h))
before_next (p ∷ []) zero h = omega arith
before_next (p ∷ r ∷ q) zero h = omega arith
before_next (p ∷ q) (suc i) h =
    let e : goals_before q (suc i) ≡ goals_before q i + goal_count (loop_at q i) = before_next q i (omega (arith, h)) in
    omega (arith, e)

pub before_all : (l : ℕ) (q : List LoopPoint) → goals_before q (length q) ≡ length (row_goals l q)
before_all l [] = refl
before_all l (p ∷ q) =
    ap (λ n. goal_count p + n) (before_all (suc l) q) ∙ ap (λ n. n + length (row_goals (suc l) q)) (sym (count_is l p)) ∙ sym (length-append (loop_goals l p) (row_goals (suc l) q))

first_here : (l : ℕ) (p : LoopPoint) → 1 ≤ goal_count p → slice_get (loop_goals l p) 0 ≡ Some (RowGoal l (first_row p))
first_here l Bottom h = refl
first_here l (Rows []) h = absurd (omega (arith, h))
first_here l (Rows (r ∷ rows)) h = refl

-- the goal of a loop's first row
pub first_goal : (l : ℕ) (q : List LoopPoint) (i : ℕ) → i < length q → 1 ≤ goal_count (loop_at q i) → slice_get (row_goals l q) (goals_before q i) ≡ Some (RowGoal (l + i) (first_row (loop_at q i)))
first_goal l [] i h some = absurd (omega (arith, h))
first_goal l (p ∷ q) zero h some = goal_here l p q 0 _ (first_here l p some ∙ ap (λ n. Some (RowGoal n (first_row p))) (omega arith))
first_goal l (p ∷ q) (suc i) h some =
    let back : (goal_count p + goals_before q i) - goal_count p ≡ goals_before q i = omega arith in
    let number : suc l + i ≡ l + suc i = omega arith in
    goal_on l p q (goal_count p + goals_before q i) (omega arith) ∙ ap (λ n. slice_get (row_goals (suc l) q) n) back
    ∙ first_goal (suc l) q i (omega (arith, h)) some ∙ ap (λ n. Some (RowGoal n (first_row (loop_at q i)))) number

-- ---- numbers of loops

pub record IsAmong (first : ℕ) (q : List LoopPoint) (l : ℕ) : Type 0 where
  pub low : first ≤ l
  pub high : l < first + length q

rows_numbered : (m i n j l row : ℕ) → slice_get (goals_of_rows m i n) j ≡ Some (RowGoal l row) → m ≡ l
rows_numbered m i zero j l row h = cc
rows_numbered m i (suc n) zero l row h = cc
rows_numbered m i (suc n) (suc j) l row h = rows_numbered m (suc i) n j l row h

loop_numbered : (m : ℕ) (p : LoopPoint) (j l row : ℕ) → slice_get (loop_goals m p) j ≡ Some (RowGoal l row) → m ≡ l
loop_numbered m Bottom zero l row h = cc
loop_numbered m Bottom (suc j) l row h = cc
loop_numbered m (Rows rows) j l row h = rows_numbered m 1 (length rows) j l row h

pub loops_within : (m : ℕ) (q : List LoopPoint) (i l row : ℕ) → slice_get (row_goals m q) i ≡ Some (RowGoal l row) → IsAmong m q l
loops_within m [] i l row h = cc
loops_within m (p ∷ q) i l row h = go (dec_lt i (goal_count p)) (λ k. loops_within (suc m) q (i - goal_count p) l row (sym (goal_on m p q i k) ∙ h))
  where
    here_is : i < goal_count p → slice_get (loop_goals m p) i ≡ Some (RowGoal l row)
    here_is k = sym (left (loop_goals m p) (row_goals (suc m) q) i (subst (λ n. i < n) (sym (count_is m p)) k)) ∙ h

    go : Dec (i < goal_count p) → (goal_count p ≤ i → IsAmong (suc m) q l) → IsAmong m (p ∷ q) l
    go (yes k) later = let e : m ≡ l = loop_numbered m p i l row (here_is k) in record { low = omega (arith, e); high = omega (arith, e) }
    go (no k) later = let b = later (omega (arith, k)) in record { low = omega (arith, b.low); high = omega (arith, b.high) }

-- ---- steps of the searches

pub before_none : (q : List LoopPoint) → 0 ≡ goals_before q 0
before_none [] = refl
before_none (p ∷ q) = refl

pub before_step : (q : List LoopPoint) (i before count more : ℕ) → i < length q → before ≡ goals_before q i → count ≡ goal_count (loop_at q i) → more ≡ before + count → more ≡ goals_before q (i + 1)
before_step q i before count more h b c e =
    let next : suc i ≡ i + 1 = omega arith in
    e ∙ (λ j. b j + c j) ∙ sym (before_next q i h) ∙ ap (goals_before q) next

module _ (q : List LoopPoint) (l left i : ℕ) (h : l < length q) (same : slice_get (row_goals (l + 1) (drop l q)) left ≡ slice_get (row_goals 1 q) i) where
  opened : slice_get (row_goals (l + 1) (loop_at q l ∷ drop (l + 1) q)) left ≡ slice_get (row_goals 1 q) i
  opened = ap (λ xs. slice_get (row_goals (l + 1) xs) left) (sym (drop_more q l Bottom h)) ∙ same

  pub found_here : (at : LoopPoint) (row : ℕ) → at ≡ loop_at q l → slice_get (loop_goals (l + 1) at) left ≡ Some (RowGoal (l + 1) row) → slice_get (row_goals 1 q) i ≡ Some (RowGoal (l + 1) row)
  found_here at row e g =
      sym opened ∙ goal_here (l + 1) (loop_at q l) (drop (l + 1) q) left (RowGoal (l + 1) row) (subst (λ x. slice_get (loop_goals (l + 1) x) left ≡ Some (RowGoal (l + 1) row)) e g)

  pub found_on : (count less : ℕ) → count ≡ goal_count (loop_at q l) → count ≤ left → less ≡ left - count → slice_get (row_goals ((l + 1) + 1) (drop (l + 1) q)) less ≡ slice_get (row_goals 1 q) i
  found_on count less e h' d =
      let number : (l + 1) + 1 ≡ suc (l + 1) = omega arith in
      ap (λ n. slice_get (row_goals n (drop (l + 1) q)) less) number
      ∙ ap (slice_get (row_goals (suc (l + 1)) (drop (l + 1) q))) (d ∙ ap (λ n. left - n) e)
      ∙ sym (goal_on (l + 1) (loop_at q l) (drop (l + 1) q) left (subst (λ n. n ≤ left) e h'))
      ∙ opened

pub row_is : {E : Type 0} (at : LoopPoint) (i : ℕ) (r : Result ℕ E) (rows : List Row) → at ≡ Rows rows → i < goal_count at → IfOk r (λ m. m ≡ i + 1)
    → (l : ℕ) → IfOk r (λ row. slice_get (loop_goals l at) i ≡ Some (RowGoal l row))
row_is Bottom i r rows e h n l = cc
row_is (Rows all) i (Err x) rows e h n l = tt
row_is (Rows all) i (Ok m) rows e h n l =
    let is : 1 + i ≡ m = omega (arith, n) in
    row_here l 1 (length all) i h ∙ ap (λ row. Some (RowGoal l row)) is
