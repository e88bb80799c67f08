-- The goals that events have are those that are listed.
use Rattle.std.proofs.Common.{◌≡◌, ℕ, zero, suc, ◌+◌, ◌<◌, ◌≤◌, Bool, true, false, is_some, List, [], ◌∷◌, ◌++◌, length, Option, Some, None, refl, sym, ap, ◌∙◌, subst, arith, slice_get}
use Rattle.std.specs.List.{Contains}
use Rattle.std.proofs.lemmas.List.Elements.{Contains-append_left, Contains-append_right}
use Rattle.l2_templates.specs.declared.form.Form.{Form}
use Rattle.l2_templates.specs.declared.point.LoopPoint.{LoopPoint}
use Rattle.l2_templates.specs.declared.point.LoopPoint.TheVariants as point
use Rattle.l2_code.specs.Trees.{CodeTree}
use Rattle.l2_cuts.specs.Points.{or_bottom}
use Rattle.l2_ssa.specs.Walks.{Goal, RowGoal, RankGoal, CheckGoal}
use Rattle.l2_ssa_laws.specs.Events.{IsRowOf, HasRows, IsNamed}
use Rattle.l2_ssa_points.specs.Goals.{kind_of, kind_at, goals_of_rows, loop_goals, row_goals, loop_rank_goals, rank_goals, check_goals, last_goals, goals}

-- ---- named goals are listed

more : (x y : Goal) (xs : List Goal) → Contains xs x → Contains (y ∷ xs) x
more x y xs (k, lt, is) = (suc k, omega (arith, lt), is)

here : (x y : Goal) (xs : List Goal) → y ≡ x → Contains (y ∷ xs) x
here x y xs e = (0, omega arith, e)

-- row a + k of so many from row a on
rows_have : (l a m k i : ℕ) → k < m → i ≡ a + k → Contains (goals_of_rows l a m) (RowGoal l i)
rows_have l a zero k i h e = absurd (omega (arith, h))
rows_have l a (suc m) zero i h e = let same : a ≡ i = omega (arith, e) in here (RowGoal l i) (RowGoal l a) (goals_of_rows l (suc a) m) (ap (RowGoal l) same)
rows_have l a (suc m) (suc k) i h e = more (RowGoal l i) (RowGoal l a) (goals_of_rows l (suc a) m) (rows_have l (suc a) m k i (omega (arith, h)) (omega (arith, e)))

loop_has : (l : ℕ) (p : LoopPoint) (i : ℕ) → IsRowOf (kind_of p) i → Contains (loop_goals l p) (RowGoal l i)
loop_has l point.Bottom i h = here (RowGoal l i) (RowGoal l 0) [] (ap (RowGoal l) (sym h))
loop_has l (point.Rows rows) zero h = let some = h.0 in absurd (omega (arith, some))
loop_has l (point.Rows rows) (suc k) h = let most = h.1 in rows_have l 1 (length rows) k (suc k) (omega (arith, most)) (omega arith)

-- loop n + j of those from number n on
loops_have : (n : ℕ) (q : List LoopPoint) (j l i : ℕ) → j < length q → l ≡ n + j → IsRowOf (kind_of (or_bottom (slice_get q j))) i → Contains (row_goals n q) (RowGoal l i)
loops_have n [] j l i h e r = absurd (omega (arith, h))
loops_have n (p ∷ q) zero l i h e r =
    let same : n ≡ l = omega (arith, e) in
    Contains-append_left (loop_goals n p) (row_goals (suc n) q) (RowGoal l i) (subst (λ m. Contains (loop_goals n p) (RowGoal m i)) same (loop_has n p i r))
loops_have n (p ∷ q) (suc j) l i h e r =
    Contains-append_right (loop_goals n p) (row_goals (suc n) q) (RowGoal l i) (loops_have (suc n) q j l i (omega (arith, h)) (omega (arith, e)) r)

rank_has : (l : ℕ) (p : LoopPoint) → HasRows (kind_of p) → Contains (loop_rank_goals l p) (RankGoal l)
rank_has l point.Bottom h = absurd h
rank_has l (point.Rows rows) h = here (RankGoal l) (RankGoal l) [] refl

ranks_have : (n : ℕ) (q : List LoopPoint) (j l : ℕ) → j < length q → l ≡ n + j → HasRows (kind_of (or_bottom (slice_get q j))) → Contains (rank_goals n q) (RankGoal l)
ranks_have n [] j l h e r = absurd (omega (arith, h))
ranks_have n (p ∷ q) zero l h e r =
    let same : n ≡ l = omega (arith, e) in
    Contains-append_left (loop_rank_goals n p) (rank_goals (suc n) q) (RankGoal l) (subst (λ m. Contains (loop_rank_goals n p) (RankGoal m)) same (rank_has n p r))
ranks_have n (p ∷ q) (suc j) l h e r =
    Contains-append_right (loop_rank_goals n p) (rank_goals (suc n) q) (RankGoal l) (ranks_have (suc n) q j l (omega (arith, h)) (omega (arith, e)) r)

checks_have : (a m k n : ℕ) → k < m → n ≡ a + k → Contains (check_goals a m) (CheckGoal n)
checks_have a zero k n h e = absurd (omega (arith, h))
checks_have a (suc m) zero n h e = let same : a ≡ n = omega (arith, e) in here (CheckGoal n) (CheckGoal a) (check_goals (suc a) m) (ap CheckGoal same)
checks_have a (suc m) (suc k) n h e = more (CheckGoal n) (CheckGoal a) (check_goals (suc a) m) (checks_have (suc a) m k n (omega (arith, h)) (omega (arith, e)))

module _ (c : CodeTree) (q : List LoopPoint) (loops : length q ≡ length c.loops) where
  -- a row of a loop of the code
  pub row_listed : (l i : ℕ) → 1 ≤ l → l ≤ length c.loops → IsRowOf (kind_at q l) i → Contains (row_goals 1 q) (RowGoal l i)
  row_listed zero i some most r = absurd (omega (arith, some))
  row_listed (suc j) i some most r = loops_have 1 q j (suc j) i (omega (arith, most, loops)) (omega arith) r

  rank_listed : (l : ℕ) → 1 ≤ l → l ≤ length c.loops → HasRows (kind_at q l) → Contains (rank_goals 1 q) (RankGoal l)
  rank_listed zero some most r = absurd (omega (arith, some))
  rank_listed (suc j) some most r = ranks_have 1 q j (suc j) (omega (arith, most, loops)) (omega arith) r

  pub check_listed : (n : ℕ) → 1 ≤ n → n ≤ length c.checks → Contains (check_goals 1 (length c.checks)) (CheckGoal n)
  check_listed zero some most = absurd (omega (arith, some))
  check_listed (suc k) some most = checks_have 1 (length c.checks) k (suc k) (omega (arith, most)) (omega arith)

  pub named_listed : (ranks : Option (List (List Form))) (goal : Goal) → IsNamed c (kind_at q) (is_some ranks) goal → Contains (goals (length c.checks) q ranks) goal
  named_listed ranks (RowGoal l i) h = Contains-append_left (row_goals 1 q) (last_goals (length c.checks) q ranks) (RowGoal l i) (row_listed l i h.0.0 h.0.1 h.1)
  named_listed None (RankGoal l) h = absurd (cc h.0)
  named_listed (Some r) (RankGoal l) h = Contains-append_right (row_goals 1 q) (rank_goals 1 q) (RankGoal l) (rank_listed l h.1.0 h.1.1 h.2)
  named_listed None (CheckGoal n) h = Contains-append_right (row_goals 1 q) (check_goals 1 (length c.checks)) (CheckGoal n) (check_listed n h.1.0 h.1.1)
  named_listed (Some r) (CheckGoal n) h = absurd (cc h.0)

-- ---- what goals are listed

abbrev Each : (Goal → Type 0) → List Goal → Type 0
Each P [] = Unit {0}
Each P (g ∷ gs) = P g × Each P gs

each_at : (P : Goal → Type 0) (xs : List Goal) (g : Goal) → Each P xs → Contains xs g → P g
each_at P [] g h (k, lt, is) = absurd (omega (arith, lt))
each_at P (x ∷ xs) g h (zero, lt, is) = subst P is h.0
each_at P (x ∷ xs) g h (suc k, lt, is) = each_at P xs g h.1 (k, omega (arith, lt), is)

each_both : (P : Goal → Type 0) (xs ys : List Goal) → Each P xs → Each P ys → Each P (xs ++ ys)
each_both P [] ys h k = k
each_both P (x ∷ xs) ys h k = (h.0, each_both P xs ys h.1 k)

-- the ranking of a loop that has rows, where there are rankings, and checks elsewhere
abbrev pub IsAsked : List LoopPoint → Bool → Goal → Type 0
IsAsked q ranks (RowGoal l i) = Unit {0}
IsAsked q ranks (RankGoal l) = (ranks ≡ true) × HasRows (kind_at q l)
IsAsked q ranks (CheckGoal n) = ranks ≡ false

module _ (whole : List LoopPoint) (ranks : Bool) where
  rows_asked : (l a m : ℕ) → Each (IsAsked whole ranks) (goals_of_rows l a m)
  rows_asked l a zero = tt
  rows_asked l a (suc m) = (tt, rows_asked l (suc a) m)

  loop_asked : (l : ℕ) (p : LoopPoint) → Each (IsAsked whole ranks) (loop_goals l p)
  loop_asked l point.Bottom = (tt, tt)
  loop_asked l (point.Rows rows) = rows_asked l 1 (length rows)

  all_rows_asked : (n : ℕ) (q : List LoopPoint) → Each (IsAsked whole ranks) (row_goals n q)
  all_rows_asked n [] = tt
  all_rows_asked n (p ∷ q) = each_both (IsAsked whole ranks) (loop_goals n p) (row_goals (suc n) q) (loop_asked n p) (all_rows_asked (suc n) q)

checks_asked : (whole : List LoopPoint) (a m : ℕ) → Each (IsAsked whole false) (check_goals a m)
checks_asked whole a zero = tt
checks_asked whole a (suc m) = (refl, checks_asked whole (suc a) m)

rank_asked : (whole : List LoopPoint) (n : ℕ) (p : LoopPoint) → slice_get whole n ≡ Some p → Each (IsAsked whole true) (loop_rank_goals (suc n) p)
rank_asked whole n point.Bottom e = tt
rank_asked whole n (point.Rows rows) e = ((refl, subst (λ o. HasRows (kind_of (or_bottom o))) (sym e) tt), tt)

ranks_asked : (whole : List LoopPoint) (n : ℕ) (q : List LoopPoint) → ((j : ℕ) → slice_get whole (n + j) ≡ slice_get q j) → Each (IsAsked whole true) (rank_goals (suc n) q)
ranks_asked whole n [] h = tt
ranks_asked whole n (p ∷ q) h =
    each_both (IsAsked whole true) (loop_rank_goals (suc n) p) (rank_goals (suc (suc n)) q)
    (rank_asked whole n p (let e : n ≡ n + 0 = omega arith in ap (slice_get whole) e ∙ h 0))
    (ranks_asked whole (suc n) q (λ j. let e : suc n + j ≡ n + suc j = omega arith in ap (slice_get whole) e ∙ h (suc j)))

pub listed_asked : (checks : ℕ) (q : List LoopPoint) (ranks : Option (List (List Form))) (goal : Goal) → Contains (goals checks q ranks) goal → IsAsked q (is_some ranks) goal
listed_asked checks q None goal h =
    each_at (IsAsked q false) (goals checks q None) goal (each_both (IsAsked q false) (row_goals 1 q) (check_goals 1 checks) (all_rows_asked q false 1 q) (checks_asked q 1 checks)) h
listed_asked checks q (Some r) goal h =
    each_at (IsAsked q true) (goals checks q (Some r)) goal
    (each_both (IsAsked q true) (row_goals 1 q) (rank_goals 1 q) (all_rows_asked q true 1 q) (ranks_asked q 0 q (λ j. let e : 0 + j ≡ j = omega arith in ap (slice_get q) e))) h
