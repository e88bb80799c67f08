-- The goals of rankings among all goals, and models of their clauses.
use Rattle.std.proofs.Common.{◌≡◌, ℕ, zero, suc, ◌+◌, ◌-◌, ◌<◌, ◌≤◌, Bool, true, ℤ, List, [], ◌∷◌, ◌++◌, length, map, Some, Result, Ok, Err, refl, sym, ap, ◌∙◌, subst, arith, slice_get, slice_index_or}
use Rattle.std.specs.Prelude.{◌↔◌, IfOk, IsTrue}
use Rattle.std.proofs.lemmas.List.{length-map, map-append}
use Rattle.std.proofs.lemmas.Option.{slice_get_within, get_or_from_slice_get}
use Rattle.l2_templates.specs.declared.point.LoopPoint.{LoopPoint}
use Rattle.l2_templates.specs.declared.point.LoopPoint.TheVariants.{Bottom, Rows}
use Rattle.l2_templates.specs.Points.{loop_at}
use Rattle.l2_cuts.specs.Points.{point_at}
use Rattle.l2_cnf.specs.Logic.{Satisfies}
use Rattle.l2_code.specs.Trees.{CodeTree}
use Rattle.l2_code.specs.Sets.{Family}
use Rattle.l2_ssa.specs.Views.{kinds_of, kind_of as kept_is}
use Rattle.l2_ssa.specs.Walks.{Goal, RowGoal, RankGoal, Out}
use Rattle.l2_ssa.specs.Law.{ssa}
use Rattle.l2_gates.specs.Gates.{Lit}
use Rattle.l2_blast.specs.Words.{Fill}
use Rattle.l2_blast.specs.Kept.{setting_of}
use Rattle.l2_blast.specs.Blasting.{Blasted, clauses_of}
use Rattle.l2_ssa_points.specs.Goals.{goals_of_rows, kind_of, kind_at, row_goals, rank_goals}
use Rattle.l2_goals.specs.declared.making.Goals.{Goals}
use Rattle.l2_goals.specs.Formulas.{Formulas, formulas_of, literals, rows_of_kinds, ranks_of_kinds, walk_formulas_with}
use Rattle.l2_goals.specs.Kept.{kept_kind, kept_kinds}
use Rattle.l2_goals.specs.Numbers.{numbers, all_numbers, AreFormulas}
use Rattle.l2_goal_laws.specs.Models.{clauses_with, HasModel}
use Rattle.l2_goal_laws.proofs.Words.{by_variable, by_index, all_back, all_parts, satisfied, at_map}
use Rattle.l2_missed.specs.Meeting.{IsMet, HasModel as HasClauses}
use Rattle.l2_row_engine.proofs.Standing.{on}
use Rattle.l2_turn_engine.specs.Lists.{rank_count, ranks_before, rank_index}

-- ---- kinds and goals of a point

same_kind : (x : LoopPoint) → kept_is (Some (kept_kind x)) ≡ kind_of x
same_kind Bottom = refl
same_kind (Rows rows) = refl

kind_in : (q : List LoopPoint) (n : ℕ) → kinds_of (kept_kinds q) (suc n) ≡ kind_at q (suc n)
kind_in [] n = refl
kind_in (x ∷ q) zero = same_kind x
kind_in (x ∷ q) (suc n) = kind_in q n

kind_same : (q : List LoopPoint) (l : ℕ) → kinds_of (kept_kinds q) l ≡ kind_at q l
kind_same q zero = refl
kind_same q (suc n) = kind_in q n

rows_in : (l : ℕ) (q : List LoopPoint) → rows_of_kinds l (kept_kinds q) ≡ row_goals l q
rows_in l [] = refl
rows_in l (Bottom ∷ q) = ap (λ gs. RowGoal l 0 ∷ gs) (rows_in (suc l) q)
rows_in l (Rows rows ∷ q) = ap (λ gs. goals_of_rows l 1 (length rows) ++ gs) (rows_in (suc l) q)

ranks_in : (l : ℕ) (q : List LoopPoint) → ranks_of_kinds l (kept_kinds q) ≡ rank_goals l q
ranks_in l [] = refl
ranks_in l (Bottom ∷ q) = ranks_in (suc l) q
ranks_in l (Rows rows ∷ q) = ap (λ gs. RankGoal l ∷ gs) (ranks_in (suc l) q)

-- the goals of rows, and then those of rankings
abbrev pub all_goals : List LoopPoint → List Goal
all_goals q = row_goals 1 q ++ rank_goals 1 q

-- ---- where they stand

rank_here : (n : ℕ) (q : List LoopPoint) (i : ℕ) → i < length q → 1 ≤ rank_count (point_at q (suc i)) → slice_get (rank_goals n q) (ranks_before q i) ≡ Some (RankGoal (n + i))
rank_here n [] i h some = absurd (omega (arith, h))
rank_here n (Bottom ∷ q) zero h some = absurd (omega (arith, some))
rank_here n (Rows rows ∷ q) zero h some = ap (λ m. Some (RankGoal m)) (omega arith)
rank_here n (Bottom ∷ q) (suc i) h some =
    let number : suc n + i ≡ n + suc i = omega arith in
    let back : 0 + ranks_before q i ≡ ranks_before q i = omega arith in
    ap (slice_get (rank_goals (suc n) q)) back ∙ rank_here (suc n) q i (omega (arith, h)) some ∙ ap (λ m. Some (RankGoal m)) number
rank_here n (Rows rows ∷ q) (suc i) h some =
    let number : suc n + i ≡ n + suc i = omega arith in
    let back : 1 + ranks_before q i ≡ suc (ranks_before q i) = omega arith in
    ap (slice_get (RankGoal n ∷ rank_goals (suc n) q)) back ∙ rank_here (suc n) q i (omega (arith, h)) some ∙ ap (λ m. Some (RankGoal m)) number

pub before_none : (q : List LoopPoint) → 0 ≡ ranks_before q 0
before_none [] = refl
before_none (p ∷ q) = refl

before_next : (q : List LoopPoint) (i : ℕ) → i < length q → ranks_before q (suc i) ≡ ranks_before q i + rank_count (loop_at q i)
before_next [] i h = absurd (omega (arith, h))
before_next (p ∷ []) zero h = omega arith
before_next (p ∷ r ∷ q) zero h = omega arith
before_next (p ∷ q) (suc i) h =
    let e : ranks_before q (suc i) ≡ ranks_before q i + rank_count (loop_at q i) = before_next q i (omega (arith, h)) in
    omega (arith, e)

pub before_step : (q : List LoopPoint) (i before count more : ℕ) → i < length q → before ≡ ranks_before q i → count ≡ rank_count (loop_at q i) → more ≡ before + count → more ≡ ranks_before q (i + 1)
before_step q i before count more h b c m =
    let next = before_next q i h in
    let up : suc i ≡ i + 1 = omega arith in
    m ∙ (λ j. b j + c j) ∙ sym next ∙ ap (ranks_before q) up

goal_here : (q : List LoopPoint) (i : ℕ) → i < length q → 1 ≤ rank_count (point_at q (suc i)) → slice_get (all_goals q) (rank_index q i) ≡ Some (RankGoal (suc i))
goal_here q i h some =
    let number : 1 + i ≡ suc i = omega arith in
    let back : (length (row_goals 1 q) + ranks_before q i) - length (row_goals 1 q) ≡ ranks_before q i = omega arith in
    on (row_goals 1 q) (rank_goals 1 q) (rank_index q i) (omega arith) ∙ ap (slice_get (rank_goals 1 q)) back ∙ rank_here 1 q i h some ∙ ap (λ m. Some (RankGoal m)) number

-- ---- as questions are asked

pub met_as : {E : Type 0} (r : Result Bool E) (base last : List (List ℤ)) (goal : ℕ) (shared : List (List ℤ)) (i : ℕ) (clause : List ℤ) → shared ≡ base → i ≡ goal → clause ≡ slice_index_or last i []
    → IfOk r (λ m. IsTrue m ↔ HasClauses (shared ++ clause ∷ [])) → IfOk r (λ m. IsTrue m ↔ IsMet base last goal)
met_as (Ok m) base last goal shared i clause s e c h =
    let whole : shared ++ clause ∷ [] ≡ base ++ slice_index_or last goal [] ∷ [] = (λ j. s j ++ c j ∷ []) ∙ ap (λ n. base ++ slice_index_or last n [] ∷ []) e in
    subst (λ cs. IsTrue m ↔ HasClauses cs) whole h
met_as (Err x) base last goal shared i clause s e c h = tt

-- ---- formulas

module _ (c : CodeTree) (f : Family) (k : ℕ) (q : List LoopPoint) (fill : Fill) where
  abbrev pub out : Out
  out = ssa c f k (kind_at q) true

  abbrev clauses : Blasted
  clauses = clauses_with c fill out

  abbrev clause : Goal → List Lit
  clause goal = literals clauses.env goal out.events

  formulas_are : walk_formulas_with c f k (kept_kinds q) true fill ≡ formulas_of clauses out.events (all_goals q)
  unfolding walk_formulas_with
  formulas_are =
      (λ j. formulas_of (clauses_of (setting_of c fill) (ssa c f k (λ l. kind_same q l j) true).steps) (ssa c f k (λ l. kind_same q l j) true).events (rows_in 1 q j ++ ranks_in 1 q j))

  module _ (g : Goals) (is : AreFormulas g (walk_formulas_with c f k (kept_kinds q) true fill)) (i : ℕ) (within : i < length q) (some : 1 ≤ rank_count (point_at q (suc i))) where
    abbrev index : ℕ
    index = rank_index q i

    base_is : g.base ≡ all_numbers clauses.made.clauses
    base_is = is.base ∙ ap (λ (fs : Formulas). all_numbers fs.base) formulas_are

    last_is : g.last ≡ all_numbers (map clause (all_goals q))
    last_is = is.last ∙ ap (λ (fs : Formulas). all_numbers fs.last) formulas_are

    goal_within : index < length (all_goals q)
    goal_within = slice_get_within (all_goals q) index (RankGoal (suc i)) (goal_here q i within some)

    mapped_within : index < length (map clause (all_goals q))
    mapped_within = let h = goal_within in let long = length-map (all_goals q) clause in omega (arith, h, long)

    pub index_within : index < length g.last
    index_within = let h = mapped_within in let long = ap length last_is ∙ length-map (map clause (all_goals q)) numbers in omega (arith, h, long)

    clause_is : slice_index_or g.last index [] ≡ numbers (clause (RankGoal (suc i)))
    clause_is =
        ap (λ cs. slice_index_or cs index []) last_is
        ∙ at_map numbers (map clause (all_goals q)) index (clause (RankGoal (suc i))) [] mapped_within
        (at_map clause (all_goals q) index (RankGoal (suc i)) (clause (RankGoal (suc i))) goal_within (get_or_from_slice_get (all_goals q) index (RankGoal (suc i)) (RankGoal (suc i)) (goal_here q i within some)))

    whole_is : g.base ++ slice_index_or g.last index [] ∷ [] ≡ all_numbers (clauses.made.clauses ++ clause (RankGoal (suc i)) ∷ [])
    whole_is = (λ j. base_is j ++ clause_is j ∷ []) ∙ sym (map-append numbers clauses.made.clauses (clause (RankGoal (suc i)) ∷ []))

    pub met_is : IsMet g.base g.last index ↔ HasModel c fill out (RankGoal (suc i))
    met_is = (
      λ m.
          let all = all_parts (by_index m.0) clauses.made.clauses (clause (RankGoal (suc i))) (all_back m.0 (clauses.made.clauses ++ clause (RankGoal (suc i)) ∷ []) (subst (Satisfies m.0) whole_is m.1)) in
          (by_index m.0, (all.0, all.1)),
      λ m. (by_variable m.0, subst (Satisfies (by_variable m.0)) (λ j. sym base_is j ++ sym clause_is j ∷ []) (satisfied m.0 clauses.made.clauses (clause (RankGoal (suc i))) m.1.0 m.1.1)),
    )
