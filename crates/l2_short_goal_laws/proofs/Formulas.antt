-- The short formulas of a code, as the clauses of its equations.
use Rattle.std.proofs.Common.{arith, ◌≡◌, refl, ap, sym, ◌∙◌, subst, ℕ, zero, suc, ◌+◌, ◌<◌, Bool, false, List, [], ◌∷◌, ◌++◌, length, map, slice_get, slice_index_or}
use Rattle.std.proofs.lemmas.List.{map-append}
use Rattle.l2_cnf.specs.Logic.{Satisfies}
use Rattle.l2_code.specs.declared.code.CodeLoop.{CodeLoop}
use Rattle.l2_code.specs.Trees.{Node, Do, Block, Loop, Nodes, none, more, CodeTree}
use Rattle.l2_code.specs.Sets.{Family}
use Rattle.l2_code.specs.WellFormed as formed
use Rattle.l2_code.specs.WellFormed.{IsNumber, Scope, Names, names_of, behind_node, empty_scope, IsWellFormed}
use Rattle.l2_gates.specs.Gates.{Lit}
use Rattle.l2_ssa.specs.declared.goal.Kind.TheVariants.{Plain as KeptPlain}
use Rattle.l2_ssa.specs.Walks as walks
use Rattle.l2_ssa.specs.Walks.{Kind, Plain, Goal, CheckGoal, Out}
use Rattle.l2_ssa.specs.Views.{kind_of, kinds_of}
use Rattle.l2_ssa.specs.Law.{setting_of, first_walk}
use Rattle.l2_ssa_points.specs.Goals.{check_goals}
use Rattle.l2_blast.specs.Words.{literal}
use Rattle.l2_blast.specs.Blasting.{Blasted}
use Rattle.l2_goals.specs.Formulas.{Formulas, formulas_of, literals, rows_of_kinds, goals_of_kinds, walk_formulas_with}
use Rattle.l2_goals.specs.Numbers.{numbers, all_numbers, AreFormulas}
use Rattle.l2_goal_laws.specs.Models.{clauses_with, IsModel}
use Rattle.l2_goal_laws.proofs.Words.{by_variable, by_index, all_back, all_parts, all_with, all_satisfied, map_length}
use Rattle.l2_short_laws.specs.Shorts.{short_ssa}
use Rattle.l2_short_goals.specs.declared.making.ShortGoals.{ShortGoals}
use Rattle.l2_short_goals.specs.Shorts.{no_fill, plain_kinds}
use Rattle.l2_short_goals.specs.Taken.{choices_of, short_walk, short_choices, short_heads}
use Rattle.l2_short_goal_laws.specs.Law.{check_formula}
use Rattle.l2_short_goal_laws.proofs.AlikeKinds.{Alike, AlikeNode, nodes_same}

-- ---- kinds

plain_in : (xs : List CodeLoop) (n : ℕ) → n < length xs → kind_of (slice_get (map (λ (l : CodeLoop). KeptPlain) xs) n) ≡ Plain
plain_in [] n h = absurd (omega (arith, h))
plain_in (x ∷ xs) zero h = refl
plain_in (x ∷ xs) (suc n) h = plain_in xs n (omega (arith, h))

plain_at : (c : CodeTree) (l : ℕ) → IsNumber (length c.loops) l → kinds_of (plain_kinds c) l ≡ Plain
plain_at c zero h = let some = h.0 in absurd (omega (arith, some))
plain_at c (suc n) h = let most = h.1 in plain_in c.loops n (omega (arith, most))

module _ (c : CodeTree) where
  mutual
    node_alike : (x : Node) (scope : Scope) → formed.IsTypedNode (names_of c) scope x → AlikeNode (kinds_of (plain_kinds c)) (λ l. Plain) x
    node_alike (Do a) scope t = tt
    node_alike (Block all) scope t = nodes_alike all scope t
    node_alike (Loop l all) scope t = (plain_at c l t.0, nodes_alike all scope t.1)

    nodes_alike : (xs : Nodes) (scope : Scope) → formed.AreTyped (names_of c) scope xs → Alike (kinds_of (plain_kinds c)) (λ l. Plain) xs
    nodes_alike none scope t = tt
    nodes_alike (more x rest) scope t = (node_alike x scope t.0, nodes_alike rest (behind_node scope x) t.1)

  pub walk_is : IsWellFormed c → (f : Family) (k : ℕ) → short_walk c f k ≡ short_ssa c f k
  walk_is formed f k =
      nodes_same (setting_of c f k (λ l. Plain) false) (kinds_of (plain_kinds c)) c.body (nodes_alike c.body empty_scope formed.typed) [] walks.T 0 (first_walk c)

-- ---- goals

no_rows : (l : ℕ) (xs : List CodeLoop) → rows_of_kinds l (map (λ (x : CodeLoop). KeptPlain) xs) ≡ []
no_rows l [] = refl
no_rows l (x ∷ xs) = no_rows (suc l) xs

goals_are : (c : CodeTree) (n : ℕ) → goals_of_kinds n (plain_kinds c) false ≡ check_goals 1 n
goals_are c n = ap (λ gs. gs ++ check_goals 1 n) (no_rows 1 c.loops)

pub check_at : (j n i : ℕ) (d : Goal) → i < n → slice_index_or (check_goals j n) i d ≡ CheckGoal (j + i)
check_at j zero i d h = absurd (omega (arith, h))
check_at j (suc n) zero d h = let e : j ≡ j + 0 = omega arith in ap CheckGoal e
check_at j (suc n) (suc i) d h = let e : suc j + i ≡ j + suc i = omega arith in check_at (suc j) n i d (omega (arith, h)) ∙ ap CheckGoal e

check_count : (j n : ℕ) → length (check_goals j n) ≡ n
check_count j zero = refl
check_count j (suc n) = ap suc (check_count (suc j) n)

at_map : {X Y : Type 0} (h : X → Y) (xs : List X) (k : ℕ) (d : X) (e : Y) → k < length xs → slice_index_or (map h xs) k e ≡ h (slice_index_or xs k d)
at_map h [] k d e lt = absurd (omega (arith, lt))
at_map h (x ∷ xs) zero d e lt = refl
at_map h (x ∷ xs) (suc k) d e lt = at_map h xs k d e (omega (arith, lt))

-- ---- formulas

module _ (c : CodeTree) (formed : IsWellFormed c) (f : Family) (k : ℕ) where
  abbrev pub out : Out
  out = short_ssa c f k

  abbrev pub blasted : Blasted
  blasted = clauses_with c no_fill out

  abbrev clause : Goal → List Lit
  clause goal = literals blasted.env goal out.events

  formulas_are : walk_formulas_with c f k (plain_kinds c) false no_fill ≡ formulas_of blasted out.events (check_goals 1 (length c.checks))
  unfolding walk_formulas_with
  formulas_are = λ i. formulas_of (clauses_with c no_fill (walk_is c formed f k i)) (walk_is c formed f k i).events (goals_are c (length c.checks) i)

  pub choices_are : short_choices c f k ≡ choices_of blasted.env 0 out.steps
  unfolding short_choices
  choices_are = ap (λ (o : Out). choices_of (clauses_with c no_fill o).env 0 o.steps) (walk_is c formed f k)

  pub heads_are : short_heads c f k ≡ map (literal blasted.env) out.heads
  unfolding short_heads
  heads_are = ap (λ (o : Out). map (literal (clauses_with c no_fill o).env) o.heads) (walk_is c formed f k)

  module _ (s : ShortGoals) (are : AreFormulas s.goals (walk_formulas_with c f k (plain_kinds c) false no_fill)) where
    base_is : s.goals.base ≡ all_numbers blasted.made.clauses
    base_is = are.base ∙ ap (λ (fs : Formulas). all_numbers fs.base) formulas_are

    last_is : s.goals.last ≡ all_numbers (map clause (check_goals 1 (length c.checks)))
    last_is = are.last ∙ ap (λ (fs : Formulas). all_numbers fs.last) formulas_are

    pub count_is : length s.goals.last ≡ length c.checks
    count_is =
        ap length last_is ∙ map_length numbers (map clause (check_goals 1 (length c.checks))) ∙ map_length clause (check_goals 1 (length c.checks)) ∙ check_count 1 (length c.checks)

    clause_is : (i : ℕ) → i < length c.checks → slice_index_or s.goals.last i [] ≡ numbers (clause (CheckGoal (suc i)))
    clause_is i h =
        let all = check_goals 1 (length c.checks) in
        let long = check_count 1 (length c.checks) in
        let long2 = map_length clause all in
        let next : 1 + i ≡ suc i = omega arith in
        ap (λ xs. slice_index_or xs i []) last_is
        ∙ at_map numbers (map clause all) i [] [] (omega (arith, h, long, long2))
        ∙ ap numbers (at_map clause all i (CheckGoal 0) [] (omega (arith, h, long)) ∙ ap clause (check_at 1 (length c.checks) i (CheckGoal 0) h ∙ ap CheckGoal next))

    formula_is : (i : ℕ) → i < length c.checks → check_formula s i ≡ all_numbers (blasted.made.clauses ++ clause (CheckGoal (suc i)) ∷ [])
    formula_is i h =
        (λ j. base_is j ++ clause_is i h j ∷ []) ∙ sym (map-append numbers blasted.made.clauses (clause (CheckGoal (suc i)) ∷ []))

    pub model_of : (i : ℕ) → i < length c.checks → (w : ℕ → Bool) → Satisfies w (check_formula s i) → IsModel blasted out (CheckGoal (suc i)) (by_index w)
    model_of i h w sat =
        let parts = all_parts (by_index w) blasted.made.clauses (clause (CheckGoal (suc i))) (all_back w (blasted.made.clauses ++ clause (CheckGoal (suc i)) ∷ []) (subst (Satisfies w) (formula_is i h) sat)) in
        (parts.0, parts.1)

    pub of_model : (i : ℕ) → i < length c.checks → (v : ℕ → Bool) → IsModel blasted out (CheckGoal (suc i)) v → Satisfies (by_variable v) (check_formula s i)
    of_model i h v m =
        subst (Satisfies (by_variable v)) (sym (formula_is i h))
        (all_satisfied v (blasted.made.clauses ++ clause (CheckGoal (suc i)) ∷ []) (all_with v blasted.made.clauses (clause (CheckGoal (suc i))) m.0 m.1))
