-- Models of formulas in whole numbers.
use Rattle.std.proofs.Common.{◌≡◌, ℕ, ◌<◌, Bool, is_some, List, [], ◌∷◌, ◌++◌, length, map, Option, refl, sym, subst, arith, slice_index_or}
use Rattle.std.specs.List.{Contains}
use Rattle.l2_templates.specs.declared.form.Form.{Form}
use Rattle.l2_templates.specs.declared.point.LoopPoint.{LoopPoint}
use Rattle.l2_cnf.specs.Logic.{Satisfies}
use Rattle.l2_code.specs.Trees.{CodeTree}
use Rattle.l2_code.specs.Sets.{Family}
use Rattle.l2_ssa.specs.Walks.{Goal, Out}
use Rattle.l2_ssa.specs.Law.{ssa}
use Rattle.l2_gates.specs.Gates.{Lit}
use Rattle.l2_blast.specs.Words.{Fill}
use Rattle.l2_blast.specs.Blasting.{Blasted}
use Rattle.l2_ssa_points.specs.Goals.{kind_at, goals}
use Rattle.l2_ssa_points.specs.Places.{vars_of}
use Rattle.l2_goals.specs.Fills.{fill_of}
use Rattle.l2_goals.specs.Formulas.{walk_formulas, formulas_of, walk_formula_of, literals}
use Rattle.l2_goals.specs.Numbers.{numbers, all_numbers}
use Rattle.l2_goal_laws.specs.Models.{clauses_with, HasModel}
use Rattle.l2_goal_laws.specs.Law.{NoneHasModels}
use Rattle.l2_goal_laws.proofs.Words.{by_variable, by_index, all_back, all_with, all_parts, all_satisfied, satisfied, at_map, map_length}

abbrev pub fill_at : CodeTree → List LoopPoint → Option (List (List Form)) → Fill
fill_at c q ranks = fill_of (vars_of c) q ranks

abbrev pub out_at : CodeTree → Family → ℕ → List LoopPoint → Option (List (List Form)) → Out
out_at c f k q ranks = ssa c f k (kind_at q) (is_some ranks)

abbrev pub made_at : CodeTree → Family → ℕ → List LoopPoint → Option (List (List Form)) → Blasted
made_at c f k q ranks = clauses_with c (fill_at c q ranks) (out_at c f k q ranks)

formula_is : (c : CodeTree) (f : Family) (k : ℕ) (q : List LoopPoint) (ranks : Option (List (List Form))) (goal : Goal)
    → walk_formula_of c f k q ranks goal ≡ (made_at c f k q ranks).made.clauses ++ literals (made_at c f k q ranks).env goal (out_at c f k q ranks).events ∷ []
unfolding walk_formula_of
formula_is c f k q ranks goal = refl

formulas_are : (c : CodeTree) (f : Family) (k : ℕ) (q : List LoopPoint) (ranks : Option (List (List Form)))
    → walk_formulas c f k q ranks ≡ formulas_of (made_at c f k q ranks) (out_at c f k q ranks).events (goals (length c.checks) q ranks)
unfolding walk_formulas
formulas_are c f k q ranks = refl

module _ (c : CodeTree) (f : Family) (k : ℕ) (q : List LoopPoint) (ranks : Option (List (List Form))) where
  abbrev clause : Goal → List Lit
  clause goal = literals (made_at c f k q ranks).env goal (out_at c f k q ranks).events

  pub formula_met : (goal : Goal) → (v : ℕ → Bool) × Satisfies v (all_numbers (walk_formula_of c f k q ranks goal)) → HasModel c (fill_at c q ranks) (out_at c f k q ranks) goal
  formula_met goal (v, h) =
      let base = (made_at c f k q ranks).made.clauses in
      let all = subst (λ cs. Satisfies v (all_numbers cs)) (formula_is c f k q ranks goal) h in
      let parts = all_parts (by_index v) base (clause goal) (all_back v (base ++ clause goal ∷ []) all) in
      (by_index v, (parts.0, parts.1))

  pub met_formula : (goal : Goal) → HasModel c (fill_at c q ranks) (out_at c f k q ranks) goal → (v : ℕ → Bool) × Satisfies v (all_numbers (walk_formula_of c f k q ranks goal))
  met_formula goal (v, (ok, t)) =
      let base = (made_at c f k q ranks).made.clauses in
      (by_variable v, subst (λ cs. Satisfies (by_variable v) (all_numbers cs)) (sym (formula_is c f k q ranks goal)) (all_satisfied v (base ++ clause goal ∷ []) (all_with v base (clause goal) ok t)))

  none_of : NoneHasModels (formulas_of (made_at c f k q ranks) (out_at c f k q ranks).events (goals (length c.checks) q ranks)) → (goal : Goal) → Contains (goals (length c.checks) q ranks) goal
      → HasModel c (fill_at c q ranks) (out_at c f k q ranks) goal → ⊥
  none_of none goal (i, lt, is) (v, (ok, t)) =
      let base = (made_at c f k q ranks).made.clauses in
      let all = goals (length c.checks) q ranks in
      let long = map_length clause all in
      let within : i < length (map clause all) = omega (arith, lt, long) in
      let at : slice_index_or (map numbers (map clause all)) i [] ≡ numbers (clause goal) = at_map numbers (map clause all) i (clause goal) [] within (at_map clause all i goal (clause goal) lt is) in
      none i within (by_variable v) (subst (λ last. Satisfies (by_variable v) (all_numbers base ++ last ∷ [])) (sym at) (satisfied v base (clause goal) ok t))

  -- where no formula has a model no listed goal has one
  pub none_met : NoneHasModels (walk_formulas c f k q ranks) → (goal : Goal) → Contains (goals (length c.checks) q ranks) goal → HasModel c (fill_at c q ranks) (out_at c f k q ranks) goal → ⊥
  none_met none goal listed m = none_of (subst NoneHasModels (formulas_are c f k q ranks) none) goal listed m
