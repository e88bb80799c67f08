-- A goal whose formula has a model is missed by some cut run; so at a point that proves no goal's formula has one.
use Rattle.std.proofs.Common.{◌≡◌, ℕ, zero, suc, ◌<◌, ◌≤◌, List, [], ◌∷◌, ◌++◌, length, map, get_or, refl, sym, ap, ◌∙◌, subst, Some, None, option_map, arith}
use Rattle.std.specs.Prelude.{ℤ, Option, slice_get, slice_index_or, Contains}
use Rattle.std.specs.List.{All}
use Rattle.std.proofs.lemmas.List.{length-map, map-append}
use Rattle.std.proofs.lemmas.List.Elements.{All-nil, All-cons, All-head, All-tail, All-append}
use Rattle.std.proofs.lemmas.Option.{slice_get_within, slice_get-map, get_or_from_slice_get}
use Rattle.l2_runs.specs.declared.outcome.Outcome.TheVariants.{Broken}
use Rattle.l2_runs.specs.Runs.{Over, Fallen}
use Rattle.l2_program.specs.Programs.{ProgramTree}
use Rattle.l2_meaning.specs.Lawful.{IsLawful}
use Rattle.l2_meaning.specs.Execution.{IsBroken}
use Rattle.l2_templates.specs.declared.form.Form.{Form}
use Rattle.l2_templates.specs.declared.point.LoopPoint.{LoopPoint}
use Rattle.l2_templates.specs.declared.point.LoopPoint.TheVariants.{Bottom, Rows}
use Rattle.l2_code.specs.Trees.{CodeTree}
use Rattle.l2_code.specs.Sets.{Family, IsResolved}
use Rattle.l2_lower.specs.Code.{code}
use Rattle.l2_cuts.specs.Cuts.{IsFallen, row_end, Infers, Proves}
use Rattle.l2_ssa.specs.Walks.{Goal, RowGoal, RankGoal, CheckGoal, Event}
use Rattle.l2_ssa_points.specs.Goals.{goals_of_rows, loop_goals, row_goals, check_goals, goals}
use Rattle.l2_blast.specs.Blasting.{Blasted, clauses_of}
use Rattle.l2_labels.specs.Labels.{one_label}
use Rattle.l2_goals.specs.Formulas.{literals, formulas_of, equations, setting, formulas, formula_of, walk_formulas, walk_formula_of}
use Rattle.l2_goals.specs.Numbers.{all_numbers, numbers}
use Rattle.l2_goal_laws.specs.Fits.{AreOf}
use Rattle.l2_goal_laws.specs.Law.{FormulasAreRuns, IsMissed}
use Rattle.l2_refute.specs.Refuting.{HasModel}
use Rattle.l2_certify.specs.Certifying.{SomeGoalHasModel}

-- ---- the formula of a goal

last_is : {A B C : Type 0} (g : A → B) (h : B → C) (xs : List A) (i : ℕ) (x : A) (d : C) → slice_get xs i ≡ Some x → get_or (map h (map g xs)) i d ≡ h (g x)
last_is g h xs i x d e = get_or_from_slice_get (map h (map g xs)) i (h (g x)) d (slice_get-map h (map g xs) i ∙ ap (option_map h) (slice_get-map g xs i ∙ ap (option_map g) e))

at_of : (b : Blasted) (events : List Event) (all : List Goal) (i : ℕ) (goal : Goal) → slice_get all i ≡ Some goal
    → all_numbers (formulas_of b events all).base ++ slice_index_or (all_numbers (formulas_of b events all).last) i [] ∷ [] ≡ all_numbers (b.made.clauses ++ literals b.env goal events ∷ [])
at_of b events all i goal e =
    ap (λ l. all_numbers b.made.clauses ++ l ∷ []) (last_is (λ g. literals b.env g events) numbers all i goal [] e) ∙ sym (map-append numbers b.made.clauses (literals b.env goal events ∷ []))

formula_at : (c : CodeTree) (f : Family) (k : ℕ) (q : List LoopPoint) (ranks : Option (List (List Form))) (i : ℕ) (goal : Goal) → slice_get (goals (length c.checks) q ranks) i ≡ Some goal
    → all_numbers (formulas c f k q ranks).base ++ slice_index_or (all_numbers (formulas c f k q ranks).last) i [] ∷ [] ≡ all_numbers (formula_of c f k q ranks goal)
unfolding walk_formulas walk_formula_of
formula_at c f k q ranks i goal e =
    let o = equations (one_label c) f k q ranks in
    at_of (clauses_of (setting (one_label c) q ranks) o.steps) o.events (goals (length c.checks) q ranks) i goal e

counted : (c : CodeTree) (f : Family) (k : ℕ) (q : List LoopPoint) (ranks : Option (List (List Form))) → length (all_numbers (formulas c f k q ranks).last) ≡ length (goals (length c.checks) q ranks)
unfolding walk_formulas
counted c f k q ranks = length-map _ numbers ∙ length-map (goals (length c.checks) q ranks) _

stands : {A : Type 0} (xs : List A) (i : ℕ) (x : A) → slice_get xs i ≡ Some x → Contains xs x
stands xs i x e = (i, slice_get_within xs i x e, get_or_from_slice_get xs i x x e)

here : {A : Type 0} (xs : List A) (i : ℕ) → i < length xs → (x : A) × (slice_get xs i ≡ Some x)
here [] i h = absurd (omega (arith, h))
here (x ∷ xs) zero h = (x, refl)
here (x ∷ xs) (suc i) h = here xs i (omega (arith, h))

-- ---- what is missed

module _ (runs : FormulasAreRuns) (p : ProgramTree) (lawful : IsLawful p) (f : Family) (resolved : IsResolved (code p) f) (k : ℕ) (some : 1 ≤ k) (q : List LoopPoint) (ranks : Option (List (List Form))) (over : AreOf (code p) q ranks) where
  abbrev all : List Goal
  all = goals (length (code p).checks) q ranks

  met : (i : ℕ) (goal : Goal) → slice_get all i ≡ Some goal → HasModel (all_numbers (formulas (code p) f k q ranks).base ++ slice_index_or (all_numbers (formulas (code p) f k q ranks).last) i [] ∷ []) → IsMissed p f.object k q ranks goal
  met i goal e m =
      (runs p lawful f resolved k some q ranks over goal (stands all i goal e)).0 (subst HasModel (formula_at (code p) f k q ranks i goal e) m)

  pub some_missed : SomeGoalHasModel (formulas (code p) f k q ranks) → (i : ℕ) × (goal : Goal) × (slice_get all i ≡ Some goal) × IsMissed p f.object k q ranks goal
  some_missed (i, within, model) =
      let h = here all i (subst (λ n. i < n) (counted (code p) f k q ranks) within) in
      (i, h.0, h.1, met i h.0 h.1 model)

-- ---- goals without rankings

abbrev IsPlain : Goal → Type 0
IsPlain (RowGoal l i) = Unit {0}
IsPlain (RankGoal l) = ⊥
IsPlain (CheckGoal n) = Unit {0}

plain_rows : (l i n : ℕ) → All IsPlain (goals_of_rows l i n)
plain_rows l i zero = All-nil IsPlain
plain_rows l i (suc n) = All-cons IsPlain (RowGoal l i) (goals_of_rows l (suc i) n) tt (plain_rows l (suc i) n)

plain_loop : (l : ℕ) (a : LoopPoint) → All IsPlain (loop_goals l a)
plain_loop l Bottom = All-cons IsPlain (RowGoal l 0) [] tt (All-nil IsPlain)
plain_loop l (Rows rows) = plain_rows l 1 (length rows)

plain_loops : (l : ℕ) (q : List LoopPoint) → All IsPlain (row_goals l q)
plain_loops l [] = All-nil IsPlain
plain_loops l (a ∷ q) = All-append IsPlain (loop_goals l a) (row_goals (suc l) q) (plain_loop l a) (plain_loops (suc l) q)

plain_checks : (n m : ℕ) → All IsPlain (check_goals n m)
plain_checks n zero = All-nil IsPlain
plain_checks n (suc m) = All-cons IsPlain (CheckGoal n) (check_goals (suc n) m) tt (plain_checks (suc n) m)

plain_at : (xs : List Goal) → All IsPlain xs → (i : ℕ) (g : Goal) → slice_get xs i ≡ Some g → IsPlain g
plain_at [] a i g e = absurd (cc)
plain_at (x ∷ xs) a zero g e = subst IsPlain (same x g e) (All-head IsPlain x xs a)
  where
    same : (x y : Goal) → Some x ≡ Some y → x ≡ y
    same x y e = cc
plain_at (x ∷ xs) a (suc i) g e = plain_at xs (All-tail IsPlain x xs a) i g e

-- ---- a point that proves

fallen : (p : ProgramTree) (f : Family) (k : ℕ) (q : List LoopPoint) → Infers p f.object k q → (choices : List ℤ) (l i : ℕ) → row_end p f.object k q choices ≡ Fallen l i → ⊥
fallen p f k q infers choices l i e = infers choices (subst IsFallen (sym e) tt)

broken : (p : ProgramTree) (f : Family) (k : ℕ) (q : List LoopPoint) → Proves p f.object k q → (choices : List ℤ) (n : ℕ) → row_end p f.object k q choices ≡ Over (Broken n) → ⊥
broken p f k q proves choices n e = proves.1 choices (subst IsBroken (sym e) tt)

not_missed : (p : ProgramTree) (f : Family) (k : ℕ) (q : List LoopPoint) → Proves p f.object k q → (goal : Goal) → IsPlain goal → IsMissed p f.object k q None goal → ⊥
not_missed p f k q proves (RowGoal l i) plain (choices, e) = fallen p f k q proves.0 choices l i e
not_missed p f k q proves (RankGoal l) plain missed = plain
not_missed p f k q proves (CheckGoal n) plain (choices, e) = broken p f k q proves choices n e

pub none_has_model : FormulasAreRuns → (p : ProgramTree) → IsLawful p → (f : Family) → IsResolved (code p) f → (k : ℕ) → 1 ≤ k → (q : List LoopPoint) → AreOf (code p) q None
    → Proves p f.object k q → ¬ SomeGoalHasModel (formulas (code p) f k q None)
none_has_model runs p lawful f resolved k some q over proves m =
    let s = some_missed runs p lawful f resolved k some q None over m in
    let n = length (code p).checks in
    not_missed p f k q proves s.1 (plain_at (goals n q None) (All-append IsPlain (row_goals 1 q) (check_goals 1 n) (plain_loops 1 q) (plain_checks 1 n)) s.0 s.1 s.2) s.3
