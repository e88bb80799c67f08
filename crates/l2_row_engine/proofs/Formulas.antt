-- The formulas of a program's code tell of its cut runs.
use Rattle.std.proofs.Common.{◌≡◌, ℕ, zero, suc, ◌+◌, ◌-◌, ◌<◌, ◌≤◌, List, [], ◌∷◌, ◌++◌, length, map, get_or, refl, sym, ap, ◌∙◌, subst, Some, None, option_map, Result, Ok, Err, false, arith}
use Rattle.std.specs.Prelude.{◌↔◌, slice_get, slice_index_or, IfOk, Contains}
use Rattle.std.proofs.lemmas.List.{length-append, length-map, map-append}
use Rattle.std.proofs.lemmas.Option.{slice_get_within, slice_get-map, get_or_from_slice_get, slice_get-get_or}
use Rattle.l2_program.specs.Programs.{ProgramTree}
use Rattle.l2_meaning.specs.Lawful.{IsLawful}
use Rattle.l2_templates.specs.declared.point.LoopPoint.{LoopPoint}
use Rattle.l2_code.specs.Trees.{CodeTree}
use Rattle.l2_code.specs.Sets.{Family, IsResolved, family}
use Rattle.l2_lower.specs.Code.{code}
use Rattle.l2_ssa.specs.Walks.{Goal, RowGoal, CheckGoal}
use Rattle.l2_ssa_points.specs.Goals.{row_goals, check_goals, goals}
use Rattle.l2_goals.specs.declared.making.Goals.{Goals}
use Rattle.l2_ssa.specs.Walks.{Event}
use Rattle.l2_ssa.specs.declared.goal.Kind.{Kind}
use Rattle.l2_blast.specs.Blasting.{Blasted, clauses_of}
use Rattle.l2_labels.specs.Labels.{one_label}
use Rattle.l2_ssa_points.specs.Places.{vars_of}
use Rattle.l2_goals.specs.Fills.{fill_of}
use Rattle.l2_goals.specs.Kept.{kept_kinds}
use Rattle.l2_goals.proofs.Whole.{of_point}
use Rattle.l2_goals.specs.Formulas.{literals, formulas_of, equations, setting, formulas_with, formulas, formula_of, walk_formulas, walk_formula_of}
use Rattle.l2_goals.specs.Numbers.{AreFormulas, all_numbers, numbers}
use Rattle.l2_goal_laws.specs.Fits.{AreOf}
use Rattle.l2_goal_laws.specs.Law.{FormulasAreRuns, RunsAreListed, IsMissed}
use Rattle.l2_missed.specs.Meeting.{HasModel, IsMet}
use Rattle.l2_row_engine.specs.Cutting.{TellRuns}
use Rattle.l2_row_engine.specs.Telling.{GoalsTell}
use Rattle.l2_row_engine.proofs.Standing.{here, on}

-- ---- lists

last_is : {A B C : Type 0} (g : A → B) (h : B → C) (xs : List A) (i : ℕ) (x : A) (d : C) → slice_get xs i ≡ Some x → get_or (map h (map g xs)) i d ≡ h (g x)
last_is g h xs i x d e = get_or_from_slice_get (map h (map g xs)) i (h (g x)) d (slice_get-map h (map g xs) i ∙ ap (option_map h) (slice_get-map g xs i ∙ ap (option_map g) e))

stands : {A : Type 0} (xs : List A) (i : ℕ) (x : A) → slice_get xs i ≡ Some x → Contains xs x
stands xs i x e = (i, slice_get_within xs i x e, get_or_from_slice_get xs i x x e)

found : {A : Type 0} (xs : List A) (x : A) → Contains xs x → (i : ℕ) × (i < length xs) × (slice_get xs i ≡ Some x)
found xs x (i, h, e) = (i, h, slice_get-get_or xs i x h ∙ ap Some e)

count_checks : (n m : ℕ) → length (check_goals n m) ≡ m
count_checks n zero = refl
count_checks n (suc m) = ap suc (count_checks (suc n) m)

check_here : (n m i : ℕ) → i < m → slice_get (check_goals n m) i ≡ Some (CheckGoal (n + i))
check_here n zero i h = absurd (omega (arith, h))
check_here n (suc m) zero h = ap (λ c. Some (CheckGoal c)) (omega arith)
check_here n (suc m) (suc i) h =
    let e : suc n + i ≡ n + suc i = omega arith in
    check_here (suc n) m i (omega (arith, h)) ∙ ap (λ c. Some (CheckGoal c)) e

same_check : (a b : ℕ) → Some (CheckGoal a) ≡ Some (CheckGoal b) → a ≡ b
same_check a b e = cc

-- ---- formulas

at_of : (b : Blasted) (events : List Event) (all : List Goal) (i : ℕ) (goal : Goal) → slice_get all i ≡ Some goal
    → all_numbers (formulas_of b events all).base ++ slice_index_or (all_numbers (formulas_of b events all).last) i [] ∷ [] ≡ all_numbers (b.made.clauses ++ literals b.env goal events ∷ [])
at_of b events all i goal e =
    ap (λ l. all_numbers b.made.clauses ++ l ∷ []) (last_is (λ g. literals b.env g events) numbers all i goal [] e) ∙ sym (map-append numbers b.made.clauses (literals b.env goal events ∷ []))

formula_at : (c : CodeTree) (f : Family) (k : ℕ) (q : List LoopPoint) (i : ℕ) (goal : Goal) → slice_get (goals (length c.checks) q None) i ≡ Some goal
    → all_numbers (formulas c f k q None).base ++ slice_index_or (all_numbers (formulas c f k q None).last) i [] ∷ [] ≡ all_numbers (formula_of c f k q None goal)
unfolding walk_formulas walk_formula_of
formula_at c f k q i goal e =
    let o = equations (one_label c) f k q None in
    at_of (clauses_of (setting (one_label c) q None) o.steps) o.events (goals (length c.checks) q None) i goal e

pub all_at : {E : Type 0} (r : Result Goals E) (c : CodeTree) (f : Family) (k : ℕ) (q : List LoopPoint) (kinds : List Kind) → kinds ≡ kept_kinds q
    → IfOk r (λ g. AreFormulas g (formulas_with c f k kinds false (fill_of (vars_of c) q None))) → IfOk r (λ g. AreFormulas g (formulas c f k q None))
all_at (Ok g) c f k q kinds e h = of_point g (one_label c) f k q None kinds false (fill_of (vars_of c) q None) e refl refl h
all_at (Err x) c f k q kinds e h = tt

counted : (c : CodeTree) (f : Family) (k : ℕ) (q : List LoopPoint) → length (all_numbers (formulas c f k q None).last) ≡ length (goals (length c.checks) q None)
unfolding walk_formulas
counted c f k q = length-map _ numbers ∙ length-map (goals (length c.checks) q None) _

module _ (runs : FormulasAreRuns) (listed : RunsAreListed) (p : ProgramTree) (lawful : IsLawful p) (f : Family) (resolved : IsResolved (code p) f) (k : ℕ) (some : 1 ≤ k) (q : List LoopPoint) (over : AreOf (code p) q None) (g : Goals) (is : AreFormulas g (formulas (code p) f k q None)) where
  n : ℕ
  n = length (code p).checks

  met : (i : ℕ) (goal : Goal) → slice_get (goals n q None) i ≡ Some goal → IsMet g.base g.last i ↔ IsMissed p f.object k q None goal
  unfolding n
  met i goal e =
      let whole : g.base ++ slice_index_or g.last i [] ∷ [] ≡ all_numbers (formula_of (code p) f k q None goal) =
      (λ j. is.base j ++ slice_index_or (is.last j) i [] ∷ []) ∙ formula_at (code p) f k q i goal e in
      subst (λ x. HasModel x ↔ IsMissed p f.object k q None goal) (sym whole) (runs p lawful f resolved k some q None over goal (stands (goals n q None) i goal e))

  check_at : (i : ℕ) → i < n → slice_get (goals n q None) (length (row_goals 1 q) + i) ≡ Some (CheckGoal (i + 1))
  check_at i h =
      let back : (length (row_goals 1 q) + i) - length (row_goals 1 q) ≡ i = omega arith in
      let number : 1 + i ≡ i + 1 = omega arith in
      on (row_goals 1 q) (check_goals 1 n) (length (row_goals 1 q) + i) (omega arith) ∙ ap (slice_get (check_goals 1 n)) back ∙ check_here 1 n i h ∙ ap (λ c. Some (CheckGoal c)) number

  pub of_code : TellRuns p f.object k q (length (code p).checks) g.base g.last
  unfolding n
  of_code = record {
    count = ap length is.last ∙ counted (code p) f k q ∙ length-append (row_goals 1 q) (check_goals 1 n) ∙ ap (λ m. length (row_goals 1 q) + m) (count_checks 1 n);
    rows = λ i l row e. met i (RowGoal l row) (here (row_goals 1 q) (check_goals 1 n) i (RowGoal l row) e);
    listed = λ choices l row e. let i = found (row_goals 1 q) (RowGoal l row) (listed.rows p lawful f resolved k some q over choices l row e) in (i.0, i.2);
    broken = λ i h. met (length (row_goals 1 q) + i) (CheckGoal (i + 1)) (check_at i h);
    numbered = λ choices c e.
        let i = found (check_goals 1 n) (CheckGoal c) (listed.checks p lawful f resolved k some q over choices c e) in
        let h : i.0 < n = subst (λ m. i.0 < m) (count_checks 1 n) i.1 in
        let number : 1 + i.0 ≡ i.0 + 1 = omega arith in
        (i.0, h, same_check c (1 + i.0) (sym i.2 ∙ check_here 1 n i.0 h) ∙ number);
  }

pub tells : FormulasAreRuns → RunsAreListed → GoalsTell
tells runs listed p c s b k some q =
    subst (λ (x : CodeTree). AreOf x q None → (g : Goals) → AreFormulas g (formulas x (family s) k q None) → TellRuns p (family s).object k q (length x.checks) g.base g.last) (sym b.is_code)
    (λ over g is. of_code runs listed p b.lawful (family s) (subst (λ x. IsResolved x (family s)) b.is_code b.resolved) k some q over g is)
