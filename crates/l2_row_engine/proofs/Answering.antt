-- What met clauses say of runs.
use Rattle.std.proofs.Common.{Result, Ok, Err, ap, ◌∙◌, ◌++◌, [], ◌∷◌, ◌≡◌, ℕ, zero, suc, ◌+◌, ◌-◌, ◌<◌, ◌≤◌, List, length, refl, sym, subst, Some, arith}
use Rattle.std.specs.Prelude.{◌↔◌, ◌≤ℤ◌, ℤ, Bool, IfOk, IsTrue, MatchOption, Option, None, is_some, slice_get, slice_index_or}
use Rattle.std.proofs.lemmas.Option.{slice_get_within, get_or_from_slice_get}
use Rattle.l2_runs.specs.declared.member.Member.{Member}
use Rattle.l2_runs.specs.declared.outcome.Outcome.TheVariants.{Broken}
use Rattle.l2_runs.specs.Runs.{End, Over, Fallen}
use Rattle.l2_program.specs.Programs.{ProgramTree}
use Rattle.l2_templates.specs.declared.point.LoopPoint.{LoopPoint}
use Rattle.l2_templates.specs.Points.{loop_at}
use Rattle.l2_cuts.specs.Cuts.{row_end, IsFallen, Infers}
use Rattle.l2_ssa.specs.Walks.{RowGoal}
use Rattle.l2_ssa_points.specs.Goals.{row_goals}
use Rattle.l2_strategy.specs.Asking.{IsAskable, IsBounded, IsFailed}
use Rattle.l2_row_laws.specs.Exceeding.{Exceeds}
use Rattle.l2_runs.specs.Numbers.{at_number}
use Rattle.l2_cnf.specs.Assignment.{IsSatisfied}
use Rattle.l2_code.specs.declared.sets.Sets.{Sets}
use Rattle.l2_code.specs.Trees.{CodeTree}
use Rattle.l2_code.specs.Sets.{family}
use Rattle.l2_cuts.specs.Points.{point_at}
use Rattle.l2_templates.specs.declared.form.Row.{Row}
use Rattle.l2_templates.specs.declared.point.LoopPoint.TheVariants.{Bottom, Rows}
use Rattle.l2_templates.specs.Rows.{row_at}
use Rattle.l2_goals.specs.declared.making.Goals.{Goals}
use Rattle.l2_goals.specs.Formulas.{formulas}
use Rattle.l2_goals.specs.Numbers.{AreFormulas}
use Rattle.l2_goal_laws.specs.Fits.{AreOf}
use Rattle.l2_missed.specs.declared.shared.Met.{Met}
use Rattle.l2_missed.specs.Meeting.{HasModel, IsMet, NoneMet, IsFirstMet, with_clause}
use Rattle.l2_row_engine.specs.Cutting.{Ends, TellRuns}
use Rattle.l2_row_engine.specs.Indexes.{goal_count, goals_before, first_row}
use Rattle.l2_row_engine.specs.Cutting.{Belongs}
use Rattle.l2_row_engine.specs.Telling.{GoalsTell}
use Rattle.l2_templates.specs.declared.form.Form.{Form}
use Rattle.l2_templates.specs.Rows.{row_of}
use Rattle.l2_front_laws.specs.Front.{in_front, with_front, with_raised}
use Rattle.l2_row_engine.proofs.Fronting.{point_is, raised_here}
use Rattle.l2_row_engine.proofs.Standing.{loops_within, first_goal, before_all}

module _ (p : ProgramTree) (sets : ℕ → Member → Bool) (k : ℕ) (q : List LoopPoint) (checks : ℕ) (base last : List (List ℤ)) (t : TellRuns p sets k q checks base last) where
  -- where no row's clause is met, no run fails a row
  pub infers : NoneMet base last 0 (length (row_goals 1 q)) → Infers p sets k q
  infers none choices fallen = go (row_end p sets k q choices) refl fallen
    where
      go : (x : End) → row_end p sets k q choices ≡ x → IsFallen x → ⊥
      go (Over o) e h = absurd h
      go (Fallen l row) e h =
          let i = t.listed choices l row e in
          none i.0 (omega arith) (slice_get_within (row_goals 1 q) i.0 _ i.1) ((t.rows i.0 l row i.1).1 (choices, e))

  -- and where one is met, some run fails the row
  pub fails : ((choices : List ℤ) (l row : ℕ) → row_end p sets k q choices ≡ Fallen l row → 1 ≤ l → l ≤ length q → IsFailed (Exceeds p sets k q) q l row)
      → (i l row : ℕ) → slice_get (row_goals 1 q) i ≡ Some (RowGoal l row) → IsMet base last i → IsFailed (Exceeds p sets k q) q l row
  fails failed i l row g met =
      let m = (t.rows i l row g).0 met in
      let a = loops_within 1 q i l row g in
      failed m.0 l row m.1 a.low (omega (arith, a.high))

  pub no_check : NoneMet base last (length (row_goals 1 q)) (length last) → ¬ ((c : ℕ) × Ends p sets k q (Over (Broken c)))
  no_check none (c, (choices, e)) =
      let i = t.numbered choices c e in
      none (length (row_goals 1 q) + i.0) (omega arith) (omega (arith, t.count, i.1)) ((t.broken i.0 i.1).1 (choices, subst (λ n. row_end p sets k q choices ≡ Over (Broken n)) i.2 e))

  pub some_check : (i : ℕ) → IsFirstMet base last (length (row_goals 1 q)) (length last) i → (c : ℕ) × Ends p sets k q (Over (Broken c))
  some_check i f =
      let e : length (row_goals 1 q) + (i - length (row_goals 1 q)) ≡ i = omega (arith, f.low) in
      (i - length (row_goals 1 q) + 1, (t.broken (i - length (row_goals 1 q)) (omega (arith, f.low, f.high, t.count))).0 (subst (λ n. IsMet base last n) (sym e) f.met))

  -- the clause of a loop's first row
  pub first_fails : (l : ℕ) → l < length q → 1 ≤ goal_count (loop_at q l) → IsMet base last (goals_before q l) ↔ Ends p sets k q (Fallen (1 + l) (first_row (loop_at q l)))
  first_fails l h some = t.rows (goals_before q l) (1 + l) (first_row (loop_at q l)) (first_goal 1 q l h some)

-- ---- as questions are asked

pub told : {E : Type 0} → GoalsTell → (r : Result Goals E) (p : ProgramTree) (c : CodeTree) (s : Sets) (k : ℕ) (q : List LoopPoint) → Belongs p c s → 1 ≤ k → AreOf c q None
    → IfOk r (λ g. AreFormulas g (formulas c (family s) k q None)) → IfOk r (λ g. TellRuns p (family s).object k q (length c.checks) g.base g.last)
told law (Ok g) p c s k q belongs some over h = law p c s belongs k some q over g h
told law (Err e) p c s k q belongs some over h = tt

module _ (p : ProgramTree) (sets : ℕ → Member → Bool) (k : ℕ) (q : List LoopPoint) (checks : ℕ) (base last : List (List ℤ)) (t : TellRuns p sets k q checks base last) (shared : List (List ℤ)) (same : shared ≡ base) where
  all_rows : (n rows : ℕ) → rows ≡ goals_before q n → n ≡ length q → rows ≡ length (row_goals 1 q)
  all_rows n rows e h = e ∙ ap (goals_before q) h ∙ before_all 1 q

  pub within : (n rows : ℕ) → rows ≡ goals_before q n → n ≡ length q → rows ≤ length last
  within n rows e h = let is = all_rows n rows e h in omega (arith, is, t.count)

  pub none_fails : (n rows : ℕ) → rows ≡ goals_before q n → n ≡ length q → NoneMet shared last 0 rows → Infers p sets k q
  none_fails n rows e h none =
      infers p sets k q checks base last t (subst (λ m. NoneMet base last 0 m) (all_rows n rows e h) (subst (λ s. NoneMet s last 0 rows) same none))

  pub index_within : (n rows i : ℕ) → rows ≡ goals_before q n → n ≡ length q → IsFirstMet shared last 0 rows i → i < length (row_goals 1 q)
  index_within n rows i e h f = let is = all_rows n rows e h in omega (arith, is, f.high)

  pub met_fails : ((choices : List ℤ) (l row : ℕ) → row_end p sets k q choices ≡ Fallen l row → 1 ≤ l → l ≤ length q → IsFailed (Exceeds p sets k q) q l row)
      → (rows i l row : ℕ) → slice_get (row_goals 1 q) i ≡ Some (RowGoal l row) → IsFirstMet shared last 0 rows i → IsFailed (Exceeds p sets k q) q l row
  met_fails failed rows i l row g f = fails p sets k q checks base last t failed i l row g (subst (λ s. IsMet s last i) same f.met)

  -- the first row of a loop
  pub first_within : (l i : ℕ) → i ≡ goals_before q l → l < length q → 1 ≤ goal_count (loop_at q l) → i < length last
  first_within l i e h some =
      let at : goals_before q l < length (row_goals 1 q) = slice_get_within (row_goals 1 q) (goals_before q l) _ (first_goal 1 q l h some) in
      omega (arith, e, at, t.count)

  pub first_is : {E : Type 0} (r : Result Bool E) (l i : ℕ) (clause : List ℤ) → i ≡ goals_before q l → l < length q → 1 ≤ goal_count (loop_at q l) → clause ≡ slice_index_or last i []
      → IfOk r (λ m. IsTrue m ↔ HasModel (shared ++ clause ∷ [])) → IfOk r (λ m. IsTrue m ↔ Ends p sets k q (Fallen (l + 1) (first_row (loop_at q l))))
  first_is (Err x) l i clause e h some c is = tt
  first_is (Ok m) l i clause e h some c is =
      let number : 1 + l ≡ l + 1 = omega arith in
      let met : HasModel (shared ++ clause ∷ []) ≡ IsMet base last (goals_before q l) = (λ j. HasModel (same j ++ c j ∷ [])) ∙ ap (IsMet base last) e in
      let ends = subst (λ n. IsMet base last (goals_before q l) ↔ Ends p sets k q (Fallen n (first_row (loop_at q l)))) number (first_fails p sets k q checks base last t l h some) in
      let here = subst (λ (X : Type 0). IsTrue m ↔ X) met is in
      (λ u. ends.0 (here.0 u), λ x. here.1 (ends.1 x))

  -- checks
  pub from_within : (n rows : ℕ) → rows ≡ goals_before q n → n ≡ length q → length last ≤ length last
  from_within n rows e h = omega arith

  pub checks_are : (n rows to : ℕ) (r : Option Met) (b : Bool) → rows ≡ goals_before q n → n ≡ length q → to ≡ length last → b ≡ is_some r
      → MatchOption r (NoneMet shared last rows to) (λ m. IsFirstMet shared last rows to m.index × IsSatisfied m.values (with_clause shared last m.index)) → IsTrue b ↔ ((c : ℕ) × Ends p sets k q (Over (Broken c)))
  checks_are n rows to None b e h l be none =
      let none' : NoneMet base last (length (row_goals 1 q)) (length last) = subst (λ x. NoneMet base last x (length last)) (all_rows n rows e h) (subst (λ x. NoneMet base last rows x) l (subst (λ s. NoneMet s last rows to) same none)) in
      (λ u. cc, λ c. absurd (no_check p sets k q checks base last t none' c))
  checks_are n rows to (Some m) b e h l be (f, s) =
      let f' : IsFirstMet base last (length (row_goals 1 q)) (length last) m.index = subst (λ x. IsFirstMet base last x (length last) m.index) (all_rows n rows e h) (subst (λ x. IsFirstMet base last rows x m.index) l (subst (λ s. IsFirstMet s last rows to m.index) same f)) in
      (λ u. some_check p sets k q checks base last t m.index f', λ c. be)

-- ---- rows with another bound

same_row : (a b : Row) → Some a ≡ Some b → a ≡ b
same_row a b e = cc

row_here : (rows : List Row) (row : ℕ) (r : Row) → at_number rows row ≡ Some r → row_at rows (row - 1) ≡ r
row_here rows zero r e = cc
row_here rows (suc n) r e =
    let back : suc n - 1 ≡ n = omega arith in
    ap (row_at rows) back ∙ get_or_from_slice_get rows n r _ e

module _ {E : Type 0} (p : ProgramTree) (sets : ℕ → Member → Bool) (k : ℕ) (q : List LoopPoint) where
  pub raised_is : ((l row : ℕ) (above bound : ℤ) (rows : List Row) (r : Row) → point_at q l ≡ Rows rows → at_number rows row ≡ Some r → r.bound ≡ Some bound → bound ≤ℤ above
      → Exceeds p sets k q l row above ↔ ((choices : List ℤ) × (row_end p sets k (with_raised q l r above) choices ≡ Fallen l 1)))
      → (l row : ℕ) (above given : ℤ) (rows : List Row) (form : Form) (w : List LoopPoint) → loop_at q l ≡ Rows rows → l < length q → IsAskable q (l + 1) row above → given ≡ above → w ≡ with_front q (suc l) (row_of form (Some given)) → form ≡ (row_at rows (row - 1)).form
      → (result : Result Bool E) → IfOk result (λ m. IsTrue m ↔ Ends p sets k w (Fallen (l + 1) (first_row (loop_at w l)))) → IfOk result (λ m. IsTrue m ↔ Exceeds p sets k q (l + 1) row above)
  raised_is law l row above given rows form w at h askable same we' fe (Err x) is = tt
  raised_is law l row above given rows form w at h askable same we' fe (Ok m) is = go (subst (λ x. (bound : ℤ) × IsBounded x row bound × (bound ≤ℤ above)) here askable.least)
    where
      we : w ≡ with_front q (suc l) (row_of form (Some above))
      we = we' ∙ ap (λ a. with_front q (suc l) (row_of form (Some a))) same

      here : point_at q (l + 1) ≡ Rows rows
      here = let number : l + 1 ≡ suc l = omega arith in ap (point_at q) number ∙ point_is q l ∙ at

      go : ((bound : ℤ) × IsBounded (Rows rows) row bound × (bound ≤ℤ above)) → IsTrue m ↔ Exceeds p sets k q (l + 1) row above
      go (bound, (r, known, b), less) =
          let forms : form ≡ r.form = fe ∙ ap (λ x. x.form) (row_here rows row r known) in
          let up : suc l ≡ l + 1 = omega arith in
          let raised : w ≡ with_raised q (l + 1) r above = we ∙ (λ j. with_front q (up j) (row_of (forms j) (Some above))) in
          let first : first_row (loop_at w l) ≡ 1 =
          ap (λ x. first_row (loop_at x l)) we ∙ ap first_row (sym (raised_here q l l (row_of form (Some above)) h refl)) ∙ ap (λ x. first_row (in_front (row_of form (Some above)) x)) at in
          let ends : IsTrue m ↔ ((choices : List ℤ) × (row_end p sets k (with_raised q (l + 1) r above) choices ≡ Fallen (l + 1) 1)) =
          subst (λ n. IsTrue m ↔ ((choices : List ℤ) × (row_end p sets k (with_raised q (l + 1) r above) choices ≡ Fallen (l + 1) n))) first
          (subst (λ x. IsTrue m ↔ ((choices : List ℤ) × (row_end p sets k x choices ≡ Fallen (l + 1) (first_row (loop_at w l))))) raised is) in
          let exceeds = law (l + 1) row above bound rows r here known b less in
          (λ u. exceeds.1 (ends.0 u), λ x. ends.1 (exceeds.0 x))

-- ---- by the number of a loop

pub by_above : {E : Type 0} (p : ProgramTree) (sets : ℕ → Member → Bool) (k : ℕ) (q : List LoopPoint) (at row : ℕ) (above given : ℤ) (r : Result Bool E) → given ≡ above
    → IfOk r (λ m. IsTrue m ↔ Exceeds p sets k q at row given) → IfOk r (λ m. IsTrue m ↔ Exceeds p sets k q at row above)
by_above p sets k q at row above given r e is = subst (λ a. IfOk r (λ m. IsTrue m ↔ Exceeds p sets k q at row a)) e is

pub by_number : {E : Type 0} (p : ProgramTree) (sets : ℕ → Member → Bool) (k : ℕ) (q : List LoopPoint) (at row : ℕ) (above given : ℤ) (r : Result Bool E) → 1 ≤ at → given ≡ above
    → IfOk r (λ m. IsTrue m ↔ Exceeds p sets k q ((at - 1) + 1) row given) → IfOk r (λ m. IsTrue m ↔ Exceeds p sets k q at row above)
by_number p sets k q at row above given r some e is =
    let number : (at - 1) + 1 ≡ at = omega (arith, some) in
    by_above p sets k q at row above given r e (subst (λ n. IfOk r (λ m. IsTrue m ↔ Exceeds p sets k q n row given)) number is)

pub bottom_is : {E : Type 0} (p : ProgramTree) (sets : ℕ → Member → Bool) (k : ℕ) (q : List LoopPoint)
    → ((l : ℕ) (above : ℤ) → point_at q l ≡ Bottom → Exceeds p sets k q l 0 above ↔ ((choices : List ℤ) × (row_end p sets k q choices ≡ Fallen l 0)))
    → (at row : ℕ) (above : ℤ) (x : LoopPoint) → 1 ≤ at → x ≡ loop_at q (at - 1) → x ≡ Bottom → row ≡ 0
    → (r : Result Bool E) → IfOk r (λ m. IsTrue m ↔ Ends p sets k q (Fallen ((at - 1) + 1) (first_row (loop_at q (at - 1))))) → IfOk r (λ m. IsTrue m ↔ Exceeds p sets k q at row above)
bottom_is p sets k q law at row above x some e b z (Err y) is = tt
bottom_is p sets k q law at row above x some e b z (Ok m) is =
    let number : (at - 1) + 1 ≡ at = omega (arith, some) in
    let next : at ≡ suc (at - 1) = omega (arith, some) in
    let here : loop_at q (at - 1) ≡ Bottom = sym e ∙ b in
    let there : point_at q at ≡ Bottom = ap (point_at q) next ∙ point_is q (at - 1) ∙ here in
    let first : first_row (loop_at q (at - 1)) ≡ 0 = ap first_row here in
    let ends : IsTrue m ↔ Ends p sets k q (Fallen at 0) =
    subst (λ n. IsTrue m ↔ Ends p sets k q (Fallen at n)) first
    (subst (λ n. IsTrue m ↔ Ends p sets k q (Fallen n (first_row (loop_at q (at - 1))))) number is) in
    let both : Exceeds p sets k q at row above ↔ Ends p sets k q (Fallen at 0) = subst (λ n. Exceeds p sets k q at n above ↔ Ends p sets k q (Fallen at 0)) (sym z) (law at above there) in
    (λ u. both.1 (ends.0 u), λ y. ends.1 (both.0 y))
