-- Questions and the solutions that answer them.
use Rattle.std.proofs.Common.{◌≡◌, ◌↔◌, inl, inr, ℕ, suc, ◌≤◌, ℤ, ◌≤ℤ◌, Bool, List, None, Some, refl, sym, ap, ◌∙◌, subst, arith}
use Rattle.l2_runs.specs.declared.member.Member.{Member}
use Rattle.l2_runs.specs.Numbers.{at_number}
use Rattle.l2_runs.specs.Runs.{Fallen}
use Rattle.l2_program.specs.Programs.{ProgramTree}
use Rattle.l2_templates.specs.declared.form.Row as rust
use Rattle.l2_templates.specs.declared.point.LoopPoint.{LoopPoint}
use Rattle.l2_templates.specs.declared.point.LoopPoint.TheVariants.{Bottom, Rows}
use Rattle.l2_code.specs.Trees.{CodeTree}
use Rattle.l2_code.specs.Sets.{Family}
use Rattle.l2_cuts.specs.Points.{point_at}
use Rattle.l2_cuts.specs.Cuts.{row_end}
use Rattle.l2_renumber_laws.specs.Fronted.{has_rows}
use Rattle.l2_row_laws.specs.Exceeding.{Exceeds}
use Rattle.l2_front_laws.specs.Front.{with_raised}
use Rattle.l2_ssa.specs.Steps.{Names}
use Rattle.l2_ssa.specs.Walks.{Goal, RowGoal, RankGoal, CheckGoal}
use Rattle.l2_ssa.specs.Law.{RanksOf, HasEvent}
use Rattle.l2_ssa_points.specs.Law.{AreOver}
use Rattle.l2_grown_laws.specs.Questions as questions
use Rattle.l2_grown_laws.specs.Questions.{Question, Any, Break, Asks, IsPutAt, IsPut, raised, asked_row, asked_point}
use Rattle.l2_grown_laws.specs.Grown.{grown_ssa, HasRoom, in_front, IsAnswer}
use Rattle.l2_grown_laws.specs.Law.{IsCodeOf, SolvesGrown, IsMade, QuestionsAreRuns}
use Rattle.l2_grown_laws.proofs.Runs.{Below, row_runs, check_runs, row_made, check_made, so_made}

-- what is known of rows that are exceeded
pub record Above : Type 0 where
  pub raised_is : (p : ProgramTree) (sets : ℕ → Member → Bool) (k : ℕ) (q : List LoopPoint) (l row : ℕ) (above bound : ℤ) (rows : List rust.Row) (r : rust.Row)
      → point_at q l ≡ Rows rows → at_number rows row ≡ Some r → r.bound ≡ Some bound → bound ≤ℤ above
      → Exceeds p sets k q l row above ↔ ((choices : List ℤ) × (row_end p sets k (with_raised q l r above) choices ≡ Fallen l 1))
  pub bottom_is : (p : ProgramTree) (sets : ℕ → Member → Bool) (k : ℕ) (q : List LoopPoint) (l : ℕ) (above : ℤ) → point_at q l ≡ Bottom
      → Exceeds p sets k q l 0 above ↔ ((choices : List ℤ) × (row_end p sets k q choices ≡ Fallen l 0))

module _ (b : Below) (a : Above) (p : ProgramTree) (f : Family) (c : CodeTree) (it : IsCodeOf p f c) (k : ℕ) (some : 1 ≤ k) (counts : ℕ → ℕ) (lower : RanksOf) where
  -- a run of this point that fails this row
  fails_at : (q' : List LoopPoint) → AreOver c q' None → HasRoom counts q' → (s : Names) → SolvesGrown c f k counts q' lower s → (l j : ℕ) (goal : Goal) → goal ≡ RowGoal l (suc j) → HasEvent s goal (grown_ssa c f k counts).events
      → (choices : List ℤ) × (row_end p f.object k q' choices ≡ Fallen l j)
  fails_at q' over room s ok l j goal is ev =
      let r = row_runs b p f c it k some counts q' over room lower s ok l (suc j) (subst (λ x. HasEvent s x (grown_ssa c f k counts).events) is ev) in
      let same : j ≡ r.0 = let e = r.1 in omega (arith, e) in
      (r.2.0, r.2.1 ∙ ap (Fallen l) (sym same))

  module _ (q : List LoopPoint) (at row : ℕ) (above : ℤ) where
    abbrev asked : LoopPoint → List LoopPoint
    asked x = raised q at above (asked_row x row)

    row_found : (x : LoopPoint) → point_at q at ≡ x → IsPutAt x row above → AreOver c (asked x) None → HasRoom counts (asked x) → (s : Names) → SolvesGrown c f k counts (asked x) lower s
        → (goal : Goal) → goal ≡ RowGoal at (in_front (has_rows x)) → HasEvent s goal (grown_ssa c f k counts).events → Exceeds p f.object k q at row above
    row_found Bottom e put over room s ok goal is ev =
        subst (λ n. Exceeds p f.object k q at n above) (sym put) ((a.bottom_is p f.object k q at above e).1 (fails_at q over room s ok at 0 goal is ev))
    row_found (Rows rows) e (r, bound, number, has, le) over room s ok goal is ev =
        let same : asked (Rows rows) ≡ with_raised q at r above = ap (raised q at above) number in
        (a.raised_is p f.object k q at row above bound rows r e number has le).1
        (subst (λ q'. (choices : List ℤ) × (row_end p f.object k q' choices ≡ Fallen at 1)) same (fails_at (asked (Rows rows)) over room s ok at 1 goal is ev))

    row_asked : (x : LoopPoint) → point_at q at ≡ x → IsPutAt x row above → AreOver c (asked x) None → HasRoom counts (asked x) → Exceeds p f.object k q at row above
        → IsMade c f k counts (asked x) lower (λ goal. goal ≡ RowGoal at (in_front (has_rows x)))
    row_asked Bottom e put over room h =
        let r = (a.bottom_is p f.object k q at above e).0 (subst (λ n. Exceeds p f.object k q at n above) put h) in
        row_made b p f c it k some counts q over room lower r.0 at 0 r.1
    row_asked (Rows rows) e (r, bound, number, has, le) over room h =
        let same : asked (Rows rows) ≡ with_raised q at r above = ap (raised q at above) number in
        let t = subst (λ q'. (choices : List ℤ) × (row_end p f.object k q' choices ≡ Fallen at 1)) (sym same) ((a.raised_is p f.object k q at row above bound rows r e number has le).0 h) in
        row_made b p f c it k some counts (asked (Rows rows)) over room lower t.0 at 1 t.1

  found : (x : Question) → IsPut x → AreOver c (asked_point x) None → HasRoom counts (asked_point x) → (s : Names) → SolvesGrown c f k counts (asked_point x) lower s
      → (goal : Goal) → IsAnswer x goal → HasEvent s goal (grown_ssa c f k counts).events → Asks p f.object k x
  found (questions.Row q at row above) put over room s ok goal is ev = row_found q at row above (point_at q at) refl put over room s ok goal is ev
  found (Any q) put over room s ok (RowGoal l i) is ev = let r = row_runs b p f c it k some counts q over room lower s ok l i ev in (r.2.0, l, r.0, r.2.1)
  found (Any q) put over room s ok (RankGoal l) is ev = absurd is
  found (Any q) put over room s ok (CheckGoal n) is ev = absurd is
  found (Break q) put over room s ok (RowGoal l i) is ev = let r = row_runs b p f c it k some counts q over room lower s ok l i ev in (r.2.0, inl (l, r.0, r.2.1))
  found (Break q) put over room s ok (RankGoal l) is ev = absurd is
  found (Break q) put over room s ok (CheckGoal n) is ev = let r = check_runs b p f c it k some counts q over room lower s ok n ev in (r.0, inr (n, r.1))

  made : (x : Question) → IsPut x → AreOver c (asked_point x) None → HasRoom counts (asked_point x) → Asks p f.object k x → IsMade c f k counts (asked_point x) lower (IsAnswer x)
  made (questions.Row q at row above) put over room h = row_asked q at row above (point_at q at) refl put over room h
  made (Any q) put over room (choices, l, i, e) =
      so_made b p f c it k some counts q over room lower (λ goal. goal ≡ RowGoal l (suc i)) (IsAnswer (Any q)) (λ goal is. subst (IsAnswer (Any q)) (sym is) tt) (row_made b p f c it k some counts q over room lower choices l i e)
  made (Break q) put over room (choices, inl (l, i, e)) =
      so_made b p f c it k some counts q over room lower (λ goal. goal ≡ RowGoal l (suc i)) (IsAnswer (Break q)) (λ goal is. subst (IsAnswer (Break q)) (sym is) tt) (row_made b p f c it k some counts q over room lower choices l i e)
  made (Break q) put over room (choices, inr (n, e)) =
      so_made b p f c it k some counts q over room lower (λ goal. goal ≡ CheckGoal n) (IsAnswer (Break q)) (λ goal is. subst (IsAnswer (Break q)) (sym is) tt) (check_made b p f c it k some counts q over room lower choices n e)

pub questions_are_runs : Below → Above → QuestionsAreRuns
questions_are_runs b a = record {
  found = λ p f c it k some counts x put over room lower s ok goal is ev. found b a p f c it k some counts lower x put over room s ok goal is ev;
  made = λ p f c it k some counts x put over room lower h. made b a p f c it k some counts lower x put over room h;
}
