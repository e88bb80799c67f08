-- Models of grown clauses and runs that miss goals.
use Rattle.std.proofs.Common.{◌≡◌, ℕ, suc, ◌≤◌, Bool, true, false, List, length, None, sym, ◌∙◌, subst, arith, refl}
use Rattle.l2_runs.specs.declared.outcome.Outcome.TheVariants.{Broken}
use Rattle.l2_runs.specs.Runs.{Over, Fallen}
use Rattle.l2_program.specs.Programs.{ProgramTree}
use Rattle.l2_templates.specs.declared.point.LoopPoint.{LoopPoint}
use Rattle.l2_code.specs.Trees.{CodeTree}
use Rattle.l2_code.specs.Sets.{Family}
use Rattle.l2_code.specs.Modes.{types_of}
use Rattle.l2_ssa.specs.Steps.{Names, InOrder}
use Rattle.l2_ssa.specs.Walks.{Goal, RowGoal, CheckGoal, Out}
use Rattle.l2_ssa.specs.Law.{RowsOf, HasEvent, StepsInOrder}
use Rattle.l2_ssa_points.specs.Places.{vars_of}
use Rattle.l2_ssa_points.specs.Law.{AreOver}
use Rattle.l2_gates.specs.Gates.{Made, start}
use Rattle.l2_gates.specs.Models.{Ok, Sound, Extends}
use Rattle.l2_blast.specs.Sorts.{sorts_of, AreTyped}
use Rattle.l2_blast.specs.Words.{Setting}
use Rattle.l2_blast.specs.Blasting.{Blasted}
use Rattle.l2_blast_laws.specs.Law.{solution, AreMet}
use Rattle.l2_blast_laws.specs.Behind.{ModelsSolveBehind, BlastingMakesBehind, AgreedShowSame, OpenIsMade, OpenRowsHaveModels, SaidRowsHold, AreAsSaid, StandsBehind}
use Rattle.l2_blast_laws.proofs.Given.{circuits}
use Rattle.l2_blast_laws.proofs.Folds.{start_sound}
use Rattle.l2_blast_laws.proofs.Opening.{open_is_made}
use Rattle.l2_typed_steps.specs.Law.{StepsAreTyped}
use Rattle.l2_given_steps.specs.Law.{ChoicesMatch}
use Rattle.l2_grown_laws.specs.Grown.{grown_kind, grown_rows, grown_ssa, HasRoom}
use Rattle.l2_grown_laws.specs.Law.{SolvesGrown, IsMade, GrownRuns}
use Rattle.l2_grown_models.specs.Asking.{open_of, no_ranks, meaning_at}
use Rattle.l2_grown_models.specs.Law.{IsAskable}
use Rattle.l2_asked_goals.specs.Spots.{base_of, grown_spots, grown_names, AllAsSaid}
use Rattle.l2_asked_goals.specs.Law.{Ends, IsShown, GoalsAreRuns}
use Rattle.l2_asked_goals.proofs.Spots.{spots_said, said_spots}

-- what the crates below say
pub record Below : Type 0 where
  pub in_order : StepsInOrder
  pub typed : StepsAreTyped
  pub choices_match : ChoicesMatch
  pub models_solve : ModelsSolveBehind
  pub open_made : OpenIsMade
  pub open_models : OpenRowsHaveModels
  pub said_hold : SaidRowsHold
  pub makes : BlastingMakesBehind
  pub show_same : AgreedShowSame
  pub runs : GrownRuns

module _ (b : Below) (p : ProgramTree) (f : Family) (c : CodeTree) (it : IsAskable p f c) (k : ℕ) (some : 1 ≤ k) (counts : ℕ → ℕ) (q : List LoopPoint) (over : AreOver c q None) (room : HasRoom counts q) where
  abbrev o : Out
  o = grown_ssa c f k counts

  abbrev s : Setting
  s = open_of c

  abbrev blasted : Blasted
  blasted = base_of c f k counts

  abbrev row : RowsOf
  row = grown_rows (vars_of c) q

  so : Sound start
  so = start_sound circuits (open_of c) open_is_made

  in_order : InOrder 0 o.steps
  in_order = (b.in_order c f k (grown_kind counts) false).0

  typed : AreTyped (types_of c) (sorts_of o.steps) o.steps
  typed = (b.typed c f it.code_of.well_formed it.code_of.resolved it.direct k (grown_kind counts) false).0

  stands : StandsBehind s o.steps start
  stands = b.makes s b.open_made start so o.steps

  abbrev Said : Names → Type 0
  Said t = AreAsSaid (meaning_at c q) blasted.env t 0 o.steps

  solves : (v : ℕ → Bool) → v 0 ≡ true → Ok v blasted.made → Said (solution blasted.env v) → SolvesGrown c f k counts q no_ranks (solution blasted.env v)
  solves v one ok said =
      b.models_solve s it.sized b.open_made start so o.steps in_order typed v one ok row no_ranks
      (b.said_hold s it.sized b.open_made start so o.steps in_order typed v one ok row no_ranks said)

  shown : (v : ℕ → Bool) → v 0 ≡ true → Ok v blasted.made → AllAsSaid c q blasted.env v (grown_spots c f k counts) → SolvesGrown c f k counts q no_ranks (solution blasted.env v)
  shown v one ok said = solves v one ok (said_spots c it.sized o.steps in_order typed q v one ok said)

  rows_found : (l i : ℕ) → IsShown c f k counts q blasted.made (RowGoal l i) → (j : ℕ) × (i ≡ suc j) × Ends p f.object k q (Fallen l j)
  rows_found l i (v, one, ok, said, ev) = b.runs.rows p f c it.code_of k some counts q over room no_ranks (solution blasted.env v) (shown v one ok said) l i ev

  checks_found : (n : ℕ) → IsShown c f k counts q blasted.made (CheckGoal n) → Ends p f.object k q (Over (Broken n))
  checks_found n (v, one, ok, said, ev) = b.runs.checks p f c it.code_of k some counts q over room no_ranks (solution blasted.env v) (shown v one ok said) n ev

  module _ (m : Made) (later : Extends blasted.made m) (goal : Goal) where
    made_shown : IsMade c f k counts q no_ranks (λ g. g ≡ goal) → IsShown c f k counts q m goal
    made_shown w =
        let t = b.choices_match c f it.few k (grown_kind counts) false w.0 w.1 in
        let (v, agree, made, met, said) = b.open_models (types_of c) (length c.objects) it.sized start so o.steps in_order typed (λ n. true) refl refl t.0 t.1 row no_ranks in
        let n = later.model v made in
        let there : 1 ≤ blasted.made.next = (stands.extends.sound).some in
        let same : solution blasted.env n.v' ≡ solution blasted.env v = b.show_same blasted.env blasted.made.next there stands.words v n.v' n.agree in
        let one_now : n.v' 0 ≡ true = n.agree 0 (omega (arith, there)) ∙ agree 0 (let z = so.some in omega (arith, z)) in
        let said_now : Said (solution blasted.env n.v') = subst Said (sym same) said in
        let met_now = subst (λ y. AreMet t.0 y 0 o.steps) (sym same) met in
        let e = w.2 (solution blasted.env n.v') (solves n.v' one_now (later.back n.v' n.ok) said_now) (t.2 (solution blasted.env n.v') met_now) in
        (n.v', one_now, n.ok, spots_said c it.sized o.steps in_order typed q n.v' one_now (later.back n.v' n.ok) said_now, subst (λ g. HasEvent (grown_names c f k counts n.v') g o.events) e.1 e.2)

  rows_shown : (m : Made) → Extends blasted.made m → (l j : ℕ) → Ends p f.object k q (Fallen l j) → IsShown c f k counts q m (RowGoal l (suc j))
  rows_shown m later l j (choices, e) = made_shown m later (RowGoal l (suc j)) (b.runs.fails p f c it.code_of k some counts q over room no_ranks choices l j e)

  checks_shown : (m : Made) → Extends blasted.made m → (n : ℕ) → Ends p f.object k q (Over (Broken n)) → IsShown c f k counts q m (CheckGoal n)
  checks_shown m later n (choices, e) = made_shown m later (CheckGoal n) (b.runs.breaks p f c it.code_of k some counts q over room no_ranks choices n e)

pub goals_are_runs : Below → GoalsAreRuns
goals_are_runs b = record {
  rows = λ p f c it k some counts q over room. rows_found b p f c it k some counts q over room;
  checks = λ p f c it k some counts q over room. checks_found b p f c it k some counts q over room;
  fails = λ p f c it k some counts q over room. rows_shown b p f c it k some counts q over room;
  breaks = λ p f c it k some counts q over room. checks_shown b p f c it k some counts q over room;
}
