-- Models of grown clauses and runs.
use Rattle.std.proofs.Common.{◌≡◌, ℕ, ◌≤◌, Bool, true, false, List, length, None, sym, ◌∙◌, subst, arith}
use Rattle.l2_program.specs.Programs.{ProgramTree}
use Rattle.l2_code.specs.Trees.{CodeTree}
use Rattle.l2_code.specs.Sets.{Family}
use Rattle.l2_code.specs.Modes.{types_of}
use Rattle.l2_ssa.specs.Steps.{Names, InOrder}
use Rattle.l2_ssa.specs.Walks.{Out}
use Rattle.l2_ssa.specs.Law.{RowsOf, StepsInOrder}
use Rattle.l2_ssa_points.specs.Places.{vars_of}
use Rattle.l2_ssa_points.specs.Law.{AreOver}
use Rattle.l2_gates.specs.Gates.{Lit, Made}
use Rattle.l2_gates.specs.Models.{Ok, Sound, Extends}
use Rattle.l2_blast.specs.Sorts.{sorts_of, AreTyped}
use Rattle.l2_blast.specs.Words.{Setting}
use Rattle.l2_blast.specs.Blasting.{Blasted}
use Rattle.l2_blast_laws.specs.Law.{solution, AreMet}
use Rattle.l2_blast_laws.specs.Behind.{ModelsSolveBehind, BlastingMakesBehind, AgreedShowSame, OpenIsMade, OpenRowsHaveModels, SaidRowsHold, AreAsSaid, StandsBehind}
use Rattle.l2_typed_steps.specs.Law.{StepsAreTyped}
use Rattle.l2_given_steps.specs.Law.{ChoicesMatch}
use Rattle.l2_said_rows.specs.Law.{SaidRows}
use Rattle.l2_said_rows.specs.Eventing.{SomeEventIs}
use Rattle.l2_grown_laws.specs.Questions.{Question, Asks, IsPut, asked_point}
use Rattle.l2_grown_laws.specs.Grown.{grown_kind, grown_rows, grown_ssa, HasRoom}
use Rattle.l2_grown_laws.specs.Law.{SolvesGrown, QuestionsAreRuns}
use Rattle.l2_grown_models.specs.Asking.{open_of, grown_clauses, no_ranks, meaning_at, SayRows, SaysEvent}
use Rattle.l2_grown_models.specs.Law.{IsAskable, HasModelUnder, QuestionsAreModels}

-- what the crates below say
pub record Below : Type 0 where
  pub in_order : StepsInOrder
  pub typed : StepsAreTyped
  pub choices_match : ChoicesMatch
  pub models_solve : ModelsSolveBehind
  pub open_made : OpenIsMade
  pub open_models : OpenRowsHaveModels
  pub said_hold : SaidRowsHold
  pub makes : BlastingMakesBehind
  pub show_same : AgreedShowSame
  pub questions : QuestionsAreRuns
  pub said_rows : SaidRows
  pub some_event : SomeEventIs

module _ (b : Below) (p : ProgramTree) (f : Family) (c : CodeTree) (it : IsAskable p f c) (k : ℕ) (some : 1 ≤ k) (counts : ℕ → ℕ) (x : Question) (put : IsPut x) (over : AreOver c (asked_point x) None) (room : HasRoom counts (asked_point x))
    (before : Made) (so : Sound before) (m : Made) where
  abbrev o : Out
  o = grown_ssa c f k counts

  abbrev s : Setting
  s = open_of c

  abbrev blasted : Blasted
  blasted = grown_clauses c o before

  abbrev row : RowsOf
  row = grown_rows (vars_of c) (asked_point x)

  pub in_order : InOrder 0 o.steps
  in_order = (b.in_order c f k (grown_kind counts) false).0

  pub typed : AreTyped (types_of c) (sorts_of o.steps) o.steps
  typed = (b.typed c f it.code_of.well_formed it.code_of.resolved it.direct k (grown_kind counts) false).0

  stands : StandsBehind s o.steps before
  stands = b.makes s b.open_made before so o.steps

  abbrev Said : Names → Type 0
  Said t = AreAsSaid (meaning_at c (asked_point x)) blasted.env t 0 o.steps

  solves : (v : ℕ → Bool) → v 0 ≡ true → Ok v blasted.made → Said (solution blasted.env v) → SolvesGrown c f k counts (asked_point x) no_ranks (solution blasted.env v)
  solves v one ok said =
      b.models_solve s it.sized b.open_made before so o.steps in_order typed v one ok row no_ranks
      (b.said_hold s it.sized b.open_made before so o.steps in_order typed v one ok row no_ranks said)

  module _ (later : Extends blasted.made m) (ys : List Lit) (z : Lit) (rows : SayRows c o blasted (asked_point x) m ys) (event : SaysEvent o blasted x m z) where
    asked : HasModelUnder m ys z → Asks p f.object k x
    asked (v, one, ok, yes_rows, yes_event) =
        let r = event.only v one ok yes_event in
        b.questions.found p f c it.code_of k some counts x put over room no_ranks (solution blasted.env v) (solves v one (later.back v ok) (rows.only v one ok yes_rows)) r.0 r.1 r.2

    found : (u : ℕ → Bool) → u 0 ≡ true → Ok u before → Asks p f.object k x → HasModelUnder m ys z
    found u one ok h =
        let w = b.questions.made p f c it.code_of k some counts x put over room no_ranks h in
        let t = b.choices_match c f it.few k (grown_kind counts) false w.0 w.1 in
        let (v, agree, made, met, said) = b.open_models (types_of c) (length c.objects) it.sized before so o.steps in_order typed u one ok t.0 t.1 row no_ranks in
        let n = later.model v made in
        let there : 1 ≤ blasted.made.next = (stands.extends.sound).some in
        let same : solution blasted.env n.v' ≡ solution blasted.env v = b.show_same blasted.env blasted.made.next there stands.words v n.v' n.agree in
        let one_now : n.v' 0 ≡ true = n.agree 0 (omega (arith, there)) ∙ agree 0 (let z = so.some in omega (arith, z)) ∙ one in
        let said_now : Said (solution blasted.env n.v') = subst Said (sym same) said in
        let met_now = subst (λ y. AreMet t.0 y 0 o.steps) (sym same) met in
        let e = w.2 (solution blasted.env n.v') (solves n.v' one_now (later.back n.v' n.ok) said_now) (t.2 (solution blasted.env n.v') met_now) in
        (n.v', one_now, n.ok, rows.all n.v' one_now n.ok said_now, event.some n.v' one_now n.ok e.0 e.1 e.2)

pub questions_are_models : Below → QuestionsAreModels
questions_are_models b p f c it k some counts x put over room before so u one ok m later ys z rows event = (
  (λ h. asked b p f c it k some counts x put over room before so m later ys z rows event h),
  (λ h. found b p f c it k some counts x put over room before so m later ys z rows event u one ok h),
)
