-- Models of a code's clauses and solutions of its equations.
use Rattle.std.proofs.Common.{◌≡◌, ℕ, suc, ◌+◌, Bool, true, List, [], ◌∷◌, length, subst, arith}
use Rattle.l2_code.specs.Trees.{CodeTree}
use Rattle.l2_code.specs.Sets.{Family}
use Rattle.l2_code.specs.Modes.{types_of}
use Rattle.l2_supply.specs.Supply.{Supply}
use Rattle.l2_ssa.specs.Steps.{Step, Names, Solves, InOrder}
use Rattle.l2_ssa.specs.Walks.{Kind, Goal, Event, Out, past}
use Rattle.l2_ssa.specs.Law.{RowsOf, RanksOf, ssa, HasEvent, EventsKnown, Matches}
use Rattle.l2_ssa_laws.specs.Entering.{Enters}
use Rattle.l2_gates.specs.Models.{Ok}
use Rattle.l2_blast.specs.Words.{Fill}
use Rattle.l2_blast.specs.Kept.{setting_of}
use Rattle.l2_blast.specs.Sorts.{sorts_of, AreTyped}
use Rattle.l2_blast.specs.Blasting.{Blasted}
use Rattle.l2_blast_laws.specs.Law.{solution}
use Rattle.l2_typed_steps.specs.Law.{AreTruths}
use Rattle.l2_goal_laws.specs.Models.{IsReady, Fills, IsModel, HasModel, clauses_with, meaning_with, ModelsAreSolutions, SuppliesAreSolutions}
use Rattle.l2_goal_laws.specs.Below.{Below}
use Rattle.l2_goal_laws.proofs.Sizes.{sized, is_few}
use Rattle.l2_goal_laws.proofs.Events.{Agree, event_literal, literal_event}

past_length : (n : ℕ) (xs : List Step) → past n xs ≡ n + length xs
past_length n [] = omega arith
past_length n (x ∷ xs) = let e = past_length (suc n) xs in omega (arith, e)

module _ (b : Below) (c : CodeTree) (f : Family) (ready : IsReady c f) (k : ℕ) (kind : ℕ → Kind) (ranks : Bool) (fill : Fill) (row : RowsOf) (lower : RanksOf) (fills : Fills c fill row lower) where
  abbrev out : Out
  out = ssa c f k kind ranks

  abbrev blasted : Blasted
  blasted = clauses_with c fill out

  pub in_order : InOrder 0 out.steps
  in_order = (b.in_order c f k kind ranks).0

  pub known : EventsKnown (length out.steps) out.events
  known = subst (λ n. EventsKnown n out.events) (let e = past_length 0 out.steps in omega (arith, e)) (b.in_order c f k kind ranks).1

  pub typed : AreTyped (types_of c) (sorts_of out.steps) out.steps
  typed = (b.typed c f ready.well_formed ready.resolved ready.direct k kind ranks).0

  pub truths : AreTruths (sorts_of out.steps) out.events
  truths = (b.typed c f ready.well_formed ready.resolved ready.direct k kind ranks).1

  pub solves : (v : ℕ → Bool) → v 0 ≡ true → Ok v blasted.made → Solves (meaning_with c row lower) (solution blasted.env v) 0 out.steps
  solves v one ok =
      b.models_solve (setting_of c fill) (sized c ready.well_formed fill) fills.made out.steps in_order typed v one ok row lower
      (b.fills_hold (setting_of c fill) (sized c ready.well_formed fill) fills.made out.steps in_order typed v one ok row lower (fills.means v one))

  agreed : (v : ℕ → Bool) → v 0 ≡ true → Ok v blasted.made → (es : List Event) → EventsKnown (length out.steps) es → AreTruths (sorts_of out.steps) es → Agree v blasted.env (solution blasted.env v) es
  agreed v one ok [] h t = tt
  agreed v one ok (e ∷ es) h t =
      (b.literals_show (setting_of c fill) (sized c ready.well_formed fill) fills.made out.steps in_order typed v one ok e.literal h.0 t.0, agreed v one ok es h.1 t.1)

  pub first : (v : ℕ → Bool) → Ok v blasted.made → v 0 ≡ true
  first v ok = b.first_true (setting_of c fill) fills.made out.steps v ok

  pub model_shows : (goal : Goal) (v : ℕ → Bool) → IsModel blasted out goal v
      → (v 0 ≡ true) × Solves (meaning_with c row lower) (solution blasted.env v) 0 out.steps × HasEvent (solution blasted.env v) goal out.events
  model_shows goal v (ok, t) =
      let one = first v ok in
      (one, solves v one ok, literal_event v one blasted.env (solution blasted.env v) goal out.events (agreed v one ok out.events known truths) t)

  pub model_solves : (goal : Goal) → HasModel c fill out goal → (s : Names) × Solves (meaning_with c row lower) s 0 out.steps × HasEvent s goal out.events
  model_solves goal (v, m) = let r = model_shows goal v m in (solution blasted.env v, r.1, r.2)

  pub supply_solves : (u : Supply) → Enters (types_of c).objects out.given u
      → (s : Names) × Solves (meaning_with c row lower) s 0 out.steps × Matches (types_of c).objects s out.given u × ((goal : Goal) → HasEvent s goal out.events → HasModel c fill out goal)
  supply_solves u enters =
      let m = b.choices_match c f (is_few c ready.well_formed) k kind ranks u enters in
      let r = b.choices_have_models (setting_of c fill) (sized c ready.well_formed fill) fills.made out.steps in_order typed m.0 m.1 in (
        solution blasted.env r.0,
        solves r.0 r.1 r.2,
        m.2 (solution blasted.env r.0) r.3,
        λ goal h. (r.0, (r.2, event_literal r.0 r.1 blasted.env (solution blasted.env r.0) goal out.events (agreed r.0 r.1 r.2 out.events known truths) h)),
      )

pub models_are_solutions : Below → ModelsAreSolutions
models_are_solutions b c f ready k kind ranks fill row lower fills goal v m = model_shows b c f ready k kind ranks fill row lower fills goal v m

pub supplies_are_solutions : Below → SuppliesAreSolutions
supplies_are_solutions b c f ready k kind ranks fill row lower fills u h = supply_solves b c f ready k kind ranks fill row lower fills u h
