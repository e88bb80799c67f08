-- The literals of rows and goals.
use Rattle.std.proofs.Common.{◌≡◌, ◌↔◌, inl, inr, ℕ, suc, ◌+◌, Bool, true, false, not, refl, sym, ap, ◌∙◌, subst, List, [], ◌∷◌, length, map, None, arith}
use Rattle.std.specs.List.{Contains}
use Rattle.l2_program.specs.Programs.{ProgramTree}
use Rattle.l2_templates.specs.declared.point.LoopPoint.{LoopPoint}
use Rattle.l2_templates.specs.Forms.{row_holds}
use Rattle.l2_code.specs.Trees.{CodeTree}
use Rattle.l2_code.specs.Sets.{Family}
use Rattle.l2_code.specs.Modes.{types_of}
use Rattle.l2_ssa.specs.Steps.{Step, values_of, InOrder}
use Rattle.l2_ssa.specs.Walks.{Goal, Event, Out, past}
use Rattle.l2_ssa.specs.Law.{HasEvent, EventsKnown, StepsInOrder}
use Rattle.l2_ssa_points.specs.Places.{vars_of, placed_row_at}
use Rattle.l2_ssa_points.specs.Meanings.{numbers_in}
use Rattle.l2_gates.specs.Gates.{Lit, negated, Made, Bit, start, xor}
use Rattle.l2_gates.specs.Models.{differ, value, Ok, Sound, Gives, Extends, Makes}
use Rattle.l2_gates.proofs.Made.{below_up, ext_then, gates_make}
use Rattle.l2_gates.proofs.Values.{negated_value, gates_give}
use Rattle.l2_blast.specs.Sorts.{sorts_of, AreTyped}
use Rattle.l2_blast.specs.Words.{Env, wide_words, Fill}
use Rattle.l2_blast_laws.specs.Law.{solution}
use Rattle.l2_blast_laws.proofs.Given.{circuits}
use Rattle.l2_blast_laws.proofs.Envs.{env_up}
use Rattle.l2_blast_laws.proofs.Making.{words_below}
use Rattle.l2_blast_laws.proofs.Folds.{Folds, all_made, start_sound}
use Rattle.l2_blast_laws.proofs.Opening.{open_is_made}
use Rattle.l2_blast_laws.proofs.Solving.{literals_show_behind}
use Rattle.l2_typed_steps.specs.Law.{AreTruths, StepsAreTyped}
use Rattle.l2_goals.specs.Fills.{fill_of}
use Rattle.l2_goal_laws.specs.Filling.{FillsAreMade, FillsMean}
use Rattle.l2_goal_laws.specs.Fits.{AreOf}
use Rattle.l2_goal_laws.proofs.Sizes.{no_zero}
use Rattle.l2_grown_laws.specs.Grown.{grown_kind, grown_ssa}
use Rattle.l2_grown_models.specs.Asking.{open_of}
use Rattle.l2_grown_models.specs.Law.{IsAskable}
use Rattle.l2_growing.specs.Models.{at_variables, followed}
use Rattle.l2_growing.proofs.Following.{first_true, variables_sound, old_part, new_part, follows}
use Rattle.l2_asked_goals.specs.Spots.{Spot, shown_by, base_of, grown_spots, grown_events, grown_names, HasLiteral, row_literal}
use Rattle.l2_asked_goals.specs.Law.{IsBehind, RowLiteralsSay, EventsShow, BaseIsMade}
use Rattle.l2_asked_goals.proofs.Spots.{IsSpot, spot_at, numbers, all_there}

agree : (a b : Bool) → not (differ a b) ≡ true → a ≡ b
agree true true e = refl
agree true false e = sym e
agree false true e = e
agree false false e = refl

agreed : (a b : Bool) → a ≡ b → not (differ a b) ≡ true
agreed true true e = refl
agreed true false e = sym e
agreed false true e = e
agreed false false e = refl

-- what the crates below say
pub record Below' : Type 0 where
  pub in_order : StepsInOrder
  pub typed : StepsAreTyped
  pub made : FillsAreMade
  pub mean : FillsMean

pub base_is_made : BaseIsMade
base_is_made c f k counts = (all_made circuits (open_of c) open_is_made (grown_ssa c f k counts).steps [] start (start_sound circuits (open_of c) open_is_made) tt).extends

past_length : (n : ℕ) (xs : List Step) → past n xs ≡ n + length xs
past_length n [] = omega arith
past_length n (x ∷ xs) = let e = past_length (suc n) xs in omega (arith, e)

module _ (b : Below') (p : ProgramTree) (f : Family) (c : CodeTree) (it : IsAskable p f c) (k : ℕ) (counts : ℕ → ℕ) where
  abbrev o : Out
  o = grown_ssa c f k counts

  abbrev base : Made
  base = (base_of c f k counts).made

  abbrev env : Env
  env = (base_of c f k counts).env

  in_order : InOrder 0 o.steps
  in_order = (b.in_order c f k (grown_kind counts) false).0

  typed : AreTyped (types_of c) (sorts_of o.steps) o.steps
  typed = (b.typed c f it.code_of.well_formed it.code_of.resolved it.direct k (grown_kind counts) false).0

  folds : Folds start (base_of c f k counts)
  folds = all_made circuits (open_of c) open_is_made o.steps [] start (start_sound circuits (open_of c) open_is_made) tt

  -- ---- events

  module _ (v : ℕ → Bool) (one : v 0 ≡ true) (ok : Ok v base) (goal : Goal) where
    there : (es : List Event) → EventsKnown (length o.steps) es → AreTruths (sorts_of o.steps) es → HasEvent (solution env v) goal es → HasLiteral v goal (map (shown_by env) es)
    there [] h t e = e
    there (x ∷ es) h t (inl (is, e)) =
        inl (is, sym (literals_show_behind circuits (open_of c) it.sized open_is_made start (start_sound circuits (open_of c) open_is_made) o.steps in_order typed v one ok x.literal h.0 t.0) ∙ e)
    there (x ∷ es) h t (inr e) = inr (there es h.1 t.1 e)

    back : (es : List Event) → EventsKnown (length o.steps) es → AreTruths (sorts_of o.steps) es → HasLiteral v goal (map (shown_by env) es) → HasEvent (solution env v) goal es
    back [] h t e = e
    back (x ∷ es) h t (inl (is, e)) =
        inl (is, literals_show_behind circuits (open_of c) it.sized open_is_made start (start_sound circuits (open_of c) open_is_made) o.steps in_order typed v one ok x.literal h.0 t.0 ∙ e)
    back (x ∷ es) h t (inr e) = inr (back es h.1 t.1 e)

    known : EventsKnown (length o.steps) o.events
    known = subst (λ n. EventsKnown n o.events) (let e = past_length 0 o.steps in omega (arith, e)) (b.in_order c f k (grown_kind counts) false).1

    truths : AreTruths (sorts_of o.steps) o.events
    truths = (b.typed c f it.code_of.well_formed it.code_of.resolved it.direct k (grown_kind counts) false).1

    pub events_here : HasEvent (solution env v) goal o.events ↔ HasLiteral v goal (grown_events c f k counts)
    events_here = (there o.events known truths, back o.events known truths)

  -- ---- rows

  module _ (q : List LoopPoint) (over : AreOf c q None) (s : Spot) (here : Contains (grown_spots c f k counts) s) (m : Made) (x : Extends base m) (i : ℕ) where
    abbrev fill : Fill
    fill = fill_of (vars_of c) q None

    abbrev a : Made
    a = at_variables m.next

    abbrev words : List (List Lit)
    words = wide_words env s.vars

    spot : IsSpot o.steps base s
    spot = spot_at o.steps base (grown_spots c f k counts) (all_there c it.sized o.steps in_order typed) s here

    sound : Sound a
    sound = variables_sound m.next (x.sound).some

    abbrev bit : Bit
    bit = fill.row s.at i words a

    bit_made : Makes a bit
    bit_made = (b.made (vars_of c) q None).row s.at i words a sound (words_below circuits.constants_are_there a sound env (env_up base.next m.next env x.grows folds.below) s.vars)

    abbrev gate : Bit
    gate = xor s.own bit.bit bit.made

    gate_made : Makes bit.made gate
    gate_made =
        (gates_make bit.made bit_made.extends.sound).xors s.own bit.bit
        (below_up m.next bit.made.next s.own bit_made.extends.grows (below_up base.next m.next s.own x.grows spot.own)) bit_made.bit

    first : (v : ℕ → Bool) → Ok v m → v 0 ≡ true
    first v ok = first_true v 1 ((base_is_made c f k counts).back v (x.back v ok))

    behind : IsBehind m (row_literal fill env s i a)
    behind = follows m gate.made x.sound first (ext_then a bit.made gate.made bit_made.extends gate_made.extends)

    abbrev holds : (ℕ → Bool) → Bool
    holds v = row_holds (placed_row_at (vars_of c) q s.at i) (numbers_in (values_of (grown_names c f k counts v) s.vars))

    gives : (v : ℕ → Bool) → v 0 ≡ true → Ok v base → Gives v a (holds v) bit
    gives v one ok =
        let z = numbers c it.sized o.steps in_order typed v one ok s.vars spot.before spot.numbers in
        subst (λ w. Gives v a (row_holds (placed_row_at (vars_of c) q s.at i) (numbers_in w)) bit) (sym z.1)
        ((b.mean (types_of c) (vars_of c) q None (no_zero c it.code_of.well_formed) over.rows over.rankings v one).row s.at i words z.0 a z.2)

    literal_is : (v : ℕ → Bool) → v 0 ≡ true → Ok v base → Ok v gate.made → value v (negated gate.bit) ≡ not (differ (value v s.own) (holds v))
    literal_is v one ok now =
        let g = (gates_give v one bit.made).xors s.own bit.bit now in
        negated_value v gate.bit ∙ ap not (g.is ∙ ap (differ (value v s.own)) (gives v one ok g.before).is)

    says : (v : ℕ → Bool) → v 0 ≡ true → Ok v (followed m gate.made) → (value v (negated gate.bit) ≡ true) ↔ (value v s.own ≡ holds v)
    says v one ok =
        let e = literal_is v one (x.back v (old_part m gate.made v ok)) (new_part m gate.made v ok) in (
          (λ t. agree (value v s.own) (holds v) (sym e ∙ t)),
          (λ h. e ∙ agreed (value v s.own) (holds v) h),
        )

    -- the same of a literal that is this one
    pub row_says : (r : Bit) → r ≡ row_literal fill env s i a
        → IsBehind m r × ((v : ℕ → Bool) → v 0 ≡ true → Ok v (followed m r.made) → (value v r.bit ≡ true) ↔ (value v s.own ≡ holds v))
    row_says r e =
        subst (λ y. IsBehind m y × ((v : ℕ → Bool) → v 0 ≡ true → Ok v (followed m y.made) → (value v y.bit ≡ true) ↔ (value v s.own ≡ holds v))) (sym e) (behind, says)

pub rows_say' : Below' → RowLiteralsSay
rows_say' b p f c it k counts q over s here m x i r e = row_says b p f c it k counts q over s here m x i r e

pub events_show : Below' → EventsShow
events_show b p f c it k counts v one ok goal = events_here b p f c it k counts v one ok goal
