-- The literals of a question, by gates.
use Rattle.std.proofs.Common.{◌≡◌, ◌↔◌, ℕ, suc, ◌+◌, ◌≤◌, ◌==◌, ◌&&◌, Bool, true, false, List, [], ◌∷◌, length, None, refl, ap, ◌∙◌, subst, arith}
use Rattle.std.proofs.lemmas.Bool.Decides.{nat_tests}
use Rattle.l2_program.specs.Programs.{ProgramTree}
use Rattle.l2_code.specs.Trees.{CodeTree}
use Rattle.l2_code.specs.Sets.{Family}
use Rattle.l2_cuts.specs.Points.{point_at}
use Rattle.l2_renumber_laws.specs.Fronted.{has_rows}
use Rattle.l2_ssa.specs.Steps.{Step}
use Rattle.l2_ssa.specs.Walks.{Goal, RowGoal, RankGoal, CheckGoal, Event, Out, past}
use Rattle.l2_ssa.specs.Law.{HasEvent, EventsKnown}
use Rattle.l2_ssa_points.specs.Law.{AreOver}
use Rattle.l2_gates.specs.Gates.{Made, Bit}
use Rattle.l2_gates.specs.Models.{value, Ok, Sound, Extends, Makes}
use Rattle.l2_gates.proofs.Made.{ext_then}
use Rattle.l2_blast.specs.Sorts.{Sorts, sorts_of}
use Rattle.l2_blast.specs.Words.{Fill}
use Rattle.l2_blast.specs.Blasting.{Blasted}
use Rattle.l2_blast_laws.specs.Law.{solution, IsMade, FillMeans}
use Rattle.l2_typed_steps.specs.Law.{AreTruths}
use Rattle.l2_said_rows.specs.Saying.{Literals}
use Rattle.l2_said_rows.specs.Law.{Says}
use Rattle.l2_said_rows.specs.Eventing.{AreFit}
use Rattle.l2_grown_laws.specs.Questions as questions
use Rattle.l2_grown_laws.specs.Questions.{Question, Any, Break, IsPut, asked_point}
use Rattle.l2_grown_laws.specs.Grown.{grown_kind, grown_rows, grown_ssa, HasRoom, in_front, IsAnswer}
use Rattle.l2_grown_models.specs.Asking.{open_of, grown_clauses, no_ranks, meaning_at, is_asked, SayRows, SaysEvent}
use Rattle.l2_grown_models.specs.Law.{IsAskable, asked_rows, asked_event, GatesAsk}
use Rattle.l2_grown_models.proofs.Models.{Below, questions_are_models}
use Rattle.l2_ssa_points.specs.Places.{vars_of}

-- ---- the goals of a question

both_true : (a b : Bool) → (a && b) ≡ true → (a ≡ true) × (b ≡ true)
both_true true b e = (refl, e)
both_true false b e = absurd (cc e)

equal_numbers : (m n : ℕ) → (m == n) ≡ true → m ≡ n
equal_numbers m n e = grind (arith, nat_tests)

itself : (n : ℕ) → (n == n) ≡ true
itself n = grind (arith, nat_tests)

is_answer : (x : Question) (goal : Goal) → is_asked x goal ≡ true → IsAnswer x goal
is_answer (questions.Row q at row above) (RowGoal l i) e =
    let t = both_true (l == at) (i == in_front (has_rows (point_at q at))) e in
    let a = equal_numbers l at t.0 in
    let b = equal_numbers i (in_front (has_rows (point_at q at))) t.1 in
    (λ j. RowGoal (a j) (b j))
is_answer (questions.Row q at row above) (RankGoal l) e = absurd (cc e)
is_answer (questions.Row q at row above) (CheckGoal n) e = absurd (cc e)
is_answer (Any q) (RowGoal l i) e = tt
is_answer (Any q) (RankGoal l) e = absurd (cc e)
is_answer (Any q) (CheckGoal n) e = absurd (cc e)
is_answer (Break q) (RowGoal l i) e = tt
is_answer (Break q) (RankGoal l) e = absurd (cc e)
is_answer (Break q) (CheckGoal n) e = tt

asked_answer : (x : Question) (goal : Goal) → IsAnswer x goal → is_asked x goal ≡ true
asked_answer (questions.Row q at row above) goal e =
    let n = in_front (has_rows (point_at q at)) in
    ap (is_asked (questions.Row q at row above)) e ∙ (λ j. itself at j && (n == n)) ∙ itself n
asked_answer (Any q) (RowGoal l i) e = refl
asked_answer (Any q) (RankGoal l) e = absurd e
asked_answer (Any q) (CheckGoal n) e = absurd e
asked_answer (Break q) (RowGoal l i) e = refl
asked_answer (Break q) (RankGoal l) e = absurd e
asked_answer (Break q) (CheckGoal n) e = refl

-- ---- events

past_length : (n : ℕ) (xs : List Step) → past n xs ≡ n + length xs
past_length n [] = omega arith
past_length n (x ∷ xs) = let e = past_length (suc n) xs in omega (arith, e)

are_fit : (sorts : Sorts) (n : ℕ) (es : List Event) → EventsKnown n es → AreTruths sorts es → AreFit sorts n es
are_fit sorts n [] h t = tt
are_fit sorts n (e ∷ es) h t = ((h.0, t.0), are_fit sorts n es h.1 t.1)

module _ (b : Below) (p : ProgramTree) (f : Family) (c : CodeTree) (it : IsAskable p f c) (k : ℕ) (some : 1 ≤ k) (counts : ℕ → ℕ) (x : Question) (put : IsPut x) (over : AreOver c (asked_point x) None) (room : HasRoom counts (asked_point x))
    (before : Made) (so : Sound before) (u : ℕ → Bool) (one : u 0 ≡ true) (ok : Ok u before) (fill : Fill) (fills : IsMade fill) (means : (v : ℕ → Bool) → v 0 ≡ true → FillMeans v fill (meaning_at c (asked_point x)))
    (between : Made) (ext : Extends (grown_clauses c (grown_ssa c f k counts) before).made between) where
  abbrev o : Out
  o = grown_ssa c f k counts

  abbrev blasted : Blasted
  blasted = grown_clauses c o before

  abbrev rows : Literals
  rows = asked_rows c f k counts before fill between

  abbrev event : Bit
  event = asked_event c f k counts x before rows.made

  fit : AreFit (sorts_of o.steps) (length o.steps) o.events
  fit = are_fit (sorts_of o.steps) (length o.steps) o.events (subst (λ n. EventsKnown n o.events) (let e = past_length 0 o.steps in omega (arith, e)) (b.in_order c f k (grown_kind counts) false).1)
      (b.typed c f it.code_of.well_formed it.code_of.resolved it.direct k (grown_kind counts) false).1

  says : Says (open_of c) (grown_rows (vars_of c) (asked_point x)) no_ranks blasted.env 0 o.steps between rows
  says = b.said_rows (open_of c) it.sized b.open_made before so o.steps (b.in_order c f k (grown_kind counts) false).0 (b.typed c f it.code_of.well_formed it.code_of.resolved it.direct k (grown_kind counts) false).0
      fill fills (grown_rows (vars_of c) (asked_point x)) no_ranks means between ext

  to_rows : Extends blasted.made rows.made
  to_rows = ext_then blasted.made between rows.made ext says.extends

  tells : Makes rows.made event × ((v : ℕ → Bool) → v 0 ≡ true → Ok v event.made → (value v event.bit ≡ true) ↔ ((goal : Goal) × (is_asked x goal ≡ true) × HasEvent (solution blasted.env v) goal o.events))
  tells = b.some_event (open_of c) it.sized b.open_made before so o.steps (b.in_order c f k (grown_kind counts) false).0 (b.typed c f it.code_of.well_formed it.code_of.resolved it.direct k (grown_kind counts) false).0
      (is_asked x) o.events fit rows.made to_rows

  module _ (later : Made) (after : Extends event.made later) where
    say_rows : SayRows c o blasted (asked_point x) later rows.literals
    say_rows = record {
      only = λ v t k. says.only v t (tells.0.extends.back v (after.back v k));
      all = λ v t k. says.all v t (tells.0.extends.back v (after.back v k));
    }

    says_event : SaysEvent o blasted x later event.bit
    says_event = record {
      only = λ v t k h. let r = (tells.1 v t (after.back v k)).0 h in (r.0, is_answer x r.0 r.1, r.2);
      some = λ v t k goal a h. (tells.1 v t (after.back v k)).1 (goal, asked_answer x goal a, h);
    }

    all_later : Extends blasted.made later
    all_later = ext_then blasted.made rows.made later to_rows (ext_then rows.made event.made later tells.0.extends after)

pub gates_ask : Below → GatesAsk
gates_ask b p f c it k some counts x put over room before so u one ok fill fills means between ext = (
  ext_then between (asked_rows c f k counts before fill between).made (asked_event c f k counts x before (asked_rows c f k counts before fill between).made).made
      (says b p f c it k some counts x put over room before so u one ok fill fills means between ext).extends
      (tells b p f c it k some counts x put over room before so u one ok fill fills means between ext).0.extends,
  λ later after. questions_are_models b p f c it k some counts x put over room before so u one ok later
      (all_later b p f c it k some counts x put over room before so u one ok fill fills means between ext later after)
      (asked_rows c f k counts before fill between).literals (asked_event c f k counts x before (asked_rows c f k counts before fill between).made).bit
      (say_rows b p f c it k some counts x put over room before so u one ok fill fills means between ext later after)
      (says_event b p f c it k some counts x put over room before so u one ok fill fills means between ext later after),
)
