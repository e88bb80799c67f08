-- The literal of some events, one after another.
use Rattle.std.proofs.Common.{◌≡◌, ◌⊎◌, ◌↔◌, inl, inr, ℕ, Bool, true, false, not, refl, sym, ap, ◌∙◌, List, [], ◌∷◌, length}
use Rattle.l2_ssa.specs.Steps.{Step, on, InOrder}
use Rattle.l2_ssa.specs.Walks.{Goal, Event}
use Rattle.l2_ssa.specs.Law.{HasEvent}
use Rattle.l2_gates.specs.Gates.{Lit, F, Made, Bit, or}
use Rattle.l2_gates.specs.Models.{both, value, Ok, Sound, Extends, Makes}
use Rattle.l2_gates.specs.Law.{GatesHaveValues}
use Rattle.l2_gates.proofs.Bools.{by_test}
use Rattle.l2_gates.proofs.Made.{ext_refl, ext_then, gates_make}
use Rattle.l2_blast.specs.Sorts.{sorts_of, AreTyped}
use Rattle.l2_blast.specs.Words.{Env, literal, Setting}
use Rattle.l2_blast_laws.specs.Law.{solution, IsSized, IsMade}
use Rattle.l2_blast_laws.specs.Behind.{behind}
use Rattle.l2_blast_laws.proofs.Circuits.{Circuits}
use Rattle.l2_blast_laws.proofs.Envs.{env_up}
use Rattle.l2_blast_laws.proofs.Making.{F_below, literal_below}
use Rattle.l2_blast_laws.proofs.Folds.{Folds, all_made}
use Rattle.l2_blast_laws.proofs.Solving.{literals_show_behind}
use Rattle.l2_said_rows.specs.Eventing.{some_event, AreFit, SomeEventIs}

one_of : (a b : Bool) → not (both (not a) (not b)) ≡ true → (a ≡ true) ⊎ (b ≡ true)
one_of true b e = inl refl
one_of false true e = inr refl
one_of false false e = inl e

from_first : (a b : Bool) → a ≡ true → not (both (not a) (not b)) ≡ true
from_first true b e = refl
from_first false b e = absurd (cc)

from_second : (a b : Bool) → b ≡ true → not (both (not a) (not b)) ≡ true
from_second true b e = refl
from_second false true e = refl
from_second false false e = e

module _ (gates : GatesHaveValues) (c : Circuits) (s : Setting) (sized : IsSized s) (made : IsMade s.fill) (before : Made) (so : Sound before) (xs : List Step) (r : InOrder 0 xs) (ty : AreTyped s.types (sorts_of xs) xs) (asked : Goal → Bool) where
  abbrev env : Env
  env = (behind s xs before).env

  abbrev base : Made
  base = (behind s xs before).made

  folds : Folds before (behind s xs before)
  folds = all_made c s made xs [] before so tt

  abbrev IsAsked : (ℕ → Bool) → List Event → Type 0
  IsAsked v es = (goal : Goal) × (asked goal ≡ true) × HasEvent (solution env v) goal es

  abbrev Tells : List Event → Made → Bit → Type 0
  Tells es m b = Makes m b × ((v : ℕ → Bool) → v 0 ≡ true → Ok v b.made → (value v b.bit ≡ true) ↔ IsAsked v es)

  false_one : (v : ℕ → Bool) → v 0 ≡ true → value v F ≡ true → ⊥
  false_one v one e = let q : value v F ≡ false = ap not one in cc

  -- one event more
  module _ (e : Event) (es : List Event) (fit : AreFit (sorts_of xs) (length xs) (e ∷ es)) (m : Made) (x : Extends base m) (rest : Bit) (ih : Tells es m rest) where
    from : Extends base rest.made
    from = ext_then base m rest.made x ih.0.extends

    abbrev l : Lit
    l = literal env e.literal

    abbrev gate : Bit
    gate = or l rest.bit rest.made

    gate_made : Makes rest.made gate
    gate_made = (gates_make rest.made from.sound).ors l rest.bit (literal_below rest.made from.sound env (env_up base.next rest.made.next env from.grows folds.below) e.literal) ih.0.bit

    either : (v : ℕ → Bool) (a b : Bool) (goal : Goal) → HasEvent (solution env v) goal (e ∷ es) → on (solution env v) e.literal ≡ a → (HasEvent (solution env v) goal es → b ≡ true) → not (both (not a) (not b)) ≡ true
    either v a b goal (inl (is, t)) shown k = from_first a b (sym shown ∙ t)
    either v a b goal (inr h) shown k = from_second a b (k h)

    elsewhere : (v : ℕ → Bool) (goal : Goal) → asked goal ≡ true → asked e.goal ≡ false → HasEvent (solution env v) goal (e ∷ es) → HasEvent (solution env v) goal es
    elsewhere v goal q n (inl (is, t)) = absurd (let w = ap asked is in cc)
    elsewhere v goal q n (inr h) = h

    here_or_later : (v : ℕ → Bool) → asked e.goal ≡ true → (on (solution env v) e.literal ≡ value v l) → (value v l ≡ true) ⊎ (value v rest.bit ≡ true) → (value v rest.bit ≡ true → IsAsked v es) → IsAsked v (e ∷ es)
    here_or_later v q shown (inl h) k = (e.goal, q, inl (refl, shown ∙ h))
    here_or_later v q shown (inr h) k = let t = k h in (t.0, t.1, inr t.2)

    with_event : asked e.goal ≡ true → Tells (e ∷ es) m gate
    with_event q = (
      record { bit = gate_made.bit; extends = ext_then m rest.made gate.made ih.0.extends gate_made.extends },
      λ v one ok.
          let g = (gates v one rest.made).ors l rest.bit ok in
          let shown = literals_show_behind c s sized made before so xs r ty v one (from.back v g.before) e.literal fit.0.0 fit.0.1 in
          let later = ih.1 v one g.before in (
            (λ t. here_or_later v q shown (one_of (value v l) (value v rest.bit) (sym g.is ∙ t)) later.0),
            (λ h. g.is ∙ either v (value v l) (value v rest.bit) h.0 h.2 shown (λ k. later.1 (h.0, h.1, k))),
          ),
    )

    without_event : asked e.goal ≡ false → Tells (e ∷ es) m rest
    without_event n = (
      ih.0,
      λ v one ok. (
        (λ t. let k = (ih.1 v one ok).0 t in (k.0, k.1, inr k.2)),
        (λ h. (ih.1 v one ok).1 (h.0, h.1, elsewhere v h.0 h.1 n h.2)),
      ),
    )

  all_tell : (es : List Event) → AreFit (sorts_of xs) (length xs) es → (m : Made) → Extends base m → Tells es m (some_event asked env es m)
  all_tell [] fit m x = (record { bit = F_below m x.sound; extends = ext_refl m x.sound }, λ v one ok. ((λ t. absurd (false_one v one t)), (λ h. absurd h.2)))
  all_tell (e ∷ es) fit m x =
      let ih = all_tell es fit.1 m x in
      let rest = some_event asked env es m in
      by_test (Tells (e ∷ es) m) (asked e.goal) (or (literal env e.literal) rest.bit rest.made) rest (with_event e es fit m x rest ih) (without_event e es fit m x rest ih)

pub some_event_is : GatesHaveValues → Circuits → SomeEventIs
some_event_is gates c s sized made before so xs r ty asked es fit m x = all_tell gates c s sized made before so xs r ty asked es fit m x
