-- A literal that says that some event is true.
use Rattle.std.specs.Prelude.{◌≡◌, ◌↔◌, ℕ, Bool, true, List, [], ◌∷◌, length, if◌then◌else◌}
use Rattle.l2_ssa.specs.Steps.{Step, IsBefore, InOrder}
use Rattle.l2_ssa.specs.Walks.{Goal, Event}
use Rattle.l2_ssa.specs.Law.{HasEvent}
use Rattle.l2_gates.specs.Gates.{F, Made, Bit, known, or}
use Rattle.l2_gates.specs.Models.{value, Ok, Sound, Extends, Makes}
use Rattle.l2_blast.specs.Sorts.{Sorts, sorts_of, IsTruth, AreTyped}
use Rattle.l2_blast.specs.Words.{Env, literal, Setting}
use Rattle.l2_blast_laws.specs.Law.{solution, IsSized, IsMade}
use Rattle.l2_blast_laws.specs.Behind.{behind}

-- of the events whose goals are asked for
abbrev pub some_event : (Goal → Bool) → Env → List Event → Made → Bit
some_event asked env [] m = known F m
some_event asked env (e ∷ es) m =
    if asked e.goal then (let r = some_event asked env es m in or (literal env e.literal) r.bit r.made) else some_event asked env es m

-- events are truth values among so many names
abbrev pub AreFit : Sorts → ℕ → List Event → Type 0
AreFit sorts n [] = Unit {0}
AreFit sorts n (e ∷ es) = (IsBefore n e.literal × IsTruth sorts e.literal) × AreFit sorts n es

-- behind the clauses of equations and whatever came between it is made, and true exactly where such an event is
abbrev pub SomeEventIs : Type 0
SomeEventIs =
    (s : Setting) → IsSized s → IsMade s.fill → (before : Made) → Sound before → (xs : List Step) → InOrder 0 xs → AreTyped s.types (sorts_of xs) xs
    → (asked : Goal → Bool) (es : List Event) → AreFit (sorts_of xs) (length xs) es → (m : Made) → Extends (behind s xs before).made m
    → Makes m (some_event asked (behind s xs before).env es m)
    × ((v : ℕ → Bool) → v 0 ≡ true → Ok v (some_event asked (behind s xs before).env es m).made
    → (value v (some_event asked (behind s xs before).env es m).bit ≡ true) ↔ ((goal : Goal) × (asked goal ≡ true) × HasEvent (solution (behind s xs before).env v) goal es))
