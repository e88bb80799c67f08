-- The equations of well-formed code over its sets are typed.
use Rattle.std.specs.Prelude.{ℕ, Bool, List, [], ◌∷◌}
use Rattle.l2_code.specs.Trees.{CodeTree}
use Rattle.l2_code.specs.Sets.{Family, IsResolved}
use Rattle.l2_code.specs.Modes.{types_of}
use Rattle.l2_code.specs.WellFormed.{IsWellFormed}
use Rattle.l2_ssa.specs.Walks.{Kind, Event}
use Rattle.l2_ssa.specs.Law.{ssa}
use Rattle.l2_blast.specs.Sorts.{Sorts, sorts_of, IsTruth, AreTyped}
use Rattle.l2_typed_steps.specs.Direct.{AreDirect}

-- the events are truth values
abbrev pub AreTruths : Sorts → List Event → Type 0
AreTruths sorts [] = Unit {0}
AreTruths sorts (e ∷ es) = IsTruth sorts e.literal × AreTruths sorts es

abbrev pub StepsAreTyped : Type 0
StepsAreTyped =
    (c : CodeTree) (f : Family) → IsWellFormed c → IsResolved c f → AreDirect (types_of c).objects c.body → (k : ℕ) (kind : ℕ → Kind) (ranks : Bool)
    → AreTyped (types_of c) (sorts_of (ssa c f k kind ranks).steps) (ssa c f k kind ranks).steps
    × AreTruths (sorts_of (ssa c f k kind ranks).steps) (ssa c f k kind ranks).events
