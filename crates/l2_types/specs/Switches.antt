-- The labels of the switch that stands round.
use Rattle.std.specs.Prelude.{ℤ, Bool, true, false, ◌||◌, if◌then◌else◌, List, [], ◌∷◌, ◌++◌}
use Rattle.std.specs.Ordering.{int_eq}
use Rattle.l2_syntax.specs.declared.place.Place.{Place}
use Rattle.l2_syntax.specs.declared.refusal.Rule.TheVariants.{Label as LabelRule, SwitchJump}
use Rattle.l2_types.specs.States.{State, with_fault}

abbrev pub jump : Place → State → State
jump p s = if s.has_declared then with_fault p SwitchJump s else s

abbrev pub contains : List ℤ → ℤ → Bool
contains [] v = false
contains (w ∷ rest) v = int_eq w v || contains rest v

abbrev pub also_value : ℤ → State → State
also_value v s = record s { values = s.values ++ v ∷ [] }

abbrev pub with_value : Place → ℤ → State → State
with_value p v s = also_value v (if contains s.values v then with_fault p LabelRule s else s)

abbrev pub the_default : Place → State → State
the_default p s = record (if s.has_default then with_fault p LabelRule s else s) { has_default = true }

abbrev pub begun : State → State
begun s = record s { values = []; has_default = false; has_declared = false }
