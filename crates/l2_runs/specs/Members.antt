-- Sets of what a pointer may be.
use Rattle.std.specs.Prelude.{◌≡◌, ◌==◌, Bool, true, false, ◌||◌, List, [], ◌∷◌}
use Rattle.l2_runs.specs.declared.cells.CellValue.{CellValue}
use Rattle.l2_runs.specs.declared.cells.CellValue.TheVariants as value
use Rattle.l2_runs.specs.declared.member.Member.{Member}
use Rattle.l2_runs.specs.declared.member.Member.TheVariants.{Null, Invalid, Object}

abbrev pub same_member : Member → Member → Bool
same_member Null Null = true
same_member Invalid Invalid = true
same_member (Object o) (Object p) = o == p
same_member a b = false

abbrev pub has : List Member → Member → Bool
has [] m = false
has (x ∷ xs) m = same_member x m || has xs m

-- a value's target; a number has none
abbrev pub targets : CellValue → Member → Bool
targets (value.Number z) m = false
targets value.Null m = same_member Null m
targets value.Invalid m = same_member Invalid m
targets (value.At o f) m = same_member (Object o) m

-- a pointer is in a set
abbrev pub is_in : (Member → Bool) → CellValue → Bool
is_in set (value.Number z) = false
is_in set value.Null = set Null
is_in set value.Invalid = set Invalid
is_in set (value.At o f) = set (Object o)

-- each member of one set is in the other
abbrev pub Within : (Member → Bool) → (Member → Bool) → Type 0
Within a b = (m : Member) → a m ≡ true → b m ≡ true
