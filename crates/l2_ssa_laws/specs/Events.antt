-- Which goals the events of a code's equations have.
use Rattle.std.specs.Prelude.{◌≡◌, ℕ, ◌≤◌, Bool, true, false, List, [], ◌∷◌, length}
use Rattle.l2_code.specs.Trees.{CodeTree}
use Rattle.l2_code.specs.Sets.{Family}
use Rattle.l2_code.specs.WellFormed.{IsNumber, IsWellFormed}
use Rattle.l2_ssa.specs.Walks.{Kind, Bottom, Plain, Rows, Goal, RowGoal, RankGoal, CheckGoal, Event}
use Rattle.l2_ssa.specs.Law.{ssa}

-- a row of a loop of this kind: 0 at Bottom, else from 1 on
abbrev pub IsRowOf : Kind → ℕ → Type 0
IsRowOf Bottom i = i ≡ 0
IsRowOf Plain i = ⊥
IsRowOf (Rows n) i = (1 ≤ i) × (i ≤ n)

abbrev pub HasRows : Kind → Type 0
HasRows Bottom = ⊥
HasRows Plain = ⊥
HasRows (Rows n) = Unit {0}

-- a row of a loop; where rankings are asked for, the ranking of a loop that has rows; and elsewhere a check
abbrev pub IsNamed : CodeTree → (ℕ → Kind) → Bool → Goal → Type 0
IsNamed c kind ranks (RowGoal l i) = IsNumber (length c.loops) l × IsRowOf (kind l) i
IsNamed c kind ranks (RankGoal l) = (ranks ≡ true) × IsNumber (length c.loops) l × HasRows (kind l)
IsNamed c kind ranks (CheckGoal n) = (ranks ≡ false) × IsNumber (length c.checks) n

abbrev pub AreNamed : CodeTree → (ℕ → Kind) → Bool → List Event → Type 0
AreNamed c kind ranks [] = Unit {0}
AreNamed c kind ranks (e ∷ es) = IsNamed c kind ranks e.goal × AreNamed c kind ranks es

abbrev pub EventsNamed : Type 0
EventsNamed = (c : CodeTree) (f : Family) → IsWellFormed c → (k : ℕ) (kind : ℕ → Kind) (ranks : Bool) → AreNamed c kind ranks (ssa c f k kind ranks).events
