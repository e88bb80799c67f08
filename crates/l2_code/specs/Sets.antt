-- Which sets of pointers are closed over code: what a pointer cell or a temporary may be stands in its set.
use Rattle.std.specs.Prelude.{◌≡◌, ℕ, suc, ◌<◌, ◌≤◌, Bool, true, false, ◌||◌, List, [], ◌∷◌, length, Option, Some, None}
use Rattle.l2_runs.specs.declared.cells.CellType.{CellType}
use Rattle.l2_runs.specs.declared.cells.CellType.TheVariants.{Integer, Pointer}
use Rattle.l2_runs.specs.declared.cells.CellValue.{CellValue}
use Rattle.l2_runs.specs.declared.member.Member.{Member}
use Rattle.l2_runs.specs.declared.member.Member.TheVariants.{Null, Invalid, Object}
use Rattle.l2_runs.specs.Numbers.{at_number}
use Rattle.l2_runs.specs.Members.{has, targets, Within}
use Rattle.l2_code.specs.declared.action.Operand.{Operand}
use Rattle.l2_code.specs.declared.action.Operand.TheVariants.{Constant, Temp}
use Rattle.l2_code.specs.declared.action.Computation.{Computation}
use Rattle.l2_code.specs.declared.action.Computation.TheVariants.{Numbers, Convert, Move, Pointers, Passes}
use Rattle.l2_code.specs.declared.action.Action.{Action}
use Rattle.l2_code.specs.declared.action.Action.TheVariants as action
use Rattle.l2_code.specs.declared.code.CodeObject.{CodeObject}
use Rattle.l2_code.specs.declared.sets.PointsTo.{PointsTo}
use Rattle.l2_code.specs.declared.sets.Sets.{Sets}
use Rattle.l2_code.specs.Trees.{Node, Do, Block, Loop, Nodes, none, more, CodeTree}

-- a set for the pointer cells of each object, and one for each temporary, by their numbers
pub record Family : Type 0 where
  pub object : ℕ → Member → Bool
  pub temp : ℕ → Member → Bool

-- each set of one family is within that of another
pub record IsInside (a : Family) (b : Family) : Type 0 where
  pub objects : (n : ℕ) → Within (a.object n) (b.object n)
  pub temps : (n : ℕ) → Within (a.temp n) (b.temp n)

-- ---- the six rules

-- what an operand may be: a pointer constant is its target
abbrev pub may_be : Family → Operand → Member → Bool
may_be f (Constant v) = targets v
may_be f (Temp n) = f.temp n

-- a moved pointer may be what it was before
abbrev pub IsClosedResult : Family → ℕ → Computation → Type 0
IsClosedResult f n (Move by a b) = Within (may_be f a) (f.temp n)
IsClosedResult f n (Numbers op ty a b) = Unit {0}
IsClosedResult f n (Convert ty a) = Unit {0}
IsClosedResult f n (Pointers op a b) = Unit {0}
IsClosedResult f n (Passes test) = Unit {0}

-- what is read may be what the objects read hold, and what is written is held by the objects written
abbrev pub IsClosedAction : Family → Action → Type 0
IsClosedAction f (action.Compute n c) = IsClosedResult f n c
IsClosedAction f (action.Read n ty a) = (o : ℕ) → may_be f a (Object o) ≡ true → Within (f.object o) (f.temp n)
IsClosedAction f (action.Write ty a x) = (o : ℕ) → may_be f a (Object o) ≡ true → Within (may_be f x) (f.object o)
IsClosedAction f (action.Choice n ty) = Unit {0}
IsClosedAction f (action.Assume a) = Unit {0}
IsClosedAction f (action.Check c a) = Unit {0}
IsClosedAction f (action.Unless a n) = Unit {0}
IsClosedAction f (action.Goto n) = Unit {0}
IsClosedAction f (action.Live o) = Unit {0}
IsClosedAction f (action.Dead o) = Unit {0}
IsClosedAction f action.End = Unit {0}

abbrev mutual
  pub IsClosedNode : Family → Node → Type 0
  IsClosedNode f (Do a) = IsClosedAction f a
  IsClosedNode f (Block all) = AreClosed f all
  IsClosedNode f (Loop l all) = AreClosed f all

  pub AreClosed : Family → Nodes → Type 0
  AreClosed f none = Unit {0}
  AreClosed f (more x rest) = IsClosedNode f x × AreClosed f rest

abbrev pub is_pointer : CellType → Bool
is_pointer (Integer ty) = false
is_pointer Pointer = true

abbrev pub has_pointer : List CellType → Bool
has_pointer [] = false
has_pointer (t ∷ types) = is_pointer t || has_pointer types

-- what the pointer cells of an object hold before they are written or initialised
abbrev pub unwritten : Bool → Member
unwritten true = Null
unwritten false = Invalid

-- the targets of these values
abbrev pub AreHeld : (Member → Bool) → List CellValue → Type 0
AreHeld set [] = Unit {0}
AreHeld set (v ∷ vs) = Within (targets v) set × AreHeld set vs

-- an object with pointer cells holds Null where it is static, else Invalid; and it holds what it starts with
pub record IsClosedObject (set : Member → Bool) (o : CodeObject) : Type 0 where
  pub first : has_pointer o.cells ≡ true → set (unwritten o.is_static) ≡ true
  pub start : AreHeld set o.start

pub record IsClosed (c : CodeTree) (f : Family) : Type 0 where
  pub actions : AreClosed f c.body
  pub objects : (n : ℕ) (o : CodeObject) → at_number c.objects n ≡ Some o → IsClosedObject (f.object n) o

-- ---- sets of a code

-- an object of the code that has a cell
abbrev pub HasCell : Option CodeObject → Type 0
HasCell None = ⊥
HasCell (Some o) = 0 < length o.cells

-- the sets name objects of the code
pub record AreOver (c : CodeTree) (f : Family) : Type 0 where
  pub objects : (n o : ℕ) → f.object n (Object o) ≡ true → HasCell (at_number c.objects o)
  pub temps : (n o : ℕ) → f.temp n (Object o) ≡ true → HasCell (at_number c.objects o)

-- the sets of pointers with which a code may be resolved
pub record IsResolved (c : CodeTree) (f : Family) : Type 0 where
  pub closed : IsClosed c f
  pub over : AreOver c f

-- ---- sets as they are kept

abbrev pub members_of : Option PointsTo → List Member
members_of None = []
members_of (Some s) = s.members

abbrev pub entry_of : Option ℕ → ℕ
entry_of None = 0
entry_of (Some k) = k

-- the members of the set to which the entry of this number leads
abbrev pub listed : Sets → List ℕ → ℕ → List Member
listed s entries n = members_of (at_number s.sets (entry_of (at_number entries n)))

abbrev pub family : Sets → Family
family s = record { object = λ n. has (listed s s.objects n); temp = λ n. has (listed s s.temps n) }

-- Null, Invalid, then the objects by their numbers
abbrev pub rank : Member → ℕ
rank Null = 0
rank Invalid = 1
rank (Object o) = suc o

-- in order, each once
abbrev pub Rises : List Member → Type 0
Rises [] = Unit {0}
Rises (m ∷ []) = Unit {0}
Rises (m ∷ n ∷ rest) = (rank m < rank n) × Rises (n ∷ rest)

abbrev pub AreEntries : List PointsTo → List ℕ → Type 0
AreEntries sets [] = Unit {0}
AreEntries sets (k ∷ ks) = (k ≤ length sets) × AreEntries sets ks

abbrev pub AllRise : List PointsTo → Type 0
AllRise [] = Unit {0}
AllRise (s ∷ rest) = Rises s.members × AllRise rest

-- an entry for each object and each temporary of the code, that leads to a set in order
pub record AreSetsOf (c : CodeTree) (s : Sets) : Type 0 where
  pub objects : length s.objects ≡ length c.objects
  pub temps : length s.temps ≡ c.temps
  pub object_entries : AreEntries s.sets s.objects
  pub temp_entries : AreEntries s.sets s.temps
  pub rise : AllRise s.sets
