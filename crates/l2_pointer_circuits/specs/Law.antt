-- What circuits of pointers give, and that they are made.
use Rattle.std.specs.Prelude.{◌≡◌, ℕ, ◌<◌, ◌≤◌, ◌==◌, ◌++◌, ℤ, pos, Bool, true, false, ◌&&◌, if◌then◌else◌, Option, Some, None, List, [], ◌∷◌, length}
use Rattle.l2_gates.specs.Gates.{Lit, Made}
use Rattle.l2_gates.specs.Models.{value, Ok, Gives, Below, AllBelow, Sound, Makes}
use Rattle.l2_circuits.specs.Words.{choose}
use Rattle.l2_circuit_laws.specs.Law.{picked}
use Rattle.l2_circuit_laws.specs.Shows.{Shows, Gains}
use Rattle.l2_circuit_laws.specs.Making.{MakesWord}
use Rattle.l2_runs.specs.declared.cells.CellType.{CellType}
use Rattle.l2_runs.specs.declared.cells.CellType.TheVariants.{Pointer}
use Rattle.l2_runs.specs.declared.cells.CellValue.{CellValue}
use Rattle.l2_runs.specs.declared.cells.CellValue.TheVariants.{Number, At}
use Rattle.l2_runs.specs.declared.member.Member.{Member}
use Rattle.l2_runs.specs.declared.member.Member.TheVariants as member
use Rattle.l2_runs.specs.Members.{has, targets, is_in, Within}
use Rattle.l2_runs.specs.Fits.{Layout}
use Rattle.l2_runs.specs.Store.{Address}
use Rattle.l2_runs.specs.Back.{pointer_of}
use Rattle.l2_code.specs.declared.action.PointerOperator.{PointerOperator}
use Rattle.l2_code.specs.declared.action.PointerOperator.TheVariants as operator
use Rattle.l2_code.specs.Trees.{CodeTree}
use Rattle.l2_code.specs.Values.{moved, on_pointers, is_some, is_not_null, is_not_invalid, has_cells, same_object}
use Rattle.l2_code.specs.Modes.{types_of}
use Rattle.l2_code.specs.declared.sets.Sets.{Sets}
use Rattle.l2_code.specs.Sets.{listed, family, AreOver}
use Rattle.l2_code.specs.WellFormed.{IsConstant, IsFactor, IsWhole, IsWellFormed}
use Rattle.l2_pointer_circuits.specs.Words.{pointer_word, at_bit, pick_word, moved_word, operator_word}
use Rattle.l2_pointer_circuits.specs.Tests.{isnt_bit, Flag, live_bit, cells_bit, move_bit, same_bit, among_bit}
use Rattle.l2_pointer_circuits.specs.Shows.{ShowsPointer, IsSmall, HaveCells, is_live, GainsPointer, GainsNumber}

-- ---- words

-- a selector and an offset side by side
abbrev pub HalvesShow : Type 0
HalvesShow =
    (v : ℕ → Bool) → v 0 ≡ true → (cells : Layout) (s f : List Lit) (k j : ℕ) (x : CellValue) → k < 131072 → j < 131072 → Shows v 17 s (pos k) → Shows v 17 f (pos j)
    → pointer_of cells (pos k) (pos j) ≡ Some x → ShowsPointer v (s ++ f) x

abbrev pub PointersShow : Type 0
PointersShow =
    (v : ℕ → Bool) → v 0 ≡ true → (cells : Layout) → IsSmall cells → (x : CellValue) → IsConstant cells Pointer x → ShowsPointer v (pointer_word x) x

-- one of two words shows what it showed
abbrev pub PointerChoicesShow : Type 0
PointerChoicesShow =
    (v : ℕ → Bool) → v 0 ≡ true → (c : Lit) (a b : List Lit) (x y : CellValue) (m : Made) → ShowsPointer v a x → ShowsPointer v b y
    → Ok v (choose c a b m).made → GainsPointer v m (choose c a b m).bits (Some (picked (value v c) x y))

-- a pointer is at a place
abbrev pub is_at : Address → CellValue → Bool
is_at p (At o f) = (o == p.object) && (f == p.offset)
is_at p x = false

-- an object's number and an offset that fit their halves
pub record IsPlace (p : Address) : Type 0 where
  pub object_from : 1 ≤ p.object
  pub object_to : p.object ≤ 131070
  pub offset_to : p.offset < 131072

abbrev pub PlacesAre : Type 0
PlacesAre =
    (v : ℕ → Bool) → v 0 ≡ true → (p : Address) (a : List Lit) (x : CellValue) (m : Made) → IsPlace p → ShowsPointer v a x → Gives v m (is_at p x) (at_bit p a m)

-- reads and writes at one place: words of numbers, and words of pointers
pub record PicksShow (v : ℕ → Bool) (p : Address) (a : List Lit) (x : CellValue) (m : Made) : Type 0 where
  pub numbers : (n : ℕ) (b c : List Lit) (y z : ℤ) → Shows v n b y → Shows v n c z → Ok v (pick_word p a b c m).made → Gains v m n (pick_word p a b c m).bits (if is_at p x then y else z)
  pub pointers : (b c : List Lit) (y z : CellValue) → ShowsPointer v b y → ShowsPointer v c z → Ok v (pick_word p a b c m).made
      → GainsPointer v m (pick_word p a b c m).bits (Some (if is_at p x then y else z))

abbrev pub PicksAre : Type 0
PicksAre =
    (v : ℕ → Bool) → v 0 ≡ true → (p : Address) (a : List Lit) (x : CellValue) (m : Made) → IsPlace p → ShowsPointer v a x → PicksShow v p a x m

-- a move of a pointer in the set, where it stays in the object
abbrev pub MovesShow : Type 0
MovesShow =
    (v : ℕ → Bool) → v 0 ≡ true → (cells : Layout) → IsSmall cells → (set : List Member) → HaveCells cells set → (by n : ℤ) (a b : List Lit) (x : CellValue) (m : Made)
    → IsFactor by → IsWhole (Number n) → ShowsPointer v a x → Shows v 96 b n → Within (targets x) (has set)
    → Ok v (moved_word by a b m).made → GainsPointer v m (moved_word by a b m).bits (moved cells by x (Number n))

-- an operator on two pointers, where it has an answer
abbrev pub width_of : PointerOperator → ℕ
width_of operator.Diff = 64
width_of op = 32

abbrev pub OperatorsShow : Type 0
OperatorsShow =
    (v : ℕ → Bool) → v 0 ≡ true → (op : PointerOperator) (a b : List Lit) (x y : CellValue) (m : Made) → ShowsPointer v a x → ShowsPointer v b y
    → Ok v (operator_word op a b m).made → GainsNumber v m (width_of op) (operator_word op a b m).bits (on_pointers op x y)

-- ---- tests, where the pointer is in the set

abbrev pub NullIs : Type 0
NullIs =
    (v : ℕ → Bool) → v 0 ≡ true → (cells : Layout) → IsSmall cells → (set : List Member) → HaveCells cells set → (a : List Lit) (x : CellValue) (m : Made)
    → ShowsPointer v a x → Within (targets x) (has set) → Gives v m (is_not_null x) (isnt_bit member.Null set a m)

abbrev pub InvalidIs : Type 0
InvalidIs =
    (v : ℕ → Bool) → v 0 ≡ true → (cells : Layout) → IsSmall cells → (set : List Member) → HaveCells cells set → (a : List Lit) (x : CellValue) (m : Made)
    → ShowsPointer v a x → Within (targets x) (has set) → Gives v m (is_not_invalid x) (isnt_bit member.Invalid set a m)

-- flags of objects whose numbers fit a half
abbrev pub AreFlags : List Flag → Type 0
AreFlags [] = Unit {0}
AreFlags (t ∷ rest) = (1 ≤ t.object) × (t.object ≤ 131070) × AreFlags rest

abbrev pub LiveIs : Type 0
LiveIs =
    (v : ℕ → Bool) → v 0 ≡ true → (flags : List Flag) (a : List Lit) (x : CellValue) (m : Made) → AreFlags flags → ShowsPointer v a x
    → Gives v m (is_live v flags x) (live_bit flags a m)

abbrev pub CellsAre : Type 0
CellsAre =
    (v : ℕ → Bool) → v 0 ≡ true → (cells : Layout) → IsSmall cells → (set : List Member) (types : List CellType) → 0 < length types → (a : List Lit) (x : CellValue) (m : Made)
    → ShowsPointer v a x → Within (targets x) (has set) → Gives v m (has_cells cells types x) (cells_bit cells types set a m)

abbrev pub MovesAre : Type 0
MovesAre =
    (v : ℕ → Bool) → v 0 ≡ true → (cells : Layout) → IsSmall cells → (set : List Member) → HaveCells cells set → (by n : ℤ) (a b : List Lit) (x : CellValue) (m : Made)
    → IsFactor by → IsWhole (Number n) → ShowsPointer v a x → Shows v 96 b n → Within (targets x) (has set)
    → Gives v m (is_some (moved cells by x (Number n))) (move_bit cells by set a b m)

abbrev pub SameIs : Type 0
SameIs =
    (v : ℕ → Bool) → v 0 ≡ true → (cells : Layout) → IsSmall cells → (set : List Member) → HaveCells cells set → (a b : List Lit) (x y : CellValue) (m : Made)
    → ShowsPointer v a x → ShowsPointer v b y → Within (targets x) (has set) → Gives v m (same_object x y) (same_bit a b m)

-- a pointer in the set, where there is one
abbrev pub is_of : List Member → Option CellValue → Bool
is_of set None = false
is_of set (Some x) = is_in (has set) x

abbrev pub AmongIs : Type 0
AmongIs =
    (v : ℕ → Bool) → v 0 ≡ true → (cells : Layout) → IsSmall cells → (set : List Member) → HaveCells cells set → (s f : List Lit) (k j : ℕ) (m : Made) → k < 131072 → j < 131072
    → Shows v 17 s (pos k) → Shows v 17 f (pos j) → Gives v m (is_of set (pointer_of cells (pos k) (pos j))) (among_bit cells set s f m)

-- ---- codes

-- layouts of codes are small, and so are the sets over them
abbrev pub CodesAreSmall : Type 0
CodesAreSmall = (c : CodeTree) → IsWellFormed c → IsSmall (types_of c).objects

abbrev pub SetsHaveCells : Type 0
SetsHaveCells =
    (c : CodeTree) (s : Sets) (n : ℕ) → AreOver c (family s) → HaveCells (types_of c).objects (listed s s.temps n) × HaveCells (types_of c).objects (listed s s.objects n)

-- ---- what is made

abbrev pub FlagsBelow : ℕ → List Flag → Type 0
FlagsBelow n [] = Unit {0}
FlagsBelow n (t ∷ rest) = Below n t.live × FlagsBelow n rest

-- circuits of one pointer
pub record PointersMake (m : Made) (a : List Lit) : Type 0 where
  pub not_member : (x : Member) (set : List Member) → Makes m (isnt_bit x set a m)
  pub live : (flags : List Flag) → FlagsBelow m.next flags → Makes m (live_bit flags a m)
  pub cells : (cells : Layout) (types : List CellType) (set : List Member) → Makes m (cells_bit cells types set a m)
  pub places : (p : Address) → Makes m (at_bit p a m)
  pub picks : (p : Address) (x y : List Lit) → AllBelow m.next x → AllBelow m.next y → MakesWord m (pick_word p a x y m)
  pub moves : (by : ℤ) (b : List Lit) → AllBelow m.next b → MakesWord m (moved_word by a b m)
  pub may_move : (cells : Layout) (by : ℤ) (set : List Member) (b : List Lit) → AllBelow m.next b → Makes m (move_bit cells by set a b m)
  pub same : (b : List Lit) → AllBelow m.next b → Makes m (same_bit a b m)
  pub operators : (op : PointerOperator) (b : List Lit) → AllBelow m.next b → MakesWord m (operator_word op a b m)

abbrev pub PointersAreMade : Type 0
PointersAreMade = (m : Made) → Sound m → (a : List Lit) → AllBelow m.next a → PointersMake m a

abbrev pub AmongIsMade : Type 0
AmongIsMade = (m : Made) → Sound m → (cells : Layout) (set : List Member) (s f : List Lit) → AllBelow m.next s → AllBelow m.next f → Makes m (among_bit cells set s f m)

abbrev pub ConstantsAreThere : Type 0
ConstantsAreThere = (m : Made) → Sound m → (x : CellValue) → AllBelow m.next (pointer_word x)
