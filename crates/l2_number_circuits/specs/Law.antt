-- What circuits on numbers give, and that they are made.
use Rattle.std.specs.Prelude.{◌≡◌, ℕ, ◌≤◌, Bool, true, false, not, ℤ, pos, ◌≤ℤ◌, Some, List, length}
use Rattle.l2_bits.specs.declared.types.Ty.{Ty}
use Rattle.l2_bits.specs.declared.operators.Op.{Op}
use Rattle.l2_bits.specs.Operators.{breaks_division, breaks_shift, overflows, IsRightOperand, convert}
use Rattle.l2_code.specs.declared.action.Operator.{Operator}
use Rattle.l2_code.specs.Values.{operate, is_below}
use Rattle.l2_code.specs.WellFormed.{is_shift}
use Rattle.l2_gates.specs.Gates.{Lit, Made}
use Rattle.l2_gates.specs.Models.{Ok, Gives, AllBelow, Sound, Makes}
use Rattle.l2_circuit_laws.specs.Making.{MakesWord}
use Rattle.l2_operator_laws.specs.Words.{Tells, ShowsValue, GainsValue}
use Rattle.l2_number_circuits.specs.Numbers.{number_word, result_type, convert_word, division_bit, shift_bit, index_bit, overflow_bit}

-- ---- what they give in each model

-- a word of any length shows an amount
pub record ShowsAmount (v : ℕ → Bool) (a : List Lit) (x : ℤ) : Type 0 where
  pub signed : Bool
  pub width : ℕ
  pub tells : Tells v signed width a x

-- the right operand is of the operator's type, but for a shift's amount
abbrev pub ShowsRight : Bool → (ℕ → Bool) → Ty → List Lit → ℤ → Type 0
ShowsRight true v ty b y = ShowsAmount v b y
ShowsRight false v ty b y = ShowsValue v ty b y

-- where an operator has an answer, the word shows it
abbrev pub NumbersShow : Type 0
NumbersShow =
    (v : ℕ → Bool) → v 0 ≡ true → (op : Operator) (ty : Ty) (a b : List Lit) (x y z : ℤ) (m : Made) → ShowsValue v ty a x → ShowsRight (is_shift op) v ty b y
    → operate op ty x y ≡ Some z → Ok v (number_word op ty a b m).made → GainsValue v m (result_type op ty) (number_word op ty a b m).bits z

abbrev pub ConvertedShow : Type 0
ConvertedShow =
    (v : ℕ → Bool) → v 0 ≡ true → (to : Ty) (signed : Bool) (n : ℕ) (a : List Lit) (x : ℤ) (m : Made) → Tells v signed n a x
    → Ok v (convert_word to signed a m).made → GainsValue v m to (convert_word to signed a m).bits (convert to x)

abbrev pub DivisionsAre : Type 0
DivisionsAre =
    (v : ℕ → Bool) → v 0 ≡ true → (ty : Ty) (a b : List Lit) (x y : ℤ) (m : Made) → ShowsValue v ty a x → ShowsValue v ty b y
    → Gives v m (not (breaks_division ty x y)) (division_bit ty a b m)

-- an amount of at least 8 bits
abbrev pub ShiftsAre : Type 0
ShiftsAre =
    (v : ℕ → Bool) → v 0 ≡ true → (ty : Ty) (signed : Bool) (n : ℕ) (a : List Lit) (x : ℤ) (m : Made) → 8 ≤ n → Tells v signed n a x
    → Gives v m (not (breaks_shift ty x)) (shift_bit ty signed a m)

-- an index of at least 32 bits, and an end as lengths of arrays have
abbrev pub IndexesAre : Type 0
IndexesAre =
    (v : ℕ → Bool) → v 0 ≡ true → (end : ℤ) (signed : Bool) (n : ℕ) (a : List Lit) (x : ℤ) (m : Made) → pos 0 ≤ℤ end → end ≤ℤ pos 65537 → 32 ≤ n → Tells v signed n a x
    → Gives v m (is_below end x) (index_bit end signed a m)

-- of a type with a sign; the amount of a shift is such that its own test passes
abbrev pub OverflowsAre : Type 0
OverflowsAre =
    (v : ℕ → Bool) → v 0 ≡ true → (op : Op) (ty : Ty) (signed : Bool) (n : ℕ) (a b : List Lit) (x y : ℤ) (m : Made) → ty.signed ≡ true
    → ShowsValue v ty a x → Tells v signed n b y → IsRightOperand op ty y → Gives v m (not (overflows op ty x y)) (overflow_bit op ty signed a b m)

-- ---- what is made

pub record NumbersMake (m : Made) : Type 0 where
  pub numbers : (op : Operator) (ty : Ty) (a b : List Lit) → AllBelow m.next a → AllBelow m.next b → MakesWord m (number_word op ty a b m)
  pub conversions : (to : Ty) (signed : Bool) (a : List Lit) → AllBelow m.next a → MakesWord m (convert_word to signed a m)
  pub divisions : (ty : Ty) (a b : List Lit) → AllBelow m.next a → AllBelow m.next b → Makes m (division_bit ty a b m)
  pub shifts : (ty : Ty) (signed : Bool) (a : List Lit) → AllBelow m.next a → Makes m (shift_bit ty signed a m)
  pub indexes : (end : ℤ) (signed : Bool) (a : List Lit) → AllBelow m.next a → Makes m (index_bit end signed a m)
  pub overflows : (op : Op) (ty : Ty) (signed : Bool) (a b : List Lit) → AllBelow m.next a → AllBelow m.next b → Makes m (overflow_bit op ty signed a b m)

abbrev pub NumbersAreMade : Type 0
NumbersAreMade = (m : Made) → Sound m → NumbersMake m

-- ---- lengths

-- the right operand is as long as the type asks, but for a shift's amount
abbrev pub RightLength : Bool → Ty → List Lit → Type 0
RightLength true ty b = Unit {0}
RightLength false ty b = length b ≡ ty.width

abbrev pub NumbersHaveLengths : Type 0
NumbersHaveLengths =
    (op : Operator) (ty : Ty) (a b : List Lit) (m : Made) → length a ≡ ty.width → RightLength (is_shift op) ty b
    → length (number_word op ty a b m).bits ≡ (result_type op ty).width

abbrev pub ConvertedHaveLengths : Type 0
ConvertedHaveLengths = (to : Ty) (signed : Bool) (a : List Lit) (m : Made) → length (convert_word to signed a m).bits ≡ to.width
