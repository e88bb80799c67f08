-- Shifts, quotients, operators bit by bit and conversions of words that show numbers.
use Rattle.std.specs.Prelude.{◌≡◌, ◌≢◌, ℕ, ◌^◌, ◌<◌, Bool, true, ℤ, pos, negsuc, ◌*ℤ◌, ◌≤ℤ◌, List}
use Rattle.l2_bits.specs.declared.types.Ty.{Ty}
use Rattle.l2_bits.specs.Bits.{and, or, xor}
use Rattle.l2_bits.specs.Operators.{quotient, remainder, floor_div, convert}
use Rattle.l2_gates.specs.Gates.{Lit, Made}
use Rattle.l2_gates.specs.Models.{Ok}
use Rattle.l2_circuits.specs.Words as words
use Rattle.l2_circuits.specs.Words.{ands, ors, xors, constant, extended}
use Rattle.l2_circuits.specs.Products.{Divided, quotients}
use Rattle.l2_circuits.specs.Shifts.{shift_left, shift_right}
use Rattle.l2_circuit_laws.specs.Values.{values, number}
use Rattle.l2_circuit_laws.specs.Shows.{Shows, Gains}
use Rattle.l2_operator_laws.specs.Words.{Tells, ShowsValue}

-- ---- words

abbrev pub ValuesTell : Type 0
ValuesTell = (v : ℕ → Bool) (ty : Ty) (a : List Lit) (x : ℤ) → ShowsValue v ty a x → Tells v ty.signed ty.width a x

-- 66 bits with a sign have room for the values of all types
abbrev pub ConstantsTell : Type 0
ConstantsTell =
    (v : ℕ → Bool) → v 0 ≡ true → (x : ℤ) → negsuc 9223372036854775807 ≤ℤ x → x ≤ℤ pos 18446744073709551615 → Tells v true 66 (constant 66 x) x

-- ---- shifts, by an amount below the width

abbrev pub LeftShiftsShow : Type 0
LeftShiftsShow =
    (v : ℕ → Bool) → v 0 ≡ true → (n k : ℕ) (a b : List Lit) (x : ℤ) (m : Made) → Shows v n a x → number (values v b) ≡ k → k < n
    → Ok v (shift_left a b m).made → Gains v m n (shift_left a b m).bits (x *ℤ pos (2 ^ k))

-- rounded down
abbrev pub RightShiftsShow : Type 0
RightShiftsShow =
    (v : ℕ → Bool) → v 0 ≡ true → (signed : Bool) (n k : ℕ) (a b : List Lit) (x : ℤ) (m : Made) → Tells v signed n a x → number (values v b) ≡ k → k < n
    → Ok v (shift_right signed a b m).made → Gains v m n (shift_right signed a b m).bits (floor_div x (2 ^ k))

-- ---- quotients by a number that isn't 0

pub record GainsQuotient (v : ℕ → Bool) (m : Made) (n : ℕ) (d : Divided) (x y : ℤ) : Type 0 where
  pub before : Ok v m
  pub quotient : Shows v n d.quotient (quotient x y)
  pub rest : Shows v n d.rest (remainder x y)

-- truncated towards zero
abbrev pub QuotientsShow : Type 0
QuotientsShow =
    (v : ℕ → Bool) → v 0 ≡ true → (signed : Bool) (n : ℕ) (a b : List Lit) (x y : ℤ) (m : Made) → Tells v signed n a x → Tells v signed n b y → y ≢ pos 0
    → Ok v (quotients signed a b m).made → GainsQuotient v m n (quotients signed a b m) x y

-- ---- bit by bit

pub record BitsShow (v : ℕ → Bool) (ty : Ty) (a b : List Lit) (x y : ℤ) (m : Made) : Type 0 where
  pub ands : Ok v (ands a b m).made → Gains v m ty.width (ands a b m).bits (and ty x y)
  pub ors : Ok v (ors a b m).made → Gains v m ty.width (ors a b m).bits (or ty x y)
  pub xors : Ok v (xors a b m).made → Gains v m ty.width (xors a b m).bits (xor ty x y)

abbrev pub BitByBitShows : Type 0
BitByBitShows =
    (v : ℕ → Bool) → v 0 ≡ true → (ty : Ty) (a b : List Lit) (x y : ℤ) (m : Made) → Shows v ty.width a x → Shows v ty.width b y → BitsShow v ty a b x y m

-- ---- conversions

-- a longer word or a shorter one
abbrev pub ResizedShow : Type 0
ResizedShow =
    (v : ℕ → Bool) → v 0 ≡ true → (signed : Bool) (n k : ℕ) (a : List Lit) (x : ℤ) → Tells v signed n a x → Shows v k (extended k signed a) x

abbrev pub ConversionsShow : Type 0
ConversionsShow =
    (v : ℕ → Bool) → v 0 ≡ true → (to : Ty) (signed : Bool) (n : ℕ) (a : List Lit) (x : ℤ) (m : Made) → Tells v signed n a x
    → Ok v (words.convert to.width signed a m).made → Gains v m to.width (words.convert to.width signed a m).bits (convert to x)
