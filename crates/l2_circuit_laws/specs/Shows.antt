-- Words that show whole numbers: their bits are those of the number in two's complement.
use Rattle.std.specs.Prelude.{◌≡◌, ℕ, ◌-◌, ◌^◌, ◌≤◌, Bool, true, false, not, int_lt, ℤ, pos, neg_ℤ, ◌+ℤ◌, ◌-ℤ◌, ◌*ℤ◌, ◌≤ℤ◌, ◌<ℤ◌, List, length}
use Rattle.std.specs.Ordering.{int_eq}
use Rattle.l2_bits.specs.declared.types.Ty.{Ty}
use Rattle.l2_bits.specs.Values.{residue, wrap}
use Rattle.l2_gates.specs.Gates.{Lit, F, Made}
use Rattle.l2_gates.specs.Models.{value, Ok, Gives}
use Rattle.l2_circuits.specs.Words.{sum, sub, less, less_equal, eq, choose, constant, extended, truth_word}
use Rattle.l2_circuits.specs.Products.{mul}
use Rattle.l2_circuit_laws.specs.Law.{picked}
use Rattle.l2_circuit_laws.specs.Values.{values, bit_number, number}

-- a word of n bits shows a number
pub record Shows (v : ℕ → Bool) (n : ℕ) (a : List Lit) (x : ℤ) : Type 0 where
  pub size : length a ≡ n
  pub number : number (values v a) ≡ residue (2 ^ n) x

-- numbers that n bits with a sign or without can tell apart
pub record IsSigned (n : ℕ) (x : ℤ) : Type 0 where
  pub from : neg_ℤ (pos (2 ^ (n - 1))) ≤ℤ x
  pub to : x <ℤ pos (2 ^ (n - 1))

pub record IsUnsigned (n : ℕ) (x : ℤ) : Type 0 where
  pub from : pos 0 ≤ℤ x
  pub to : x <ℤ pos (2 ^ n)

abbrev pub Fits : Bool → ℕ → ℤ → Type 0
Fits true n x = IsSigned n x
Fits false n x = IsUnsigned n x

-- a word that shows a number where its clauses are true
pub record Gains (v : ℕ → Bool) (m : Made) (n : ℕ) (bits : List Lit) (x : ℤ) : Type 0 where
  pub before : Ok v m
  pub shows : Shows v n bits x

abbrev pub SumsShow : Type 0
SumsShow =
    (v : ℕ → Bool) → v 0 ≡ true → (n : ℕ) (a b : List Lit) (x y : ℤ) (m : Made) → Shows v n a x → Shows v n b y
    → Ok v (sum a b F m).made → Gains v m n (sum a b F m).bits (x +ℤ y)

abbrev pub DifferencesShow : Type 0
DifferencesShow =
    (v : ℕ → Bool) → v 0 ≡ true → (n : ℕ) (a b : List Lit) (x y : ℤ) (m : Made) → Shows v n a x → Shows v n b y
    → Ok v (sub a b m).made → Gains v m n (sub a b m).bits (x -ℤ y)

abbrev pub ProductsShow : Type 0
ProductsShow =
    (v : ℕ → Bool) → v 0 ≡ true → (n : ℕ) (a b : List Lit) (x y : ℤ) (m : Made) → Shows v n a x → Shows v n b y
    → Ok v (mul a b m).made → Gains v m n (mul a b m).bits (x *ℤ y)

-- comparisons of numbers that fit
abbrev pub LessShows : Type 0
LessShows =
    (v : ℕ → Bool) → v 0 ≡ true → (signed : Bool) (n : ℕ) (a b : List Lit) (x y : ℤ) (m : Made) → 1 ≤ n
    → Fits signed n x → Fits signed n y → Shows v n a x → Shows v n b y → Gives v m (int_lt x y) (less signed a b m)

abbrev pub LessEqualShows : Type 0
LessEqualShows =
    (v : ℕ → Bool) → v 0 ≡ true → (signed : Bool) (n : ℕ) (a b : List Lit) (x y : ℤ) (m : Made) → 1 ≤ n
    → Fits signed n x → Fits signed n y → Shows v n a x → Shows v n b y → Gives v m (not (int_lt y x)) (less_equal signed a b m)

abbrev pub EqualShows : Type 0
EqualShows =
    (v : ℕ → Bool) → v 0 ≡ true → (signed : Bool) (n : ℕ) (a b : List Lit) (x y : ℤ) (m : Made) → 1 ≤ n
    → Fits signed n x → Fits signed n y → Shows v n a x → Shows v n b y → Gives v m (int_eq x y) (eq a b m)

abbrev pub ConstantsShow : Type 0
ConstantsShow = (v : ℕ → Bool) → v 0 ≡ true → (n : ℕ) (x : ℤ) → Shows v n (constant n x) x

-- a number that fits is shown by the longer word too
abbrev pub ExtensionsShow : Type 0
ExtensionsShow =
    (v : ℕ → Bool) → v 0 ≡ true → (signed : Bool) (n k : ℕ) (a : List Lit) (x : ℤ) → 1 ≤ n → n ≤ k
    → Fits signed n x → Shows v n a x → Shows v k (extended k signed a) x

-- a truth value as a word of 32 bits
abbrev pub TruthsShow : Type 0
TruthsShow = (v : ℕ → Bool) → v 0 ≡ true → (l : Lit) → Shows v 32 (truth_word l) (pos (bit_number (value v l)))

-- one of two words shows what it showed
abbrev pub ChoicesShow : Type 0
ChoicesShow =
    (v : ℕ → Bool) → v 0 ≡ true → (n : ℕ) (c : Lit) (a b : List Lit) (x y : ℤ) (m : Made) → Shows v n a x → Shows v n b y
    → Ok v (choose c a b m).made → Gains v m n (choose c a b m).bits (picked (value v c) x y)

-- a word of a type's width shows the number wrapped, too
abbrev pub WrapsShow : Type 0
WrapsShow = (v : ℕ → Bool) (ty : Ty) (a : List Lit) (x : ℤ) → Shows v ty.width a x → Shows v ty.width a (wrap ty x)
