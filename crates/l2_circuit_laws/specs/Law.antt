-- What circuits give in every model of their clauses, and that each model goes on.
use Rattle.std.specs.Prelude.{◌≡◌, ℕ, ◌+◌, ◌*◌, ◌<◌, nat_lt, nat_eq, Bool, true, false, List}
use Rattle.l2_gates.specs.Gates.{Lit, Made}
use Rattle.l2_gates.specs.Models.{value, Ok, Below, AllBelow, Sound, Extends, Gives}
use Rattle.l2_circuits.specs.declared.columns.Kind.{Kind}
use Rattle.l2_circuits.specs.Words.{Word, Sum, columns, sum, sub, ltu, eq, choose}
use Rattle.l2_circuits.specs.Products.{mul, Divided, divide}
use Rattle.l2_circuit_laws.specs.Values.{values, bit_number, number, power, SameSize, Total, column_values}

-- a sum that is made has these values, where its clauses are true
pub record Adds (v : ℕ → Bool) (m : Made) (s : Sum) (t : Total) : Type 0 where
  pub before : Ok v m
  pub bits : values v s.bits ≡ t.bits
  pub carry : value v s.carry ≡ t.carry

-- the circuits that go bit by bit compute what their columns do
abbrev pub ColumnsHaveValues : Type 0
ColumnsHaveValues =
    (v : ℕ → Bool) → v 0 ≡ true → (kind : Kind) (a b : List Lit) (c : Lit) (m : Made)
    → Ok v (columns kind a b c m).made → Adds v m (columns kind a b c m) (column_values kind (values v a) (values v b) (value v c))

-- a sum's literals are there, and each model before it goes on
pub record MakesSum (m : Made) (s : Sum) : Type 0 where
  pub bits : AllBelow s.made.next s.bits
  pub carry : Below s.made.next s.carry
  pub extends : Extends m s.made

abbrev pub ColumnsAreMade : Type 0
ColumnsAreMade =
    (m : Made) → Sound m → (kind : Kind) (a b : List Lit) (c : Lit) → AllBelow m.next a → AllBelow m.next b → Below m.next c
    → MakesSum m (columns kind a b c m)

-- ---- numbers

-- the sum and its carry, of words of one length
abbrev pub SumsAre : Type 0
SumsAre =
    (v : ℕ → Bool) → v 0 ≡ true → (a b : List Lit) (c : Lit) (m : Made) → SameSize a b → Ok v (sum a b c m).made
    → number (values v (sum a b c m).bits) + power a * bit_number (value v (sum a b c m).carry) ≡ number (values v a) + number (values v b) + bit_number (value v c)

-- the difference: the carry is missing where it is below 0
abbrev pub DifferencesAre : Type 0
DifferencesAre =
    (v : ℕ → Bool) → v 0 ≡ true → (a b : List Lit) (m : Made) → SameSize a b → Ok v (sub a b m).made
    → number (values v (sub a b m).bits) + number (values v b) + power a * bit_number (value v (sub a b m).carry) ≡ number (values v a) + power a

abbrev pub LessIs : Type 0
LessIs =
    (v : ℕ → Bool) → v 0 ≡ true → (a b : List Lit) (m : Made) → SameSize a b
    → Gives v m (nat_lt (number (values v a)) (number (values v b))) (ltu a b m)

abbrev pub EqualIs : Type 0
EqualIs =
    (v : ℕ → Bool) → v 0 ≡ true → (a b : List Lit) (m : Made) → SameSize a b
    → Gives v m (nat_eq (number (values v a)) (number (values v b))) (eq a b m)

-- ---- choices, products, quotients

abbrev pub picked : {X : Type 0} → Bool → X → X → X
picked true a b = a
picked false a b = b

pub record Chooses (v : ℕ → Bool) (m : Made) (w : Word) (bits : List Bool) : Type 0 where
  pub before : Ok v m
  pub is : values v w.bits ≡ bits

abbrev pub ChoicesAre : Type 0
ChoicesAre =
    (v : ℕ → Bool) → v 0 ≡ true → (c : Lit) (a b : List Lit) (m : Made) → SameSize a b → Ok v (choose c a b m).made
    → Chooses v m (choose c a b m) (picked (value v c) (values v a) (values v b))

-- a product, but for multiples of 2 to the power of the width
pub record Multiplies (v : ℕ → Bool) (m : Made) (w : Word) (a b : List Lit) : Type 0 where
  pub before : Ok v m
  pub size : SameSize w.bits a
  pub times : ℕ
  pub is : number (values v w.bits) + times * power a ≡ number (values v a) * number (values v b)

abbrev pub ProductsAre : Type 0
ProductsAre = (v : ℕ → Bool) → v 0 ≡ true → (a b : List Lit) (m : Made) → Ok v (mul a b m).made → Multiplies v m (mul a b m) a b

-- the quotient by a word that isn't 0, and what is left
pub record Divides (v : ℕ → Bool) (m : Made) (d : Divided) (a b : List Lit) : Type 0 where
  pub before : Ok v m
  pub quotient_size : SameSize d.quotient a
  pub rest_size : SameSize d.rest a
  pub is : number (values v d.quotient) * number (values v b) + number (values v d.rest) ≡ number (values v a)
  pub small : number (values v d.rest) < number (values v b)

abbrev pub QuotientsAre : Type 0
QuotientsAre =
    (v : ℕ → Bool) → v 0 ≡ true → (a b : List Lit) (m : Made) → SameSize a b → 0 < number (values v b) → Ok v (divide a b m).made
    → Divides v m (divide a b m) a b
