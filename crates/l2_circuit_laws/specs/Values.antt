-- Words as lists of truth values, and as numbers; and what circuits that go bit by bit compute of them.
use Rattle.std.specs.Prelude.{ℕ, ◌+◌, ◌*◌, Bool, true, false, not, List, [], ◌∷◌}
use Rattle.l2_gates.specs.Gates.{Lit}
use Rattle.l2_gates.specs.Models.{value, both, some_of, differ, chosen}
use Rattle.l2_circuits.specs.declared.columns.Kind.{Kind}
use Rattle.l2_circuits.specs.declared.columns.Kind.TheVariants.{And, Or, Xor, Choose, Mask, Add, Equal}

-- the values of a word's literals
abbrev pub values : (ℕ → Bool) → List Lit → List Bool
values v [] = []
values v (l ∷ ls) = value v l ∷ values v ls

abbrev pub bit_number : Bool → ℕ
bit_number true = 1
bit_number false = 0

-- the number of a word without a sign
abbrev pub number : List Bool → ℕ
number [] = 0
number (b ∷ bs) = bit_number b + 2 * number bs

-- 2 to the power of a length
abbrev pub power : {X : Type 0} → List X → ℕ
power [] = 1
power (x ∷ xs) = 2 * power xs

abbrev pub SameSize : {X Y : Type 0} → List X → List Y → Type 0
SameSize [] [] = Unit {0}
SameSize [] (y ∷ ys) = ⊥
SameSize (x ∷ xs) [] = ⊥
SameSize (x ∷ xs) (y ∷ ys) = SameSize xs ys

-- ---- columns

pub record Handed : Type 0 where
  pub sum : Bool
  pub carry : Bool

abbrev pub handed : Bool → Bool → Handed
handed s c = record { sum = s; carry = c }

-- what two bits and the one that is handed from bit to bit come to
abbrev pub column_value : Kind → Bool → Bool → Bool → Handed
column_value And x y c = handed (both x y) c
column_value Or x y c = handed (some_of x y) c
column_value Xor x y c = handed (differ x y) c
column_value Choose x y c = handed (chosen c x y) c
column_value Mask x y c = handed (both x c) c
column_value Add x y c = handed (differ (differ x y) c) (some_of (both x y) (both (differ x y) c))
column_value Equal x y c = handed (differ x y) (both c (not (differ x y)))

pub record Total : Type 0 where
  pub bits : List Bool
  pub carry : Bool

abbrev pub behind_value : Bool → Total → Total
behind_value b t = record { bits = b ∷ t.bits; carry = t.carry }

abbrev pub column_values : Kind → List Bool → List Bool → Bool → Total
column_values kind [] b c = record { bits = []; carry = c }
column_values kind (x ∷ a) [] c = record { bits = []; carry = c }
column_values kind (x ∷ a) (y ∷ b) c = let k = column_value kind x y c in behind_value k.sum (column_values kind a b k.carry)
