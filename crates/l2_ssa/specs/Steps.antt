-- Equations on names, each of which stands behind the names that it reads, and what solves them.
use Rattle.std.specs.Prelude.{◌≡◌, ℕ, suc, ◌<◌, ℤ, pos, Bool, true, false, not, ◌&&◌, ◌||◌, ◌==◌, if◌then◌else◌, List, [], ◌∷◌, Option, Some, None, IfSome}
use Rattle.l2_bits.specs.declared.types.Ty.{Ty}
use Rattle.l2_bits.specs.Values.{IsValue}
use Rattle.l2_runs.specs.declared.cells.CellType.{CellType}
use Rattle.l2_runs.specs.declared.cells.CellValue.{CellValue}
use Rattle.l2_runs.specs.declared.cells.CellValue.TheVariants.{Number, At}
use Rattle.l2_runs.specs.declared.member.Member.{Member}
use Rattle.l2_runs.specs.Members.{targets, is_in, Within}
use Rattle.l2_runs.specs.Operators.{truth}
use Rattle.l2_runs.specs.Back.{pointer_of}
use Rattle.l2_code.specs.declared.action.Operand.{Operand}
use Rattle.l2_code.specs.declared.action.Operand.TheVariants.{Constant, Temp}
use Rattle.l2_code.specs.declared.action.Test.{Test}
use Rattle.l2_code.specs.declared.action.Test.TheVariants as test
use Rattle.l2_code.specs.declared.action.Computation.{Computation}
use Rattle.l2_code.specs.declared.action.Computation.TheVariants.{Numbers, Convert, Move, Pointers, Passes}
use Rattle.l2_code.specs.Values.{Types, operand_value, is_true, compute}

-- the live flag of an object, by the object's number
pub record Flag : Type 0 where
  pub object : ℕ
  pub live : Operand

-- Operands are constants and names: `Temp n` is name n. Each step names the next number. The first operand of most is the path on
-- which the step stands: where it is false, the step says nothing, but that a choice is one.
pub data Step : Type 0 where
  -- whether a loop starts back
  Choose : Operand → Step
  -- a choice of this type
  Take : Operand → Ty → Step
  -- the selector of any pointer, or its offset
  Half : Operand → Step
  -- the pointer of a selector and an offset
  Point : Operand → Operand → Operand → Step
  -- whether these are the selector and the offset of a pointer of the set
  Among : Operand → Operand → Operand → (Member → Bool) → Step
  -- an operator or a test on names; where it looks into a pointer, that is in the set
  Compute : Operand → Computation → (Member → Bool) → Step
  -- whether no flag of the pointer's object is false
  Alive : Operand → Operand → List Flag → Step
  -- the first of two values where a pointer is this object and offset, else the second
  Pick : Operand → Operand → ℕ → ℕ → CellType → Operand → Operand → Step
  -- row i of loop l of these values
  Row : Operand → ℕ → ℕ → List Operand → Step
  -- whether the ranking of loop l is lower from the first values to the second
  Lower : Operand → ℕ → List Operand → List Operand → Step
  -- where the second is true, and the third isn't
  Apart : Operand → Operand → Operand → Step
  -- paths: where both are true; where the first alone is; where one is
  Both : Operand → Operand → Step
  But : Operand → Operand → Step
  Either : Operand → Operand → Step
  -- at a label: the entry's value, where its path is true, else that of the path that falls to the label
  Merge : Operand → Operand → CellType → Operand → Operand → Step

-- ---- what solves them

-- the names' values
abbrev pub Names : Type 0
Names = ℕ → CellValue

-- an operand is true
abbrev pub on : Names → Operand → Bool
on s a = is_true (operand_value s a)

abbrev pub bit : Bool → CellValue
bit b = Number (truth b)

abbrev pub number_in : CellValue → ℤ
number_in (Number z) = z
number_in x = pos 0

-- the pointer into which a computation looks
abbrev pub looked_at : Computation → Option Operand
looked_at (Move by a b) = Some a
looked_at (Passes (test.Null a)) = Some a
looked_at (Passes (test.Invalid a)) = Some a
looked_at (Passes (test.Cells x a)) = Some a
looked_at (Passes (test.Move by a b)) = Some a
looked_at (Passes (test.Same a b)) = Some a
looked_at c = None

-- what it looks into is in the set
abbrev pub LooksInto : Names → Option Operand → (Member → Bool) → Type 0
LooksInto s None set = Unit {0}
LooksInto s (Some a) set = Within (targets (operand_value s a)) set

-- no object of these flags to which the pointer leads is dead
abbrev pub is_alive : Names → CellValue → List Flag → Bool
is_alive s v [] = true
is_alive s (At o f) (x ∷ rest) = (not (o == x.object) || on s x.live) && is_alive s (At o f) rest
is_alive s v (x ∷ rest) = true

abbrev pub is_at : ℕ → ℕ → CellValue → Bool
is_at o f (At p g) = (p == o) && (g == f)
is_at o f x = false

-- the selector and offset are those of a pointer of the set
abbrev pub is_among : (Member → Bool) → Option CellValue → Bool
is_among set None = false
is_among set (Some v) = is_in set v

abbrev pub values_of : Names → List Operand → List CellValue
values_of s [] = []
values_of s (a ∷ rest) = operand_value s a ∷ values_of s rest

-- what rows and rankings say of the values of a loop's variables
pub record Meaning : Type 0 where
  pub types : Types
  pub row : ℕ → ℕ → List CellValue → Bool
  pub lower : ℕ → List CellValue → List CellValue → Bool

-- a step holds of its name
abbrev pub Holds : Meaning → Names → ℕ → Step → Type 0
Holds m s n (Choose g) = (b : Bool) × (s n ≡ bit b)
Holds m s n (Take g ty) = (z : ℤ) × (s n ≡ Number z) × IsValue ty z
Holds m s n (Half g) = (k : ℕ) × (s n ≡ Number (pos k)) × (k < 131072)
Holds m s n (Point g sel off) =
    on s g ≡ true → IfSome (pointer_of m.types.objects (number_in (operand_value s sel)) (number_in (operand_value s off))) (λ v. s n ≡ v)
Holds m s n (Among g sel off set) =
    on s g ≡ true → s n ≡ bit (is_among set (pointer_of m.types.objects (number_in (operand_value s sel)) (number_in (operand_value s off))))
Holds m s n (Compute g c set) = on s g ≡ true → LooksInto s (looked_at c) set → IfSome (compute m.types [] s c) (λ v. s n ≡ v)
Holds m s n (Alive g a flags) = on s g ≡ true → s n ≡ bit (is_alive s (operand_value s a) flags)
Holds m s n (Pick g a o f ty x y) = on s g ≡ true → s n ≡ (if is_at o f (operand_value s a) then operand_value s x else operand_value s y)
Holds m s n (Row g l i vars) = on s g ≡ true → s n ≡ bit (m.row l i (values_of s vars))
Holds m s n (Lower g l old new) = on s g ≡ true → s n ≡ bit (m.lower l (values_of s old) (values_of s new))
Holds m s n (Apart g a b) = on s g ≡ true → s n ≡ bit (on s a && not (on s b))
Holds m s n (Both a b) = s n ≡ bit (on s a && on s b)
Holds m s n (But a b) = s n ≡ bit (on s a && not (on s b))
Holds m s n (Either a b) = s n ≡ bit (on s a || on s b)
Holds m s n (Merge g h ty x y) =
    (on s h ≡ true → s n ≡ operand_value s x) × (on s g ≡ true → on s h ≡ false → s n ≡ operand_value s y)

-- the names solve the steps, from a name on
abbrev pub Solves : Meaning → Names → ℕ → List Step → Type 0
Solves m s n [] = Unit {0}
Solves m s n (x ∷ xs) = Holds m s n x × Solves m s (suc n) xs

-- ---- order

-- an operand that is a constant, or a name before this one
abbrev pub IsBefore : ℕ → Operand → Type 0
IsBefore n (Constant v) = Unit {0}
IsBefore n (Temp i) = i < n

abbrev pub AreBefore : ℕ → List Operand → Type 0
AreBefore n [] = Unit {0}
AreBefore n (a ∷ rest) = IsBefore n a × AreBefore n rest

abbrev pub FlagsBefore : ℕ → List Flag → Type 0
FlagsBefore n [] = Unit {0}
FlagsBefore n (x ∷ rest) = IsBefore n x.live × FlagsBefore n rest

abbrev pub operands_of_test : Test → List Operand
operands_of_test (test.Division ty a b) = a ∷ b ∷ []
operands_of_test (test.Shift ty a) = a ∷ []
operands_of_test (test.Overflow op ty a b) = a ∷ b ∷ []
operands_of_test (test.Index n a) = a ∷ []
operands_of_test (test.IndexEnd n a) = a ∷ []
operands_of_test (test.Null a) = a ∷ []
operands_of_test (test.Invalid a) = a ∷ []
operands_of_test (test.Live a) = a ∷ []
operands_of_test (test.Cells x a) = a ∷ []
operands_of_test (test.Move by a b) = a ∷ b ∷ []
operands_of_test (test.Same a b) = a ∷ b ∷ []

abbrev pub operands_of : Computation → List Operand
operands_of (Numbers op ty a b) = a ∷ b ∷ []
operands_of (Convert ty a) = a ∷ []
operands_of (Move by a b) = a ∷ b ∷ []
operands_of (Pointers op a b) = a ∷ b ∷ []
operands_of (Passes t) = operands_of_test t

abbrev pub Reads : ℕ → Step → Type 0
Reads n (Choose g) = IsBefore n g
Reads n (Take g ty) = IsBefore n g
Reads n (Half g) = IsBefore n g
Reads n (Point g sel off) = IsBefore n g × IsBefore n sel × IsBefore n off
Reads n (Among g sel off set) = IsBefore n g × IsBefore n sel × IsBefore n off
Reads n (Compute g c set) = IsBefore n g × AreBefore n (operands_of c)
Reads n (Alive g a flags) = IsBefore n g × IsBefore n a × FlagsBefore n flags
Reads n (Pick g a o f ty x y) = IsBefore n g × IsBefore n a × IsBefore n x × IsBefore n y
Reads n (Row g l i vars) = IsBefore n g × AreBefore n vars
Reads n (Lower g l old new) = IsBefore n g × AreBefore n old × AreBefore n new
Reads n (Apart g a b) = IsBefore n g × IsBefore n a × IsBefore n b
Reads n (Both a b) = IsBefore n a × IsBefore n b
Reads n (But a b) = IsBefore n a × IsBefore n b
Reads n (Either a b) = IsBefore n a × IsBefore n b
Reads n (Merge g h ty x y) = IsBefore n g × IsBefore n h × IsBefore n x × IsBefore n y

-- each step reads names before its own
abbrev pub InOrder : ℕ → List Step → Type 0
InOrder n [] = Unit {0}
InOrder n (x ∷ xs) = Reads n x × InOrder (suc n) xs
