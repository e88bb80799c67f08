-- The models of the clauses are the solutions of the steps.
use Rattle.std.specs.Prelude.{◌≡◌, ℕ, suc, ◌<◌, ◌≤◌, Bool, true, ℤ, pos, List, [], ◌∷◌, length, map}
use Rattle.l2_bits.specs.Values.{IsValue, wrap}
use Rattle.l2_runs.specs.declared.cells.CellType.TheVariants.{Integer, Pointer}
use Rattle.l2_runs.specs.declared.cells.CellValue.{CellValue}
use Rattle.l2_runs.specs.declared.cells.CellValue.TheVariants.{Number}
use Rattle.l2_code.specs.declared.action.Operand.{Operand}
use Rattle.l2_ssa.specs.Steps.{IsBefore, Step, Choose, Take, Half, Row, Lower, Names, on, bit, Meaning, Holds, Solves, InOrder}
use Rattle.l2_gates.specs.Gates.{Lit, Made}
use Rattle.l2_gates.specs.Models.{value, Ok, AllBelow, Sound, Gives, Makes}
use Rattle.l2_circuit_laws.specs.Values.{values, number}
use Rattle.l2_pointer_circuits.specs.Words.{selector, offset}
use Rattle.l2_pointer_circuits.specs.Shows.{pointer_at, IsSmall}
use Rattle.l2_circuit_laws.specs.Shows.{Shows}
use Rattle.l2_templates.specs.Forms.{IsNumber}
use Rattle.l2_row_circuits.specs.Rows.{wide}
use Rattle.l2_row_circuits.specs.Law.{WordsBelow}
use Rattle.l2_blast.specs.Sorts.{Sort, Truth, Part, Cell, IsTruth, AreTyped, sorts_of}
use Rattle.l2_blast.specs.Words.{Env, name, first, literal, Fill, Setting}
use Rattle.l2_blast.specs.Blasting.{clauses_of}

-- ---- what words show

-- the value that a word shows
abbrev pub shown : (ℕ → Bool) → Sort → List Lit → CellValue
shown v (Truth n) bits = bit (value v (first bits))
shown v Part bits = Number (pos (number (values v bits)))
shown v (Cell (Integer ty)) bits = Number (wrap ty (pos (number (values v bits))))
shown v (Cell Pointer) bits = pointer_at (number (values v (selector bits))) (number (values v (offset bits)))

-- the values of the names that their words show
abbrev pub solution : Env → (ℕ → Bool) → Names
solution env v n = shown v (name env n).sort (name env n).bits

-- ---- settings

-- objects are numbered from 1 and are few, and none has many cells
pub record IsSized (s : Setting) : Type 0 where
  pub small : IsSmall s.types.objects
  pub counted : (o : ℕ) → 0 < length (s.types.objects o) → o ≤ s.objects

-- what fills rows is made
pub record IsMade (fill : Fill) : Type 0 where
  pub row : (l i : ℕ) (words : List (List Lit)) (m : Made) → Sound m → WordsBelow m.next words → Makes m (fill.row l i words m)
  pub lower : (l : ℕ) (old new : List (List Lit)) (m : Made) → Sound m → WordsBelow m.next old → WordsBelow m.next new → Makes m (fill.lower l old new m)

-- ---- what rows mean

abbrev pub meaning_of : Setting → (ℕ → ℕ → List CellValue → Bool) → (ℕ → List CellValue → List CellValue → Bool) → Meaning
meaning_of s row lower = record { types = s.types; row = row; lower = lower }

-- the steps of rows and rankings hold
abbrev pub RowHolds : Meaning → Names → ℕ → Step → Type 0
RowHolds m s n (Row g l i vars) = Holds m s n (Row g l i vars)
RowHolds m s n (Lower g l old new) = Holds m s n (Lower g l old new)
RowHolds m s n x = Unit {0}

abbrev pub RowsHold : Meaning → Names → ℕ → List Step → Type 0
RowsHold m s n [] = Unit {0}
RowsHold m s n (x ∷ xs) = RowHolds m s n x × RowsHold m s (suc n) xs

-- in each model of the clauses in which variable 1 is true the words show a solution of the steps, where they show one of the rows
abbrev pub ModelsSolve : Type 0
ModelsSolve =
    (s : Setting) → IsSized s → IsMade s.fill → (xs : List Step) → InOrder 0 xs → AreTyped s.types (sorts_of xs) xs
    → (v : ℕ → Bool) → v 0 ≡ true → Ok v (clauses_of s xs).made → (row : ℕ → ℕ → List CellValue → Bool) (lower : ℕ → List CellValue → List CellValue → Bool)
    → RowsHold (meaning_of s row lower) (solution (clauses_of s xs).env v) 0 xs → Solves (meaning_of s row lower) (solution (clauses_of s xs).env v) 0 xs

-- words of 66 bits show these numbers, one each
abbrev pub WordsShow : (ℕ → Bool) → List (List Lit) → List ℤ → Type 0
WordsShow v [] [] = Unit {0}
WordsShow v [] (z ∷ zs) = ⊥
WordsShow v (w ∷ ws) [] = ⊥
WordsShow v (w ∷ ws) (z ∷ zs) = Shows v wide w z × IsNumber z × WordsShow v ws zs

-- what fills rows gives what rows mean
pub record FillMeans (v : ℕ → Bool) (fill : Fill) (m : Meaning) : Type 0 where
  pub row : (l i : ℕ) (words : List (List Lit)) (values : List ℤ) (made : Made) → WordsShow v words values → Gives v made (m.row l i (map Number values)) (fill.row l i words made)
  pub lower : (l : ℕ) (before after : List (List Lit)) (old new : List ℤ) (made : Made) → WordsShow v before old → WordsShow v after new
      → Gives v made (m.lower l (map Number old) (map Number new)) (fill.lower l before after made)

-- then the words show one of the rows
abbrev pub FillsHold : Type 0
FillsHold =
    (s : Setting) → IsSized s → IsMade s.fill → (xs : List Step) → InOrder 0 xs → AreTyped s.types (sorts_of xs) xs
    → (v : ℕ → Bool) → v 0 ≡ true → Ok v (clauses_of s xs).made → (row : ℕ → ℕ → List CellValue → Bool) (lower : ℕ → List CellValue → List CellValue → Bool)
    → FillMeans v s.fill (meaning_of s row lower) → RowsHold (meaning_of s row lower) (solution (clauses_of s xs).env v) 0 xs

-- ---- models for all choices

-- a value that a choice may have
abbrev pub IsChosen : Names → ℕ → Step → Type 0
IsChosen s n (Choose g) = (b : Bool) × (s n ≡ bit b)
IsChosen s n (Take g ty) = (z : ℤ) × (s n ≡ Number z) × IsValue ty z
IsChosen s n (Half g) = (k : ℕ) × (s n ≡ Number (pos k)) × (k < 131072)
IsChosen s n x = Unit {0}

abbrev pub AreChosen : Names → ℕ → List Step → Type 0
AreChosen s n [] = Unit {0}
AreChosen s n (x ∷ xs) = IsChosen s n x × AreChosen s (suc n) xs

-- the choices on paths that are true are these
abbrev pub IsMet : Names → Names → ℕ → Step → Type 0
IsMet choices s n (Choose g) = on s g ≡ true → s n ≡ choices n
IsMet choices s n (Take g ty) = on s g ≡ true → s n ≡ choices n
IsMet choices s n (Half g) = on s g ≡ true → s n ≡ choices n
IsMet choices s n x = Unit {0}

abbrev pub AreMet : Names → Names → ℕ → List Step → Type 0
AreMet choices s n [] = Unit {0}
AreMet choices s n (x ∷ xs) = IsMet choices s n x × AreMet choices s (suc n) xs

-- for all values of the choices some model of the clauses shows these
abbrev pub ChoicesHaveModels : Type 0
ChoicesHaveModels =
    (s : Setting) → IsSized s → IsMade s.fill → (xs : List Step) → InOrder 0 xs → AreTyped s.types (sorts_of xs) xs
    → (choices : Names) → AreChosen choices 0 xs
    → (v : ℕ → Bool) × (v 0 ≡ true) × (Ok v (clauses_of s xs).made) × (AreMet choices (solution (clauses_of s xs).env v) 0 xs)

-- the words are of variables that are there, and so are the clauses
pub record StepsAreMade (s : Setting) (xs : List Step) : Type 0 where
  pub sound : Sound (clauses_of s xs).made
  pub words : (n : ℕ) → AllBelow (clauses_of s xs).made.next (name (clauses_of s xs).env n).bits

abbrev pub BlastingMakes : Type 0
BlastingMakes = (s : Setting) → IsMade s.fill → (xs : List Step) → StepsAreMade s xs

-- the literal of a truth value among these names has its value
abbrev pub LiteralsShow : Type 0
LiteralsShow =
    (s : Setting) → IsSized s → IsMade s.fill → (xs : List Step) → InOrder 0 xs → AreTyped s.types (sorts_of xs) xs
    → (v : ℕ → Bool) → v 0 ≡ true → Ok v (clauses_of s xs).made → (a : Operand) → IsBefore (length xs) a → IsTruth (sorts_of xs) a
    → on (solution (clauses_of s xs).env v) a ≡ value v (literal (clauses_of s xs).env a)
