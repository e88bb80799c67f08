-- The same of equations whose clauses stand behind others, and of rows that are filled with variables of their own.
use Rattle.std.specs.Prelude.{◌≡◌, ℕ, suc, ◌≤◌, Bool, true, false, ℤ, List, [], ◌∷◌, length, map}
use Rattle.l2_runs.specs.declared.cells.CellValue.{CellValue}
use Rattle.l2_runs.specs.declared.cells.CellValue.TheVariants.{Number}
use Rattle.l2_code.specs.declared.action.Operand.{Operand}
use Rattle.l2_code.specs.Values.{Types}
use Rattle.l2_ssa.specs.Steps.{IsBefore, AreBefore, Step, Row, Lower, Names, on, bit, values_of, Meaning, Solves, InOrder}
use Rattle.l2_gates.specs.Gates.{F, same, Made, fresh}
use Rattle.l2_gates.specs.Models.{value, Ok, AllBelow, Sound, Agree, Extends}
use Rattle.l2_blast.specs.Sorts.{IsTruth, AreNumbers, AreTyped, sorts_of}
use Rattle.l2_blast.specs.Words.{Env, name, literal, wide_words, Fill, Setting}
use Rattle.l2_blast.specs.Blasting.{Blasted, blast}
use Rattle.l2_blast_laws.specs.Law.{solution, IsSized, IsMade, meaning_of, RowsHold, WordsShow, FillMeans, AreChosen, AreMet}

-- the clauses of equations behind those that there are
abbrev pub behind : Setting → List Step → Made → Blasted
behind s xs m = blast s xs [] m

-- as `ModelsSolve`
abbrev pub ModelsSolveBehind : Type 0
ModelsSolveBehind =
    (s : Setting) → IsSized s → IsMade s.fill → (m : Made) → Sound m → (xs : List Step) → InOrder 0 xs → AreTyped s.types (sorts_of xs) xs
    → (v : ℕ → Bool) → v 0 ≡ true → Ok v (behind s xs m).made → (row : ℕ → ℕ → List CellValue → Bool) (lower : ℕ → List CellValue → List CellValue → Bool)
    → RowsHold (meaning_of s row lower) (solution (behind s xs m).env v) 0 xs → Solves (meaning_of s row lower) (solution (behind s xs m).env v) 0 xs

-- as `FillsHold`
abbrev pub FillsHoldBehind : Type 0
FillsHoldBehind =
    (s : Setting) → IsSized s → IsMade s.fill → (m : Made) → Sound m → (xs : List Step) → InOrder 0 xs → AreTyped s.types (sorts_of xs) xs
    → (v : ℕ → Bool) → v 0 ≡ true → Ok v (behind s xs m).made → (row : ℕ → ℕ → List CellValue → Bool) (lower : ℕ → List CellValue → List CellValue → Bool)
    → FillMeans v s.fill (meaning_of s row lower) → RowsHold (meaning_of s row lower) (solution (behind s xs m).env v) 0 xs

-- as `LiteralsShow`
abbrev pub LiteralsShowBehind : Type 0
LiteralsShowBehind =
    (s : Setting) → IsSized s → IsMade s.fill → (m : Made) → Sound m → (xs : List Step) → InOrder 0 xs → AreTyped s.types (sorts_of xs) xs
    → (v : ℕ → Bool) → v 0 ≡ true → Ok v (behind s xs m).made → (a : Operand) → IsBefore (length xs) a → IsTruth (sorts_of xs) a
    → on (solution (behind s xs m).env v) a ≡ value v (literal (behind s xs m).env a)

-- the words of numbers show the values of the operands
abbrev pub NumbersShowBehind : Type 0
NumbersShowBehind =
    (s : Setting) → IsSized s → IsMade s.fill → (m : Made) → Sound m → (xs : List Step) → InOrder 0 xs → AreTyped s.types (sorts_of xs) xs
    → (v : ℕ → Bool) → v 0 ≡ true → Ok v (behind s xs m).made → (vars : List Operand) → AreBefore (length xs) vars → AreNumbers (sorts_of xs) vars
    → (numbers : List ℤ) × (values_of (solution (behind s xs m).env v) vars ≡ map Number numbers) × WordsShow v (wide_words (behind s xs m).env vars) numbers

-- what was made before stays, and each of its models goes on; words are of variables that are there
pub record StandsBehind (s : Setting) (xs : List Step) (m : Made) : Type 0 where
  pub extends : Extends m (behind s xs m).made
  pub words : (n : ℕ) → AllBelow (behind s xs m).made.next (name (behind s xs m).env n).bits

abbrev pub BlastingMakesBehind : Type 0
BlastingMakesBehind = (s : Setting) → IsMade s.fill → (m : Made) → Sound m → (xs : List Step) → StandsBehind s xs m

-- names show the same in assignments that agree on the variables that are there
abbrev pub AgreedShowSame : Type 0
AgreedShowSame = (env : Env) (n : ℕ) → 1 ≤ n → ((i : ℕ) → AllBelow n (name env i).bits) → (v u : ℕ → Bool) → Agree n v u → solution env u ≡ solution env v

-- for all values of the choices each model of what was made before goes on to one that shows these
abbrev pub ChoicesHaveModelsBehind : Type 0
ChoicesHaveModelsBehind =
    (s : Setting) → IsSized s → IsMade s.fill → (m : Made) → Sound m → (xs : List Step) → InOrder 0 xs → AreTyped s.types (sorts_of xs) xs
    → (u : ℕ → Bool) → u 0 ≡ true → Ok u m → (choices : Names) → AreChosen choices 0 xs
    → (v : ℕ → Bool) × Agree m.next u v × (Ok v (behind s xs m).made) × (AreMet choices (solution (behind s xs m).env v) 0 xs)

-- ---- rows that are open

-- each row and ranking is a new variable, of which no clause speaks
abbrev pub open_fill : Fill
open_fill = record { row = λ l i words m. fresh m; lower = λ l old new m. fresh m }

abbrev pub open_setting : Types → ℕ → Setting
open_setting types objects = record { types = types; objects = objects; fill = open_fill }

-- where the path of a row or a ranking isn't F, its variable is as this says of the values, whether or not the path is true
abbrev pub IsAsSaid : Meaning → Env → Names → ℕ → Step → Type 0
IsAsSaid m env s n (Row g l i vars) = same (literal env g) F ≡ false → s n ≡ bit (m.row l i (values_of s vars))
IsAsSaid m env s n (Lower g l old new) = same (literal env g) F ≡ false → s n ≡ bit (m.lower l (values_of s old) (values_of s new))
IsAsSaid m env s n x = Unit {0}

abbrev pub AreAsSaid : Meaning → Env → Names → ℕ → List Step → Type 0
AreAsSaid m env s n [] = Unit {0}
AreAsSaid m env s n (x ∷ xs) = IsAsSaid m env s n x × AreAsSaid m env s (suc n) xs

abbrev pub OpenIsMade : Type 0
OpenIsMade = IsMade open_fill

-- for all values of the choices, and whatever rows and rankings say, each model of what was made before goes on to one that shows these
-- choices and in which the variables of rows and rankings are as they say
abbrev pub OpenRowsHaveModels : Type 0
OpenRowsHaveModels =
    (types : Types) (objects : ℕ) → IsSized (open_setting types objects) → (m : Made) → Sound m → (xs : List Step) → InOrder 0 xs → AreTyped types (sorts_of xs) xs
    → (u : ℕ → Bool) → u 0 ≡ true → Ok u m → (choices : Names) → AreChosen choices 0 xs
    → (row : ℕ → ℕ → List CellValue → Bool) (lower : ℕ → List CellValue → List CellValue → Bool)
    → (v : ℕ → Bool) × Agree m.next u v × (Ok v (behind (open_setting types objects) xs m).made)
    × (AreMet choices (solution (behind (open_setting types objects) xs m).env v) 0 xs)
    × (AreAsSaid (meaning_of (open_setting types objects) row lower) (behind (open_setting types objects) xs m).env (solution (behind (open_setting types objects) xs m).env v) 0 xs)

-- where they are as rows say, the equations of rows hold
abbrev pub SaidRowsHold : Type 0
SaidRowsHold =
    (s : Setting) → IsSized s → IsMade s.fill → (m : Made) → Sound m → (xs : List Step) → InOrder 0 xs → AreTyped s.types (sorts_of xs) xs
    → (v : ℕ → Bool) → v 0 ≡ true → Ok v (behind s xs m).made → (row : ℕ → ℕ → List CellValue → Bool) (lower : ℕ → List CellValue → List CellValue → Bool)
    → AreAsSaid (meaning_of s row lower) (behind s xs m).env (solution (behind s xs m).env v) 0 xs
    → RowsHold (meaning_of s row lower) (solution (behind s xs m).env v) 0 xs
