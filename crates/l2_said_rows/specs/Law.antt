-- In each model these literals are true exactly where the variables of rows are what is said of them.
use Rattle.std.specs.Prelude.{◌≡◌, ℕ, Bool, true, List, [], ◌∷◌}
use Rattle.l2_runs.specs.declared.cells.CellValue.{CellValue}
use Rattle.l2_ssa.specs.Steps.{Step, InOrder}
use Rattle.l2_gates.specs.Gates.{Lit, Made}
use Rattle.l2_gates.specs.Models.{value, Ok, AllBelow, Sound, Extends}
use Rattle.l2_blast.specs.Sorts.{sorts_of, AreTyped}
use Rattle.l2_blast.specs.Words.{Env, Fill, Setting}
use Rattle.l2_blast_laws.specs.Law.{solution, IsSized, IsMade, meaning_of, FillMeans}
use Rattle.l2_blast_laws.specs.Behind.{behind, AreAsSaid}
use Rattle.l2_said_rows.specs.Saying.{Literals, say_rows}

abbrev pub AllTrue : (ℕ → Bool) → List Lit → Type 0
AllTrue v [] = Unit {0}
AllTrue v (l ∷ ls) = (value v l ≡ true) × AllTrue v ls

-- of the equations from name n on, behind these clauses
pub record Says (s : Setting) (row : ℕ → ℕ → List CellValue → Bool) (lower : ℕ → List CellValue → List CellValue → Bool) (env : Env) (n : ℕ) (xs : List Step) (m : Made) (r : Literals) : Type 0 where
  pub extends : Extends m r.made
  pub below : AllBelow r.made.next r.literals
  pub only : (v : ℕ → Bool) → v 0 ≡ true → Ok v r.made → AllTrue v r.literals → AreAsSaid (meaning_of s row lower) env (solution env v) n xs
  pub all : (v : ℕ → Bool) → v 0 ≡ true → Ok v r.made → AreAsSaid (meaning_of s row lower) env (solution env v) n xs → AllTrue v r.literals

-- whatever came between
abbrev pub SaidRows : Type 0
SaidRows =
    (s : Setting) → IsSized s → IsMade s.fill → (before : Made) → Sound before → (xs : List Step) → InOrder 0 xs → AreTyped s.types (sorts_of xs) xs
    → (fill : Fill) → IsMade fill → (row : ℕ → ℕ → List CellValue → Bool) (lower : ℕ → List CellValue → List CellValue → Bool) → ((v : ℕ → Bool) → v 0 ≡ true → FillMeans v fill (meaning_of s row lower))
    → (m : Made) → Extends (behind s xs before).made m → Says s row lower (behind s xs before).env 0 xs m (say_rows fill (behind s xs before).env 0 xs m)
