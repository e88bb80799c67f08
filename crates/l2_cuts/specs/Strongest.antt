-- The strongest point of a domain that infers; and what runs come to where the rows of the last end aren't asked.
use Rattle.std.specs.Prelude.{◌≡◌, ℕ, ◌+◌, ◌==◌, Bool, true, false, if◌then◌else◌, ℤ, List, [], ◌∷◌, ◌++◌, length, map, Option, Some, None}
use Rattle.std.specs.List.{Contains}
use Rattle.l2_runs.specs.declared.member.Member.{Member}
use Rattle.l2_runs.specs.Numbers.{at_number}
use Rattle.l2_runs.specs.Store.{Store}
use Rattle.l2_runs.specs.Runs.{Fallen}
use Rattle.l2_runs.specs.Loops.{Test, Tests}
use Rattle.l2_program.specs.declared.program.LoopInfo.{LoopInfo}
use Rattle.l2_program.specs.Programs.{ProgramTree}
use Rattle.l2_templates.specs.declared.form.Row.{Row}
use Rattle.l2_templates.specs.declared.families.Family.{Family}
use Rattle.l2_templates.specs.declared.point.LoopPoint.{LoopPoint}
use Rattle.l2_templates.specs.declared.point.LoopPoint.TheVariants.{Bottom, Rows}
use Rattle.l2_templates.specs.Domains.{row_list}
use Rattle.l2_templates.specs.Points.{IsStronger}
use Rattle.l2_templates.specs.Forms.{row_holds}
use Rattle.l2_cuts.specs.Points.{values_of}
use Rattle.l2_cuts.specs.Cuts.{rows_at, cut_end, Infers}

-- ---- points of a domain

-- a row has no bound or one of these
abbrev pub IsBoundOf : List ℤ → Option ℤ → Type 0
IsBoundOf bounds None = Unit {0}
IsBoundOf bounds (Some b) = Contains bounds b

abbrev pub HaveBounds : List ℤ → List Row → Type 0
HaveBounds bounds [] = Unit {0}
HaveBounds bounds (row ∷ rows) = IsBoundOf bounds row.bound × HaveBounds bounds rows

-- of a loop: Bottom, or the rows that the family gives it, with such bounds
abbrev pub IsLoopPointOf : Family → List ℤ → LoopInfo → LoopPoint → Type 0
IsLoopPointOf family bounds loop Bottom = Unit {0}
IsLoopPointOf family bounds loop (Rows rows) = (map (λ row. row.form) rows ≡ row_list family loop.vars loop.mods) × HaveBounds bounds rows

abbrev pub AreLoopPointsOf : Family → List ℤ → List LoopInfo → List LoopPoint → Type 0
AreLoopPointsOf family bounds [] [] = Unit {0}
AreLoopPointsOf family bounds [] (q ∷ qs) = ⊥
AreLoopPointsOf family bounds (loop ∷ loops) [] = ⊥
AreLoopPointsOf family bounds (loop ∷ loops) (q ∷ qs) = IsLoopPointOf family bounds loop q × AreLoopPointsOf family bounds loops qs

abbrev pub IsPointOf : ProgramTree → Family → List ℤ → List LoopPoint → Type 0
IsPointOf p family bounds q = AreLoopPointsOf family bounds p.loops q

-- it infers, and is at least as strong as each other one of the domain that infers
pub record IsStrongest (p : ProgramTree) (sets : ℕ → Member → Bool) (k : ℕ) (family : Family) (bounds : List ℤ) (q : List LoopPoint) : Type 0 where
  pub point : IsPointOf p family bounds q
  pub infers : Infers p sets k q
  pub strongest : (other : List LoopPoint) → IsPointOf p family bounds other → Infers p sets k other → IsStronger q other

-- ---- ends of turns

-- one more test before the rows of a loop, where the end of a turn counts
abbrev pub asked_first : List LoopPoint → ℕ → (Store → Bool) → ℕ → List Test
asked_first q l passes m = if m == l then record { row = length (rows_at q m) + 1; holds = λ old new. passes new } ∷ [] else []

abbrev pub before_rows : List LoopPoint → ℕ → (Store → Bool) → Tests
before_rows q l passes true m = asked_first q l passes m ++ rows_at q m
before_rows q l passes false m = rows_at q m

-- some cut run comes to the end of a turn of the loop, one that counts, where this doesn't hold; the rows of this end aren't asked
abbrev pub Reaches : ProgramTree → (ℕ → Member → Bool) → ℕ → List LoopPoint → ℕ → (Store → Bool) → Type 0
Reaches p sets k q l passes = (choices : List ℤ) × (cut_end p sets k q (before_rows q l passes) choices ≡ Fallen l (length (rows_at q l) + 1))

-- ---- rows

abbrev pub passes_row : Option Row → Store → Bool
passes_row None store = false
passes_row (Some row) store = row_holds row (values_of store)

-- whether the row of this number holds; at Bottom none does
abbrev pub row_passes : LoopPoint → ℕ → Store → Bool
row_passes Bottom row store = false
row_passes (Rows rows) row store = passes_row (at_number rows row) store
