-- What a question for a row that some run fails answers.
use Rattle.std.specs.Prelude.{◌≡◌, ⊤, ℕ, ℤ, ◌≤◌, ◌≤ℤ◌, List, length, Some}
use Rattle.l2_runs.specs.Numbers.{at_number}
use Rattle.l2_templates.specs.declared.form.Row.{Row}
use Rattle.l2_templates.specs.declared.point.LoopPoint.{LoopPoint}
use Rattle.l2_templates.specs.declared.point.LoopPoint.TheVariants.{Bottom, Rows}
use Rattle.l2_cuts.specs.Points.{point_at}

-- the row of this number has this bound; at Bottom each number is bounded by everything
abbrev pub IsBounded : LoopPoint → ℕ → ℤ → Type 0
IsBounded Bottom row bound = ⊤
IsBounded (Rows rows) row bound = (r : Row) × (at_number rows row ≡ Some r) × (r.bound ≡ Some bound)

-- a row of the point that a run fails, by what runs exceed: 0 where it is Bottom that they fail
abbrev pub IsFailedAt : (ℕ → ℤ → Type 0) → LoopPoint → ℕ → Type 0
IsFailedAt Exceeds Bottom row = (row ≡ 0) × ((above : ℤ) → Exceeds 0 above)
IsFailedAt Exceeds (Rows rows) row = (bound : ℤ) × IsBounded (Rows rows) row bound × Exceeds row bound

pub record IsFailed (Exceeds : ℕ → ℕ → ℤ → Type 0) (q : List LoopPoint) (l row : ℕ) : Type 0 where
  pub some : 1 ≤ l
  pub within : l ≤ length q
  pub fails : IsFailedAt (Exceeds l) (point_at q l) row

-- the loop has this row, with a bound that is at most this
pub record IsAskable (q : List LoopPoint) (l row : ℕ) (above : ℤ) : Type 0 where
  pub some : 1 ≤ l
  pub within : l ≤ length q
  pub least : (bound : ℤ) × IsBounded (point_at q l) row bound × (bound ≤ℤ above)
