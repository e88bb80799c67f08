-- Questions about the cut runs of points, and what each asks for.
use Rattle.std.specs.Prelude.{◌≡◌, ℕ, ◌≤ℤ◌, ℤ, Bool, List, Option, None, Some, ◌⊎◌}
use Rattle.l2_runs.specs.declared.member.Member.{Member}
use Rattle.l2_runs.specs.declared.outcome.Outcome.TheVariants.{Broken}
use Rattle.l2_runs.specs.Numbers.{at_number}
use Rattle.l2_runs.specs.Runs.{Over, Fallen}
use Rattle.l2_program.specs.Programs.{ProgramTree}
use Rattle.l2_templates.specs.declared.form.Row as rust
use Rattle.l2_templates.specs.declared.point.LoopPoint.{LoopPoint}
use Rattle.l2_templates.specs.declared.point.LoopPoint.TheVariants.{Bottom, Rows}
use Rattle.l2_cuts.specs.Points.{point_at}
use Rattle.l2_cuts.specs.Cuts.{row_end}
use Rattle.l2_row_laws.specs.Exceeding.{Exceeds}
use Rattle.l2_front_laws.specs.Front.{with_raised}

pub data Question : Type 0 where
  -- a run comes to the end of a counted turn of this loop, where the value of the row of this number exceeds this; with number 0 it
  -- comes there
  Row : List LoopPoint → ℕ → ℕ → ℤ → Question
  -- a run fails a row, or comes to the end of a turn of a loop at Bottom
  Any : List LoopPoint → Question
  -- the same, or it breaks a check
  Break : List LoopPoint → Question

-- the run that is asked for exists
abbrev pub Asks : ProgramTree → (ℕ → Member → Bool) → ℕ → Question → Type 0
Asks p sets k (Row q at row above) = Exceeds p sets k q at row above
Asks p sets k (Any q) = (choices : List ℤ) × (l : ℕ) × (i : ℕ) × (row_end p sets k q choices ≡ Fallen l i)
Asks p sets k (Break q) = (choices : List ℤ) × (((l : ℕ) × (i : ℕ) × (row_end p sets k q choices ≡ Fallen l i)) ⊎ ((n : ℕ) × (row_end p sets k q choices ≡ Over (Broken n))))

-- ---- how it is asked

-- a row with a bound that is at most the number; at Bottom the number of the row is 0
abbrev pub IsPutAt : LoopPoint → ℕ → ℤ → Type 0
IsPutAt Bottom row above = row ≡ 0
IsPutAt (Rows rows) row above = (r : rust.Row) × (bound : ℤ) × (at_number rows row ≡ Some r) × (r.bound ≡ Some bound) × (bound ≤ℤ above)

abbrev pub IsPut : Question → Type 0
IsPut (Row q at row above) = IsPutAt (point_at q at) row above
IsPut (Any q) = Unit {0}
IsPut (Break q) = Unit {0}

abbrev pub raised : List LoopPoint → ℕ → ℤ → Option rust.Row → List LoopPoint
raised q at above None = q
raised q at above (Some r) = with_raised q at r above

abbrev pub asked_row : LoopPoint → ℕ → Option rust.Row
asked_row Bottom row = None
asked_row (Rows rows) row = at_number rows row

-- the point whose runs are looked at: for a row the one with this row in front once more, bounded by the number
abbrev pub asked_point : Question → List LoopPoint
asked_point (Row q at row above) = raised q at above (asked_row (point_at q at) row)
asked_point (Any q) = q
asked_point (Break q) = q
