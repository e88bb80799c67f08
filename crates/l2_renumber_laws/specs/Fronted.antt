-- The rows of a loop with one more in front of them.
use Rattle.std.specs.Prelude.{ℕ, zero, suc, Bool, true, false, List, [], ◌∷◌, ◌++◌, map}
use Rattle.l2_runs.specs.Store.{Store}
use Rattle.l2_runs.specs.Loops.{Test, numbered}
use Rattle.l2_templates.specs.declared.form.Row.{Row}
use Rattle.l2_templates.specs.declared.point.LoopPoint.{LoopPoint}
use Rattle.l2_templates.specs.declared.point.LoopPoint.TheVariants.{Bottom, Rows}
use Rattle.l2_cuts.specs.Points.{row_test}

abbrev pub has_rows : LoopPoint → Bool
has_rows Bottom = false
has_rows (Rows rows) = true

abbrev pub its_rows : LoopPoint → List Row
its_rows Bottom = []
its_rows (Rows rows) = rows

-- so many tests that always hold
abbrev pub always : ℕ → List (Store → Store → Bool)
always zero = []
always (suc n) = (λ a b. true) ∷ always n

-- that the loop isn't at Bottom, then its rows, and then so many that always hold
abbrev pub fronted : LoopPoint → ℕ → List Test
fronted q more = numbered 1 ((λ a b. has_rows q) ∷ (map row_test (its_rows q) ++ always more))
