-- A point on the code of a program.
use Rattle.std.specs.Prelude.{◌≡◌, ℕ, ◌<◌, Bool, true, List, length}
use Rattle.l2_runs.specs.declared.member.Member.{Member}
use Rattle.l2_runs.specs.declared.member.Member.TheVariants.{Object}
use Rattle.l2_runs.specs.Fits.{Layout}
use Rattle.l2_runs.specs.Loops.{Limit}
use Rattle.l2_templates.specs.declared.point.LoopPoint.{LoopPoint}
use Rattle.l2_cuts.specs.Points.{starts}
use Rattle.l2_code.specs.Trees.{CodeTree}
use Rattle.l2_code.specs.Sets.{Family}
use Rattle.l2_code.specs.Modes.{Cut, limit_of}

-- k copies of a turn behind an entry or a back start, where the point's rows hold
abbrev pub point_limit : CodeTree → Family → ℕ → List LoopPoint → Limit
point_limit c f k q = limit_of c f (Cut k (starts q))

-- the sets of the objects name objects that have a cell
abbrev pub NameCells : Layout → (ℕ → Member → Bool) → Type 0
NameCells cells sets = (n o : ℕ) → sets n (Object o) ≡ true → 0 < length (cells o)
