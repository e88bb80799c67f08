-- Rows behind others.
use Rattle.std.specs.Prelude.{List, ◌++◌}
use Rattle.l2_templates.specs.declared.form.Row.{Row}
use Rattle.l2_templates.specs.declared.point.LoopPoint.{LoopPoint}
use Rattle.l2_templates.specs.declared.point.LoopPoint.TheVariants.{Bottom, Rows}

-- a loop's rows behind these; at Bottom there are none
abbrev pub behind : List Row → LoopPoint → LoopPoint
behind first Bottom = Bottom
behind first (Rows rows) = Rows (first ++ rows)
