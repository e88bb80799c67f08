-- The code of a lawful program is direct, and so is direct code with one label at each place.
use Rattle.l2_program.specs.Programs.{ProgramTree}
use Rattle.l2_meaning.specs.Lawful.{IsLawful}
use Rattle.l2_runs.specs.Fits.{Layout}
use Rattle.l2_code.specs.Trees.{CodeTree}
use Rattle.l2_code.specs.Modes.{types_of}
use Rattle.l2_lower.specs.Code.{code}
use Rattle.l2_labels.specs.Labels.{one_label}
use Rattle.l2_typed_steps.specs.Direct.{AreDirect}

abbrev pub CodeIsDirect : Type 0
CodeIsDirect = (p : ProgramTree) → IsLawful p → AreDirect (types_of (code p)).objects (code p).body

-- code with one label at each place is direct where the code is
abbrev pub StaysDirect : Type 0
StaysDirect = (cells : Layout) (c : CodeTree) → AreDirect cells c.body → AreDirect cells (one_label c).body
