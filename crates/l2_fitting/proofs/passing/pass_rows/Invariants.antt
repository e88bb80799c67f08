use Rattle.std.proofs.Common.{◌≡◌, drop, None}
use Rattle.l2_program.specs.Programs.{program_tree}
use Rattle.l2_fitting.specs.Said.{rows_said}
use Rattle.l2_fitting.specs.Passing.{pass}
use Rattle.l2_fitting.proofs.passing.pass_rows.Given as goal

abbrev pub invariant-loop-row : goal.invariant-loop-row
invariant-loop-row l = pass (program_tree l.program) l.initial.line (rows_said l.number None l.rows) ≡ pass (program_tree l.program) l.line (rows_said l.number l.before (drop l.row-index l.rows))
