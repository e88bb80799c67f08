use Rattle.std.proofs.Common.{◌≡◌, ◌++◌, drop}
use Rattle.l2_program.specs.Programs.{program_tree}
use Rattle.l2_verdict_text.specs.Texts.{rows_text}
use Rattle.l2_verdict_text.proofs.points.push_rows.Given as goal

abbrev pub invariant-loop-i : goal.invariant-loop-i
invariant-loop-i l = l.out.items ++ rows_text (program_tree l.program) l.number (drop l.i l.rows) ≡ l.initial.out.items ++ rows_text (program_tree l.program) l.number l.rows
