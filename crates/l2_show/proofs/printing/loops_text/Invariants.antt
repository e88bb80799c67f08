use Rattle.std.proofs.Common.{◌≡◌, ◌+◌, ◌++◌, drop}
use Rattle.l2_program.specs.Programs.{program_tree}
use Rattle.l2_show.specs.Loops.{loop_lines, loops_text}
use Rattle.l2_show.proofs.printing.loops_text.Given as goal

abbrev pub invariant-loop-i : goal.invariant-loop-i
invariant-loop-i l = l.out.items ++ loop_lines (program_tree l.program) (l.i + 1) (drop l.i l.loops) ≡ loops_text (program_tree l.program)
