use Rattle.std.proofs.Common.{◌≡◌, ◌++◌, drop}
use Rattle.l2_program.specs.Programs.{program_tree}
use Rattle.l2_show.specs.Loops.{spaced}
use Rattle.l2_show.proofs.printing.push_spaced.Given as goal

abbrev pub invariant-loop-i : goal.invariant-loop-i
invariant-loop-i l = l.out.items ++ spaced (program_tree l.program) (drop l.i l.numbers) ≡ l.initial.out.items ++ spaced (program_tree l.program) l.numbers
