use Rattle.std.proofs.Common.{◌≡◌, ◌+◌, ◌++◌, drop}
use Rattle.l2_program.specs.Programs.{program_tree}
use Rattle.l2_verdict_text.specs.Texts.{ranks_text}
use Rattle.l2_verdict_text.proofs.points.push_ranks.Given as goal

abbrev pub invariant-loop-i : goal.invariant-loop-i
invariant-loop-i l = l.out.items ++ ranks_text (program_tree l.program) (l.i + 1) (drop l.i l.ranks) ≡ l.initial.out.items ++ ranks_text (program_tree l.program) 1 l.ranks
