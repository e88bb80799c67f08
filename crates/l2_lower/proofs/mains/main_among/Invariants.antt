use Rattle.std.proofs.Common.{◌≡◌, map, drop}
use Rattle.l2_program.specs.Programs.{function_tree}
use Rattle.l2_meaning.specs.Execution.{main_among}
use Rattle.l2_lower.proofs.mains.main_among.Given as goal

abbrev pub invariant-loop-f : goal.invariant-loop-f
invariant-loop-f l = main_among l.names (map function_tree (drop l.f-index l.functions)) ≡ main_among l.initial.names (map function_tree l.initial.functions)
