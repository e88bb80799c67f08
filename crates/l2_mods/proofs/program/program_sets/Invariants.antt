use Rattle.std.proofs.Common.{◌≡◌, ◌++◌, [], drop, map}
use Rattle.l2_program.specs.Programs.{function_tree}
use Rattle.l2_mods.specs.Walks.{sets_of_functions}
use Rattle.l2_mods.proofs.program.program_sets.Given as goal

abbrev pub invariant-loop-f : goal.invariant-loop-f
invariant-loop-f l = (l.walk.scope ≡ []) × (l.walk.sets ++ sets_of_functions l.objects (map function_tree (drop l.f-index l.functions)) ≡ sets_of_functions l.objects (map function_tree l.functions))
