use Rattle.std.proofs.Common.{◌≡◌, Some, drop}
use Rattle.l2_tree.specs.Build.{some_or}
use Rattle.l2_tree_names.specs.Declarators.{last_pointer}
use Rattle.l2_tree_names.proofs.declarators.last_pointer.Given as goal

abbrev pub invariant-loop-pointer : goal.invariant-loop-pointer
invariant-loop-pointer l = some_or (last_pointer (drop l.pointer-index l.pointers)) (λ q. Some q) l.last ≡ last_pointer l.initial.pointers
