use Rattle.std.proofs.Common.{◌≡◌, ◌++◌, filter, take}
use Rattle.l2_meaning.specs.Changes.{is_variable}
use Rattle.l2_mods.specs.Walks.{cells_in, statics_in}
use Rattle.l2_mods.proofs.walk.variables.Given as goal

abbrev pub invariant-loop-n : goal.invariant-loop-n
invariant-loop-n l = l.out.items ≡ l.initial.out.items ++ filter (is_variable (cells_in l.objects) (statics_in l.objects) l.scope) (take l.n-index l.among)
