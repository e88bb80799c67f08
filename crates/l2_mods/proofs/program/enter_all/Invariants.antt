use Rattle.std.proofs.Common.{◌≡◌, ◌++◌, take}
use Rattle.l2_mods.proofs.program.enter_all.Given as goal

abbrev pub invariant-loop-n : goal.invariant-loop-n
invariant-loop-n l = l.walk ≡ record l.initial.walk { scope = l.initial.walk.scope ++ take l.n-index l.all }
