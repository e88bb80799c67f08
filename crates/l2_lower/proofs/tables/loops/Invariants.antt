use Rattle.std.proofs.Common.{◌≡◌, ◌++◌, drop, map}
use Rattle.l2_lower.specs.Code.{code_loop}
use Rattle.l2_lower.proofs.tables.loops.Given as goal

abbrev pub invariant-loop-l : goal.invariant-loop-l
invariant-loop-l l = l.loops.items ++ map code_loop (drop l.l-index l.all) ≡ map code_loop l.initial.all
