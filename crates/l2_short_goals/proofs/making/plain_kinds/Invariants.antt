use Rattle.std.proofs.Common.{◌≡◌, ◌++◌, drop, map}
use Rattle.l2_code.specs.declared.code.CodeLoop.{CodeLoop}
use Rattle.l2_ssa.specs.declared.goal.Kind.TheVariants.{Plain}
use Rattle.l2_short_goals.proofs.making.plain_kinds.Given as goal

abbrev pub invariant-loop-each : goal.invariant-loop-each
invariant-loop-each l = l.kinds.items ++ map (λ (x : CodeLoop). Plain) (drop l._each-index l.loops) ≡ map (λ (x : CodeLoop). Plain) l.loops
