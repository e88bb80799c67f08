use Rattle.std.proofs.Common.{◌≡◌, ◌++◌, drop, map}
use Rattle.l2_gates.specs.Gates.{literals_of}
use Rattle.l2_blast.specs.Words.{literal}
use Rattle.l2_short_goals.proofs.taking.literals.Given as goal

abbrev pub invariant-loop-operand : goal.invariant-loop-operand
invariant-loop-operand l = literals_of l.all.items ++ map (literal l.words) (drop l.operand-index l.operands) ≡ map (literal l.words) l.operands
