use Rattle.std.proofs.Common.{◌≡◌, ◌+◌, drop}
use Rattle.l2_gates.specs.Gates.{literals_of}
use Rattle.l2_short_goals.specs.Taken.{values_of, count_true}
use Rattle.l2_short_goals.proofs.finding.count_true.Given as goal

abbrev pub invariant-loop-literal : goal.invariant-loop-literal
invariant-loop-literal l = l.count + count_true (values_of l.a) (literals_of (drop l.literal-index l.literals)) ≡ count_true (values_of l.a) (literals_of l.literals)
