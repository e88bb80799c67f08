use Rattle.l2_inclusions.specs.Closing.{AreForced}
use Rattle.l2_inclusions.proofs.solve.least.Given as goal

abbrev pub invariant-loop-i : goal.invariant-loop-i
invariant-loop-i l = AreForced l.inclusions l.rows

abbrev pub invariant-loop : goal.invariant-loop
invariant-loop l = AreForced l.inclusions l.rows
