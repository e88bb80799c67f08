use Rattle.l2_inclusions.specs.Valuation.{AreDue}
use Rattle.l2_inclusions.proofs.build.build.Given as goal

abbrev pub invariant-loop-i : goal.invariant-loop-i
invariant-loop-i l = AreDue l.inclusions l.rows l.graph

abbrev pub invariant-loop-n : goal.invariant-loop-n
invariant-loop-n l = AreDue l.inclusions l.rows l.graph
