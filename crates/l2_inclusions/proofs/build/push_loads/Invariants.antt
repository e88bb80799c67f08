use Rattle.l2_inclusions.specs.Valuation.{AddsDue}
use Rattle.l2_inclusions.proofs.build.push_loads.Given as goal

abbrev pub invariant-loop-member : goal.invariant-loop-member
invariant-loop-member l = AddsDue l.rows l.initial.graph l.graph
