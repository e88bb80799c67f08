use Rattle.l2_inclusions.specs.Edges.{GoesAlong}
use Rattle.l2_inclusions.proofs.settle.settle.Given as goal

abbrev pub invariant-loop-i : goal.invariant-loop-i
invariant-loop-i l = GoesAlong l.graph l.initial.rows l.rows
