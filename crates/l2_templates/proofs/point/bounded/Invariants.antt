use Rattle.std.proofs.Common.{◌≡◌}
use Rattle.l2_templates.specs.Points.{bounded_loop}
use Rattle.l2_templates.proofs.Holding.{changed}
use Rattle.l2_templates.proofs.point.bounded.Given as goal

abbrev pub invariant-loop-at : goal.invariant-loop-at
invariant-loop-at l = l.at-items ≡ changed bounded_loop l.at-index l.initial.at-items
