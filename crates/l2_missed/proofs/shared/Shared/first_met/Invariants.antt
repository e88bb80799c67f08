use Rattle.std.proofs.Common.{◌≡◌, ◌≤◌, ◌-◌}
use Rattle.l2_missed.specs.Meeting.{NoneMet}
use Rattle.l2_missed.proofs.shared.Shared.first_met.Given as goal

abbrev pub invariant-loop-i : goal.invariant-loop-i
invariant-loop-i l = (l.self ≡ l.fn.self) × (l.from ≤ l.i) × NoneMet l.fn.self l.clauses l.from l.i

abbrev pub decreases-loop-i : goal.decreases-loop-i
decreases-loop-i l = l.to - l.i
