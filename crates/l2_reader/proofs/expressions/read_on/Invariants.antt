use Rattle.std.proofs.Common.{◌≡◌, ◌≤◌}
use Rattle.l2_reader.specs.Readings.{Steady, count_of}
use Rattle.l2_reader.specs.Turns.{express_from, seen_from}
use Rattle.l2_reader.proofs.expressions.read_on.Given as goal

abbrev pub invariant-loop-next : goal.invariant-loop-next
invariant-loop-next l = (express_from l.fn.progress (seen_from l.fn.at l.tokens) ≡ express_from l.progress (seen_from l.next l.tokens)) × Steady l.progress × (count_of l.progress ≤ l.next)
