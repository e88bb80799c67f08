use Rattle.std.proofs.Common.{◌≡◌}
use Rattle.l2_missed.proofs.Asking.{NoLiteral}
use Rattle.l2_missed.proofs.shared.Shared.model_with.Given as goal

abbrev pub invariant-loop-literal : goal.invariant-loop-literal
invariant-loop-literal l = (l.self ≡ l.fn.self) × NoLiteral l.fn.self l.clause l.literal-index
