use Rattle.std.proofs.Common.{◌≢◌, ℕ, ◌<◌, get_or}
use Rattle.std.specs.Prelude.{pos, neg_ℤ, Contains}
use Rattle.l2_watch.proofs.looks.other_live.Given as goal

abbrev pub invariant-loop-literal : goal.invariant-loop-literal
invariant-loop-literal l = (k : ℕ) → k < l.literal-index → get_or l.clause k (pos 0) ≢ l.other → Contains l.history.literals (neg_ℤ (get_or l.clause k (pos 0)))
