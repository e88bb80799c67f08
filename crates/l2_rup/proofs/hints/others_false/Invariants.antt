use Rattle.std.proofs.Common.{◌≢◌, ℕ, ◌<◌, get_or}
use Rattle.std.specs.Prelude.{pos, neg_ℤ, Contains}
use Rattle.l2_rup.proofs.hints.others_false.Given as goal

abbrev pub invariant-loop-other : goal.invariant-loop-other
invariant-loop-other l = (k : ℕ) → k < l.other-index → get_or l.clause k (pos 0) ≢ l.literal → Contains l.trail.literals (neg_ℤ (get_or l.clause k (pos 0)))
