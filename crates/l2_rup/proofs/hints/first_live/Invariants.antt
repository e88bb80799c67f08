use Rattle.std.proofs.Common.{ℕ, ◌<◌, get_or}
use Rattle.std.specs.Prelude.{pos, neg_ℤ, Contains}
use Rattle.l2_rup.proofs.hints.first_live.Given as goal

abbrev pub invariant-loop-i : goal.invariant-loop-i
invariant-loop-i l = (k : ℕ) → k < l.i → Contains l.trail.literals (neg_ℤ (get_or l.clause k (pos 0)))
