use Rattle.std.proofs.Common.{◌≢◌, ◌⊎◌, ◌<◌, ℕ, get_or}
use Rattle.std.specs.Prelude.{pos, nat_abs}
use Rattle.l2_cdcl.specs.Analysis.{IsMarked, IsFalseBefore}
use Rattle.l2_cdcl.proofs.shorten.are_covered.Given as goal

abbrev pub invariant-loop-literal : goal.invariant-loop-literal
invariant-loop-literal l = (k : ℕ) → k < l.literal-index → get_or l.clause k (pos 0) ≢ l.but → IsFalseBefore l.watch.past.literals l.low (get_or l.clause k (pos 0)) ⊎ IsMarked l.marks (nat_abs (get_or l.clause k (pos 0)))
