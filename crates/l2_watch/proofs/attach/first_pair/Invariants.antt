use Rattle.std.proofs.Common.{◌≡◌, ℕ, ◌<◌, get_or}
use Rattle.std.specs.Prelude.{pos}
use Rattle.l2_watch.proofs.attach.first_pair.Given as goal

abbrev pub invariant-loop-literal : goal.invariant-loop-literal
invariant-loop-literal l = (k : ℕ) → k < l.literal-index → get_or l.clause k (pos 0) ≡ l.first
