use Rattle.std.proofs.Common.{◌≤◌, ◌^◌, ℕ, ◌<◌, get_or}
use Rattle.std.specs.Prelude.{pos, nat_abs}
use Rattle.l2_watch.proofs.attach.greatest.Given as goal

abbrev pub invariant-loop-literal : goal.invariant-loop-literal
invariant-loop-literal l = record {
  some : 1 ≤ l.most;
  small : l.most < 2 ^ 62;
  over : (k : ℕ) → k < l.literal-index → (1 ≤ nat_abs (get_or l.clause k (pos 0))) × (nat_abs (get_or l.clause k (pos 0)) ≤ l.most);
}
