use Rattle.std.proofs.Common.{◌≡◌, ◌≤◌, [], drop, length}
use Rattle.l2_meaning.specs.Thresholds.{values_of, firsts}
use Rattle.l2_thresholds.proofs.Firsts.{in_the_end}
use Rattle.l2_thresholds.proofs.constants.firsts.Given as goal

abbrev pub invariant-loop-t : goal.invariant-loop-t
invariant-loop-t l = record {
  few : length l.all.items ≤ 256;
  so_far : in_the_end l.all.items (values_of (drop l.t-index l.tokens)) ≡ firsts [] (values_of l.tokens);
}
