use Rattle.std.proofs.Common.{◌≡◌, ◌++◌, drop}
use Rattle.std.specs.Prelude.{flat_map}
use Rattle.l2_meaning.specs.Thresholds.{near}
use Rattle.l2_thresholds.proofs.near.all_near.Given as goal

abbrev pub invariant-loop-c : goal.invariant-loop-c
invariant-loop-c l = l.all.items ++ flat_map near (drop l.c-index l.constants) ≡ flat_map near l.constants
