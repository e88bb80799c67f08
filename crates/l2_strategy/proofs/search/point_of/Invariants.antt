use Rattle.std.proofs.Common.{◌≡◌, ◌++◌, map, drop}
use Rattle.l2_strategy.specs.Places.{spot_point}
use Rattle.l2_strategy.proofs.search.point_of.Given as goal

abbrev pub invariant-loop-i : goal.invariant-loop-i
invariant-loop-i l = l.point ++ map (spot_point l.bounds) (drop l.i l.places) ≡ map (spot_point l.bounds) l.places
