use Rattle.std.proofs.Common.{◌≡◌, drop}
use Rattle.l2_meaning.specs.Thresholds.{is_among}
use Rattle.l2_thresholds.proofs.constants.is_among.Given as goal

abbrev pub invariant-loop-x : goal.invariant-loop-x
invariant-loop-x l = is_among (drop l.x-index l.all) l.z ≡ is_among l.all l.z
