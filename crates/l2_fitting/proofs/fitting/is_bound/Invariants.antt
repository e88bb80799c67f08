use Rattle.std.proofs.Common.{◌≡◌, drop, Some}
use Rattle.l2_fitting.specs.Fitting.{is_among}
use Rattle.l2_fitting.proofs.fitting.is_bound.Given as goal

abbrev pub invariant-loop-threshold : goal.invariant-loop-threshold
invariant-loop-threshold l = is_among (drop l.threshold-index l.thresholds) (Some l.bound) ≡ is_among l.thresholds (Some l.bound)
