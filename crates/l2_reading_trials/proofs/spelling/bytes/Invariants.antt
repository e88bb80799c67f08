use Rattle.std.proofs.Common.{◌-◌, length}
use Rattle.l2_reading_trials.proofs.spelling.bytes.Given as goal

abbrev pub decreases-loop-at : goal.decreases-loop-at
decreases-loop-at l = length l.spelt - l.at
