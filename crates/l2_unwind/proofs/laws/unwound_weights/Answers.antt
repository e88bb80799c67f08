use Rattle.l2_unwind.proofs.Weights.{sizes_are_weights}
use Rattle.l2_unwind.proofs.laws.unwound_weights.Goals as goal

-- src/laws.rt:10:1
pub returns : goal.returns
returns c = sizes_are_weights
