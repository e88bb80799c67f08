use Rattle.std.proofs.Common.{sym}
use Rattle.l2_cdcl.proofs.redundant.redundant_places.Goals as goal

pub fall_place-place-requires : goal.fall_place-place-requires
fall_place-place-requires c = c.requires.false_ones c.literal-item.result (c.loop-literal.literal-index, c.loop-literal-test.true, sym c.literal-item.is)
