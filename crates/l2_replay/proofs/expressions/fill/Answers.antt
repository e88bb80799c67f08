use Rattle.std.proofs.Common.{subst}
use Rattle.l2_runs.specs.Fits.{FitsAt}
use Rattle.l2_replay.specs.Reach.{layout}
use Rattle.l2_replay.proofs.Weights.{fits_there}
use Rattle.l2_replay.proofs.expressions.fill.Goals as goal

pub write-requires-clause-typed : goal.write-requires-clause-typed
write-requires-clause-typed c =
    subst (λ types. FitsAt (layout c.args.p.now) types c.loop-i.i c.in_ok-v.v) c.requires.cells
    (fits_there (layout c.args.p.now) c.args.types.now c.loop-i.i c.index-types-i.result c.in_ok-v.v c.index-types-i.is c.in_ok-v.ensures.typed)
