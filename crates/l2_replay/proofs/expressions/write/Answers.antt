use Rattle.l2_runs.proofs.Stores.{fits_cell}
use Rattle.l2_replay.specs.Reach.{layout}
use Rattle.l2_replay.proofs.expressions.write.Goals as goal

pub returns-clause-fits : goal.returns-clause-fits
returns-clause-fits c =
    rw c.write.ensures (fits_cell (layout c.args.p.now) c.args.m.now.store (record { object = c.args.n; offset = c.args.offset }) c.args.v c.requires.fits c.requires.typed)
