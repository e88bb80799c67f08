use Rattle.std.proofs.Common.{◌+◌, pos, length, arith}
use Rattle.std.specs.Prelude.{slice_index_or}
use Rattle.std.proofs.lemmas.Int.{ints}
use Rattle.l2_strategy.proofs.Steps.{askable_more, all_counted}
use Rattle.l2_strategy.proofs.Raising.{no_less}
use Rattle.l2_strategy.proofs.search.rise.Goals as goal

pub row-requires : goal.row-requires
row-requires g c =
    let less = no_less c.args.bounds.now c.requires.rises c.args.from (c.args.from + 1) (omega arith) (omega (arith, c.requires.inside, c.if-next-bounds.false)) in
    askable_more c.args.point.now c.args.broken.at c.args.broken.row (slice_index_or c.args.bounds.now c.args.from (pos 0)) _ (omega (arith, ints, less)) c.requires.askable

pub least-requires-clause-askable : goal.least-requires-clause-askable
least-requires-clause-askable g c =
    let less = no_less c.args.bounds.now c.requires.rises c.args.from (c.args.from + 1) (omega arith) (omega (arith, c.requires.inside, c.if-next-bounds.false)) in
    askable_more c.args.point.now c.args.broken.at c.args.broken.row (slice_index_or c.args.bounds.now c.args.from (pos 0)) _ (omega (arith, ints, less)) c.requires.askable

pub returns-clause-counted : goal.returns-clause-counted
returns-clause-counted g c =
    all_counted c.least.result c.args.from (g.A.Asks.asked c.args.engine.now) (g.A.Asks.asked c.row.new.self) (g.A.Asks.asked c.least.new.engine) (length c.args.bounds.now) c.least.ensures.later c.row.ensures.asked c.least.ensures.asked
