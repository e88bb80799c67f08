use Rattle.std.proofs.Common.{◌+◌, ◌-◌, ◌/◌, pos, rules, arith}
use Rattle.std.specs.Prelude.{ℕ, slice_index_or}
use Rattle.std.proofs.lemmas.Int.{ints}
use Rattle.l2_strategy.proofs.Steps.{enough_next, askable_more}
use Rattle.l2_strategy.proofs.Raising.{no_less}
use Rattle.l2_strategy.proofs.search.least.Goals as goal

pub row-requires : goal.row-requires
row-requires g c =
    let middle : ℕ = c.loop-low.low + (c.loop-low.high - c.loop-low.low) / 2 in
    let later = c.loop-low.invariant.later in
    let within = c.loop-low.invariant.within in
    let less = no_less c.args.bounds.now c.requires.rises c.args.from middle (omega (arith, later)) (omega (arith, c.loop-low-test.true, within)) in
    askable_more c.args.point.now c.args.broken.at c.args.broken.row (slice_index_or c.args.bounds.now c.args.from (pos 0)) _ (omega (arith, ints, less)) c.requires.askable

pub loop-low-preserved-then-branch : goal.loop-low-preserved-then-branch
loop-low-preserved-then-branch g c = record {
  enough = λ b h. enough_next (g.A.Asks.asked c.args.engine.now) (g.A.Asks.asked c.loop-low.engine) (g.A.Asks.asked c.row.new.self) b (c.loop-low.high - c.loop-low.low) _ (c.loop-low.invariant.enough b h) (omega (arith, c.loop-low-test.true)) (omega (arith, c.loop-low-test.true)) c.row.ensures.asked;
  same = search rules;
  later = search rules;
  ordered = search rules;
  within = search rules;
  exceeded = search rules;
}

pub loop-low-preserved : goal.loop-low-preserved
loop-low-preserved g c = record {
  enough = λ b h. enough_next (g.A.Asks.asked c.args.engine.now) (g.A.Asks.asked c.loop-low.engine) (g.A.Asks.asked c.row.new.self) b (c.loop-low.high - c.loop-low.low) _ (c.loop-low.invariant.enough b h) (omega (arith, c.loop-low-test.true)) (omega (arith, c.loop-low-test.true)) c.row.ensures.asked;
  same = search rules;
  later = search rules;
  ordered = search rules;
  within = search rules;
  exceeded = search rules;
}
