use Rattle.std.proofs.Common.{arith, refl}
use Rattle.std.proofs.lemmas.List.Elements.{All-more}
use Rattle.l2_inclusions.specs.Inclusions.{Keeps}
use Rattle.l2_inclusions.specs.Rows.{set_at}
use Rattle.l2_inclusions.proofs.Holding.{all_taken}
use Rattle.l2_inclusions.proofs.closed.first_open.Goals as goal

pub loop-i-preserved : goal.loop-i-preserved
loop-i-preserved c = record {
  pairs = c.keeps.ensures.pairs;
  closed = All-more (Keeps (set_at c.args.rows.now)) c.args.inclusions.now c.loop-i.i _ (omega arith) c.loop-i.invariant.closed (c.keeps.ensures.keeps c.if-not-keeps.false);
}

pub returns : goal.returns
returns c = λ e. all_taken (Keeps (set_at c.args.rows.now)) c.args.inclusions.now _ c.loop-i.i c.loop-i.invariant.closed (omega arith) refl
