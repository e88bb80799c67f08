use Rattle.std.proofs.Common.{arith, ◌∙◌}
use Rattle.l2_inclusions.proofs.Numbers.{zero_more}
use Rattle.l2_inclusions.proofs.rows.add_zeros.Goals as goal

pub loop-preserved : goal.loop-preserved
loop-preserved c = record {
  same = λ n. zero_more c.loop.numbers.items c.push.new.self.items n c.in_ok-push.ensures.items ∙ c.loop.invariant.same n;
  count = omega (arith, c.in_ok-push.ensures.len, c.loop.invariant.count);
}
