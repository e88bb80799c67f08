use Rattle.std.proofs.Common.{arith, subst, sym}
use Rattle.l2_code.specs.Sets.{AllRise}
use Rattle.l2_inclusions.proofs.rows.Rows.new.Goals as goal

pub invariant_of-result : goal.invariant_of-result
invariant_of-result c = record { count = omega (arith, c.new.ensures.len); numbers = λ n. omega (arith, c.in_ok-at.ensures.zero n); rise = subst AllRise (sym c.new.ensures.items) tt }
