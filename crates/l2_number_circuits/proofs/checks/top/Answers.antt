use Rattle.std.proofs.Common.{sym}
use Rattle.l2_circuits.proofs.Bits.{top_of}
use Rattle.l2_number_circuits.proofs.checks.top.Goals as goal

pub returns-in-Some : goal.returns-in-Some
returns-in-Some c = sym (top_of c.args.a.now c.in-Some.bit.now c.in-Some.ensures.item.3.0 c.in-Some.ensures.value)
