use Rattle.std.proofs.Common.{sym}
use Rattle.l2_pointer_circuits.proofs.Bits.{literals_take}
use Rattle.l2_pointer_circuits.proofs.words.selector.Goals as goal

pub returns-then-a-gt17 : goal.returns-then-a-gt17
returns-then-a-gt17 c = sym (literals_take c.args.a.now 17)
