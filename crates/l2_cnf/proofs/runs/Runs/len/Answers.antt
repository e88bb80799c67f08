use Rattle.std.proofs.Common.{length, ap, arith}
use Rattle.l2_cnf.proofs.Cuts.{length-cut}
use Rattle.l2_cnf.proofs.runs.Runs.len.Goals as goal

pub returns-clause-len : goal.returns-clause-len
returns-clause-len g c = omega (arith, ap length c.self.view_is, length-cut 0 c.self.inside.ends.items c.self.inside.items.items)
