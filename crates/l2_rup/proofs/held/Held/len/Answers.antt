use Rattle.std.proofs.Common.{length, ap, arith}
use Rattle.l2_cnf.proofs.Cuts.{length-cut}
use Rattle.l2_rup.proofs.held.Held.len.Goals as goal

pub returns-clause-len : goal.returns-clause-len
returns-clause-len c = omega (arith, ap (λ h. length h.clauses) c.self.view_is, length-cut 0 c.self.inside.ends.items c.self.inside.all.items, ap length c.as_slice.ensures.value)
