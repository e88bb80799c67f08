use Rattle.std.proofs.Common.{length, ap, arith}
use Rattle.l2_cnf.proofs.Cuts.{length-cut}
use Rattle.l2_rup.proofs.held.Held.clause.Goals as goal

pub part-requires-clause-within : goal.part-requires-clause-within
part-requires-clause-within c = omega (arith, ap (λ h. length h.clauses) c.self.view_is, length-cut 0 c.self.inside.ends.items c.self.inside.all.items, ap length c.deref-2.ensures.value)
