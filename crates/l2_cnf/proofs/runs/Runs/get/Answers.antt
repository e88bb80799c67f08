use Rattle.std.proofs.Common.{length, ap, arith}
use Rattle.l2_cnf.proofs.Cuts.{length-cut}
use Rattle.l2_cnf.proofs.runs.Runs.get.Goals as goal

pub part-requires-clause-within : goal.part-requires-clause-within
part-requires-clause-within g c = omega (arith, ap length c.self.view_is, length-cut 0 c.self.inside.ends.items c.self.inside.items.items, ap length c.deref-2.ensures.value)
