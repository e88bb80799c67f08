use Rattle.std.proofs.Common.{length, ap, arith}
use Rattle.l2_cnf.proofs.Parts.{length-steps_of}
use Rattle.l2_cnf.proofs.lines.Lines.len.Goals as goal

pub returns-clause-len : goal.returns-clause-len
returns-clause-len c = omega (arith, ap length c.self.view_is, ap length c.as_slice.ensures.value, length-steps_of c.self.inside.numbers.items c.self.inside.clauses c.self.inside.hints c.self.invariant.0 c.self.invariant.1)
