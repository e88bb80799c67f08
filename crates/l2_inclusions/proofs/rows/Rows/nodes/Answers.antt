use Rattle.std.proofs.Common.{arith}
use Rattle.l2_inclusions.proofs.rows.Rows.nodes.Goals as goal

pub returns-clause-small : goal.returns-clause-small
returns-clause-small c = omega (arith, c.self.inside.at.small, c.self.inside.at.ok, c.len.ensures)
