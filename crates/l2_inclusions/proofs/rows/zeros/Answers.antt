use Rattle.std.proofs.Common.{rules}
use Rattle.l2_inclusions.proofs.Numbers.{zero_in}
use Rattle.l2_inclusions.proofs.rows.zeros.Goals as goal

pub returns-clause-zero : goal.returns-clause-zero
returns-clause-zero c = λ k. zero_in c.in_ok-all.all.items c.args.count k (search rules)
