use Rattle.std.proofs.Common.{map}
use Rattle.l2_gates.specs.Gates.{literals_of}
use Rattle.l2_goals.proofs.Pushed.{row_pushed}
use Rattle.l2_goals.proofs.clauses.Endings.push_rows.Goals as goal

pub loop-i-preserved : goal.loop-i-preserved
loop-i-preserved c = row_pushed c.args.self c.args.of_loop (map literals_of c.args.last.now) (map literals_of c.loop-i.last) (map literals_of c.push.new.last) c.loop-i.i c.in_ok-row.row c.loop-i.invariant c.in_ok-push.ensures c.in_ok-row.ensures
