use Rattle.std.proofs.Common.{Err, ap}
use Rattle.l2_sat.proofs.Answered.{bad_line_so}
use Rattle.l2_sat.proofs.checking.proof_checked.Goals as goal

pub returns-in-Ok : goal.returns-in-Ok
returns-in-Ok c = c.checked.ensures c.args.bytes.now c.in-Ok.ensures.ok

pub returns-in-Err-BadLine : goal.returns-in-Err-BadLine
returns-in-Err-BadLine c = bad_line_so c.args.bytes.now c.args.formula.now.variables c.args.formula.now.clauses c.in-Err-BadLine.line (c.in-Err-BadLine.ensures.bad_line c.in-Err-BadLine.line (ap Err c.in-Err-BadLine.field-0-is)) c.numbered.result c.numbered.ensures
