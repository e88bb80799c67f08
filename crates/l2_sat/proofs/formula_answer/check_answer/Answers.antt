use Rattle.std.proofs.Common.{Err, ap}
use Rattle.l2_sat.specs.Formulas.{Checks}
use Rattle.l2_sat.proofs.Answered.{no_formula, of_formula}
use Rattle.l2_sat.proofs.formula_answer.check_answer.Goals as goal

pub returns-in-Ok : goal.returns-in-Ok
returns-in-Ok c = of_formula c.args.text.now (Checks c.args.bytes.now) c.in-Ok.formula.variables c.in-Ok.formula.clauses c.in-Ok.ensures.ok c.proof_checked.result c.proof_checked.ensures

pub returns-in-Err-BadLine : goal.returns-in-Err-BadLine
returns-in-Err-BadLine c = no_formula c.args.text.now (Checks c.args.bytes.now) c.in-Err-BadLine.line (c.in-Err-BadLine.ensures.bad_line c.in-Err-BadLine.line (ap Err c.in-Err-BadLine.field-0-is)) c.numbered.result c.numbered.ensures
