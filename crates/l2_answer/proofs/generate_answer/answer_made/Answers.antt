use Rattle.l2_answer.proofs.Made.{of_refusal, of_nothing}
use Rattle.l2_answer.proofs.generate_answer.answer_made.Goals as goal

pub returns-in-Ok : goal.returns-in-Ok
returns-in-Ok c = of_nothing c.args.text.now c.unsaid.result c.unsaid.ensures

pub returns-in-Err : goal.returns-in-Err
returns-in-Err c = of_refusal c.args.text.now c.in-Err.fault c.in-Err.ensures.refused c.refused.result c.refused.ensures
