use Rattle.std.proofs.Common.{Err, ap}
use Rattle.l2_check.proofs.Made.{all_hold, breaks_at, stays_open}
use Rattle.l2_check.proofs.checking.check_steps.Goals as goal

pub returns-in-Ok-clause-ok : goal.returns-in-Ok-clause-ok
returns-in-Ok-clause-ok g c = all_hold c.args.goals.now c.args.cert.now c.as_slice.result.now c.as_slice.ensures c.in-Ok.ensures.ok

pub returns-in-Err-BadStep-clause-bad : goal.returns-in-Err-BadStep-clause-bad
returns-in-Err-BadStep-clause-bad g c =
    breaks_at c.args.goals.now c.args.cert.now c.as_slice.result.now c.as_slice.ensures c.in-Err-BadStep.goal c.in-Err-BadStep.step
    (c.in-Err-BadStep.ensures.bad_step c.in-Err-BadStep.goal c.in-Err-BadStep.step (ap Err c.in-Err-BadStep.field-0-is))

pub returns-in-Err-Unclosed-clause-bad : goal.returns-in-Err-Unclosed-clause-bad
returns-in-Err-Unclosed-clause-bad g c =
    stays_open c.args.goals.now c.args.cert.now c.as_slice.result.now c.as_slice.ensures c.in-Err-Unclosed.goal
    (c.in-Err-Unclosed.ensures.unclosed c.in-Err-Unclosed.goal (ap Err c.in-Err-Unclosed.field-0-is))
