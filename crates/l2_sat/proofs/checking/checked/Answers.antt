use Rattle.std.proofs.Common.{Err, ap}
use Rattle.l2_derivations.specs.Goals.{FailsAt, IsOpen, IsRefuted}
use Rattle.l2_sat.proofs.Answered.{accepted_so, bad_step_so, over_formula, unclosed_so}
use Rattle.l2_sat.proofs.checking.checked.Goals as goal

pub returns-in-Ok : goal.returns-in-Ok
returns-in-Ok c = λ bytes are.
    let formula = c.args.formula.now in
    let steps = c.args.steps.now in
    let refuted = over_formula (λ f n. IsRefuted f n steps) c.in_ok-checker.checker formula.clauses formula.variables _ _ c.in_ok-checker.ensures c.in-Ok.ensures.ok in
    accepted_so bytes formula.variables formula.clauses steps are refuted c.fixed.result c.fixed.ensures

pub returns-in-Err-Step : goal.returns-in-Err-Step
returns-in-Err-Step c = λ bytes are.
    let formula = c.args.formula.now in
    let steps = c.args.steps.now in
    let fails = over_formula (λ f n. FailsAt f n steps c.in-Err-Step.step) c.in_ok-checker.checker formula.clauses formula.variables _ _ c.in_ok-checker.ensures (c.in-Err-Step.ensures.step c.in-Err-Step.step (ap Err c.in-Err-Step.field-0-is)) in
    bad_step_so bytes formula.variables formula.clauses steps c.in-Err-Step.step are fails c.numbered.result c.numbered.ensures

pub returns : goal.returns
returns c = λ bytes are.
    let formula = c.args.formula.now in
    let steps = c.args.steps.now in
    let open_ = over_formula (λ f n. IsOpen f n steps) c.in_ok-checker.checker formula.clauses formula.variables _ _ c.in_ok-checker.ensures (c.in-Err-Open.ensures.open_ (ap Err c.in-Err-Open.field-0-is)) in
    unclosed_so bytes formula.variables formula.clauses steps are open_ c.fixed-in-Err-Open.result c.fixed-in-Err-Open.ensures
