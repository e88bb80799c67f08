use Rattle.std.proofs.Common.{rules, ◌≡◌, ◌<◌, ◌+◌, ◌∙◌, ℕ, length, ap, subst}
use Rattle.l2_cnf.specs.Steps.{IsStep}
use Rattle.l2_rup.specs.Checked.{Checked, known_of, with_step}
use Rattle.l2_sat.specs.declared.checking.Fault.TheVariants as fault
use Rattle.l2_derivations.specs.Goals.{FailsAt}
use Rattle.l2_derivations.proofs.Accepted.{fails_there, next_derived, next_state, state}
use Rattle.l2_sat.proofs.checking.check_steps.Goals as goal

same_step : (formula : _) (variables : ℕ) (steps : _) (s t : ℕ) → fault.Step s ≡ fault.Step t → FailsAt formula variables steps s → FailsAt formula variables steps t
same_step formula variables steps s t is fails = let same : s ≡ t = cc in subst (FailsAt formula variables steps) same fails

pub returns-then-is_err-clause-step : goal.returns-then-is_err-clause-step
returns-then-is_err-clause-step c = λ s is.
    let old = c.args.checker.now in
    let steps = c.args.steps.now in
    let i = c.loop-i.i in
    let within : i < length steps = search rules in
    let bad : ¬ IsStep (known_of c.loop-i.checker) c.loop-i.checker.variables c.number.result c.clause.result.now c.hints.result.now = search rules in
    let there : ¬ IsStep (known_of (state old steps i)) old.variables c.number.result c.clause.result.now c.hints.result.now = subst (λ (k : Checked). ¬ IsStep (known_of k) k.variables c.number.result c.clause.result.now c.hints.result.now) c.loop-i.invariant.checked bad in
    let named : fault.Step (i + 1) ≡ fault.Step s = cc in
    same_step _ _ _ (i + 1) s named (fails_there old steps i c.number.result c.clause.result.now c.hints.result.now within c.number.ensures c.clause.ensures c.hints.ensures c.loop-i.invariant.derived there)

pub loop-i-preserved : goal.loop-i-preserved
loop-i-preserved c =
    let old = c.args.checker.now in
    let steps = c.args.steps.now in
    let i = c.loop-i.i in
    let within : i < length steps = search rules in
    let taken : c.step.new.self ≡ with_step c.loop-i.checker c.clause.result.now = search rules in
    let good : IsStep (known_of c.loop-i.checker) c.loop-i.checker.variables c.number.result c.clause.result.now c.hints.result.now = search rules in
    let there : IsStep (known_of (state old steps i)) old.variables c.number.result c.clause.result.now c.hints.result.now = subst (λ (k : Checked). IsStep (known_of k) k.variables c.number.result c.clause.result.now c.hints.result.now) c.loop-i.invariant.checked good in
    record {
      checked = taken ∙ ap (λ k. with_step k c.clause.result.now) c.loop-i.invariant.checked ∙ next_state old steps i c.clause.result.now within c.clause.ensures;
      derived = next_derived old steps i c.number.result c.clause.result.now c.hints.result.now within c.number.ensures c.clause.ensures c.hints.ensures c.loop-i.invariant.derived there;
    }
