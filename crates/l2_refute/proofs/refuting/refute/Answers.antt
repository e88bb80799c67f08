use Rattle.std.proofs.Common.{◌+◌, ◌<◌, ◌^◌, ◌++◌, ◌∷◌, [], refl, sym, subst, length, arith}
use Rattle.std.proofs.lemmas.List.{length-append}
use Rattle.l2_cdcl.specs.Learning.{AreLearnt}
use Rattle.l2_cdcl.specs.Log.{IsLog}
use Rattle.l2_refute.specs.Refuting.{IsDecided}
use Rattle.l2_refute.proofs.Logs.{refutes}
use Rattle.l2_refute.proofs.refuting.refute.Goals as goal

pub returns-then-can_be_spelt : goal.returns-then-can_be_spelt
returns-then-can_be_spelt c =
    let formula = c.args.base.now ++ c.args.last.now ∷ [] in
    let steps = c.into_log-steps.result in
    let s = c.is_refuted.new.solver in
    let added = c.in_ok-is_refuted.ensures.added in
    let decided = subst (λ b. IsDecided b formula s.learnt) c.if-not-branch.false c.in_ok-is_refuted.ensures.is in
    let log : IsLog formula s.learnt steps = subst (λ a. IsLog a s.learnt steps) added (subst (IsLog s.added s.learnt) (sym c.into_log-steps.ensures.steps) c.into_log-steps.ensures.log) in
    let all : AreLearnt formula [] s.learnt = subst (λ a. AreLearnt a [] s.learnt) added c.into_log-steps.ensures.all in
    let few = c.if-can_be_spelt.ensures refl in
    let size = length-append c.args.base.now (c.args.last.now ∷ []) in
    let long : length formula + length steps < 2 ^ 62 = omega (arith, few.0, size) in
    refutes c.args.variables formula s.learnt steps c.requires few.1 long few.2 log all (c.into_log-steps.ensures.ends decided)
