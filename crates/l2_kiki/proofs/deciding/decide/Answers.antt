use Rattle.std.proofs.Common.{ℕ, ◌+◌, subst, arith}
use Rattle.l2_kiki.specs.Answers.{IsFirst, IsAnswer}
use Rattle.l2_kiki.proofs.Steps.{of_some}
use Rattle.l2_kiki.proofs.deciding.decide.Goals as goal

pub returns-in-Ok-Some-clause-is : goal.returns-in-Ok-Some-clause-is
returns-in-Ok-Some-clause-is g c =
    let k : ℕ = c.loop-k.k + 1 in
    subst
    (λ x. IsFirst (g.I.Infer.is_too_large x) (g.I.Infer.breaks x) (g.I.Infer.is_break x) (g.I.Infer.is_strongest x) (g.I.Infer.proves_at x) (g.I.Infer.ranks_are x) c.args.mode c.args.limit k →
    IsAnswer (g.I.Infer.is_too_large x) (g.I.Infer.breaks x) (g.I.Infer.is_break x) (g.I.Infer.is_strongest x) (g.I.Infer.proves_at x) (g.I.Infer.ranks_are x) c.args.mode c.args.limit c.in-Ok-Some.decision)
    c.loop-k.invariant.same (of_some c.in-Ok-Some.field-0 c.in-Ok-Some.decision _ _ c.in-Ok-Some.ensures.is c.in-Ok-Some.field-0-is c.args.limit)
    (record {
      some = omega arith;
      within = omega (arith, c.loop-k-test.true);
      before = λ j s less. c.loop-k.invariant.open_before j s (omega (arith, less));
    })
