use Rattle.std.proofs.Common.{◌≡◌, ◌≤◌, ◌+◌, ℕ, sym, ap, ◌∙◌, ◌++◌, ◌∷◌, [], subst, arith, true, take}
use Rattle.std.specs.Prelude.{ℤ, nat_abs, Contains}
use Rattle.l2_rup.proofs.Looks.{AreOver-more, AreApart-more, map-more, not_apart}
use Rattle.l2_cnf.proofs.Laws.{nat_abs-neg_ℤ}
use Rattle.l2_rup.proofs.hints.negate.Goals as goal
use Rattle.l2_rup.proofs.hints.negate.Goals.{then-var-variables-via-then-var-variables, then-var-variables-via-else-var-variables+then-has}

pub push-requires-clause-new : goal.push-requires-clause-new
push-requires-clause-new c = λ m h e.
    let has : c.has.result ≡ true = c.has.ensures.1 (m, h, e ∙ ap nat_abs c.negated.ensures ∙ nat_abs-neg_ℤ c.literal-item.result ∙ sym c.var-var.ensures.var) in cc

pub loop-literal-preserved : goal.loop-literal-preserved
loop-literal-preserved c =
    let clause = c.args.clause.now in
    let i : ℕ = c.loop-literal.literal-index in
    let l : ℤ = c.literal-item.result in
    let same : c.push.new.self.variables ≡ c.args.trail.now.variables = c.push.ensures.variables ∙ c.loop-literal.invariant.variables in
    record {
      variables = same;
      literals = c.push.ensures.literals ∙ (λ j. c.loop-literal.invariant.literals j ++ c.negated.ensures j ∷ []) ∙ map-more clause i l c.loop-literal-test.true c.literal-item.is;
      over = subst (λ n. (m : ℤ) → Contains (take (i + 1) clause) m → (1 ≤ nat_abs m) × (nat_abs m ≤ n)) (sym c.push.ensures.variables) (AreOver-more c.loop-literal.trail.variables clause i l c.loop-literal-test.true c.literal-item.is (omega (arith, c.var-var.ensures.low, c.var-var.ensures.var)) (omega (arith, c.var-var.ensures.var, c.if-var-variables.false, c.variables.ensures)) c.loop-literal.invariant.over);
      apart = AreApart-more clause i l c.loop-literal-test.true c.literal-item.is c.loop-literal.invariant.apart
          (λ m h e. let has : c.has.result ≡ true = c.has.ensures.1 (m, subst (λ x. Contains x m) (sym c.loop-literal.invariant.literals) h, e ∙ sym c.var-var.ensures.var) in cc);
    }

pub returns-then-var-variables-clause-cases : goal.returns-then-var-variables-clause-cases
returns-then-var-variables-clause-cases c = λ both.
    let item : Contains c.args.clause.now c.literal-item.result = (c.loop-literal.literal-index, c.loop-literal-test.true, sym c.literal-item.is) in
    elim c.then-var-variables.branch [
      | then-var-variables-via-then-var-variables w ↦ absurd (omega (arith, w.if-var-variables.true, c.variables.ensures, c.loop-literal.invariant.variables, (both.0 c.literal-item.result item).1, c.var-var.ensures.var))
      | then-var-variables-via-else-var-variables+then-has w ↦
          let m = w.has.ensures.0 w.if-has.true in
          not_apart c.args.clause.now c.loop-literal.literal-index c.literal-item.result m.0 c.loop-literal-test.true c.literal-item.is (subst (λ x. Contains x m.0) c.loop-literal.invariant.literals m.1) (m.2 ∙ c.var-var.ensures.var) both.1
    ]
