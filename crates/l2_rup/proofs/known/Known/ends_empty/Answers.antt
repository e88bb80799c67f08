use Rattle.std.proofs.Common.{◌≡◌, ◌∙◌, ◌-◌, ◌+◌, true, length, sym, ap, subst, arith, rules, eq-eqb}
use Rattle.std.proofs.lemmas.Bool.{OnTrue_from}
use Rattle.l2_cnf.specs.Logic.{Satisfies}
use Rattle.l2_cnf.specs.Steps.{EndsEmpty}
use Rattle.l2_rup.specs.Checked.{formula_of}
use Rattle.l2_rup.proofs.Knows.{empty_refuted, EndsEmpty-at, at-EndsEmpty}
use Rattle.l2_rup.proofs.known.Known.ends_empty.Goals as goal

steps_same : (c : goal.After-is_empty) → c.self.inside.steps.clauses ≡ c.args.self.now.steps
steps_same c = ap (λ k. k.steps) c.self.view_is

last_is : (c : goal.After-is_empty) → c.len-count.result - 1 + 1 ≡ length c.self.inside.steps.clauses
last_is c = omega (arith, c.if-count-gt0.true, c.len-count.ensures.len)

ends : (c : goal.After-is_empty) → c.is_empty.result ≡ true → EndsEmpty c.self.inside.steps.clauses
ends c t =
    let none : length c.clause.result.now ≡ 0 = search rules in
    EndsEmpty-at c.self.inside.steps.clauses (c.len-count.result - 1) c.clause.result.now (last_is c) c.clause.ensures none

pub returns-then-count-gt0-clause-exact : goal.returns-then-count-gt0-clause-exact
returns-then-count-gt0-clause-exact c = (
  (λ t. subst EndsEmpty (steps_same c) (ends c t)),
  (λ e. c.is_empty.ensures ∙ eq-eqb _ _ (at-EndsEmpty c.self.inside.steps.clauses (c.len-count.result - 1) c.clause.result.now (last_is c) c.clause.ensures (subst EndsEmpty (sym (steps_same c)) e))),
)

pub returns-then-count-gt0-clause-refuted : goal.returns-then-count-gt0-clause-refuted
returns-then-count-gt0-clause-refuted c = OnTrue_from c.is_empty.result _ (λ t v model.
    empty_refuted v c.self.inside.steps.clauses (ends c t) (c.self.invariant.1 v (subst (Satisfies v) (sym (ap formula_of c.self.view_is)) model)))
