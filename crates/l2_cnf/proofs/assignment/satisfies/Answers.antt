use Rattle.std.proofs.Common.{◌∙◌, [], subst, arith, rules}
use Rattle.std.specs.Prelude.{ℤ, Contains}
use Rattle.std.proofs.lemmas.List.{get_or_default}
use borrow.Author.Count.{below_more}
use Rattle.l2_cnf.specs.Assignment.{MakesTrue, IsSatisfied}
use Rattle.l2_cnf.proofs.Models.{IsSatisfied-Satisfies}
use Rattle.l2_cnf.proofs.assignment.satisfies.Goals as goal

pub loop-i-preserved : goal.loop-i-preserved
loop-i-preserved c = below_more _ _ c.loop-i.invariant
    (subst (λ x. (m : ℤ) × (Contains x m) × (MakesTrue c.args.a.now m)) c.clause.ensures (c.has_true.ensures.0 c.if-not-has_true.false))

all_satisfied : (c : goal.After-loop-i) → IsSatisfied c.args.a.now c.args.list.now
all_satisfied c clause (k, b, e) =
    subst (λ x. (m : ℤ) × (Contains x m) × (MakesTrue c.args.a.now m)) (get_or_default c.args.list.now k [] clause b ∙ e) (c.loop-i.invariant k (omega (arith, b, c.loop-i-test.false, c.len-i-end.ensures.len)))

pub returns-clause-exact : goal.returns-clause-exact
returns-clause-exact c = (λ _. all_satisfied c, λ _. search rules)

pub returns-clause-model : goal.returns-clause-model
returns-clause-model c = IsSatisfied-Satisfies c.args.a.now c.args.list.now (all_satisfied c)
