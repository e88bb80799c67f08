use Rattle.std.proofs.Common.{List, ◌++◌, sym, ap, subst}
use Rattle.std.specs.Prelude.{ℤ, IfOk}
use Rattle.l2_cnf.specs.Logic.{Satisfies, Settles}
use Rattle.l2_cdcl.specs.Learning.{IsLearning}
use Rattle.l2_cdcl.specs.Answering.{IsAnswer}
use Rattle.l2_session.specs.Talks.{IsUnsat}
use Rattle.l2_session.proofs.Asking.{settled, known}
use Rattle.l2_session.proofs.session.Session.ask.Goals as goal

pub returns-clause-implied : goal.returns-clause-implied
returns-clause-implied c = λ v model. c.solve.ensures.implied v (subst (Satisfies v) (sym (ap (λ t. t.list) c.self.view_is)) model)

pub returns-clause-answer : goal.returns-clause-answer
returns-clause-answer c =
    subst (λ (x : List (List ℤ)). IfOk c.solve.result (λ a. IsAnswer c.args.assumptions.now x c.args.self.now.learnt c.solve.new.self.learnt a)) (ap (λ t. t.list) c.self.view_is)
    (subst (λ (x : List (List ℤ)). IfOk c.solve.result (λ a. IsAnswer c.args.assumptions.now c.self.inside.solver.added x c.solve.new.self.learnt a)) (ap (λ t. t.learnt) c.self.view_is) c.solve.ensures.answer)

pub returns-clause-settled : goal.returns-clause-settled
returns-clause-settled c =
    subst (λ (x : List (List ℤ)). IfOk c.solve.result (λ a. IsUnsat a → Settles (x ++ c.solve.new.self.learnt) c.args.assumptions.now)) (sym c.solve.ensures.added)
    (settled c.args.assumptions.now c.self.inside.solver.added c.self.inside.solver.learnt c.solve.new.self.learnt c.solve.result c.solve.ensures.answer)

pub returns-clause-known : goal.returns-clause-known
returns-clause-known c =
    known c.args.assumptions.now c.args.self.now.list c.args.self.now.learnt c.solve.new.self.learnt c.solve.result
    (subst (λ (x : List (List ℤ)). IsLearning c.args.assumptions.now x c.args.self.now.learnt c.solve.new.self.learnt) (ap (λ t. t.list) c.self.view_is)
    (subst (λ (x : List (List ℤ)). IsLearning c.args.assumptions.now c.self.inside.solver.added x c.solve.new.self.learnt) (ap (λ t. t.learnt) c.self.view_is) c.solve.ensures.learning))
    (returns-clause-answer c)
