use Rattle.std.proofs.Common.{◌≡◌, ◌++◌, ◌∙◌, [], refl, sym, ap, subst}
use Rattle.l2_cnf.specs.Assignment.{IsSatisfied, completed}
use Rattle.l2_cnf.proofs.Models.{IsSatisfied-Satisfies}
use Rattle.l2_cdcl.specs.Answering.{IsAnswer as IsFound, IsClosed}
use Rattle.l2_cdcl.specs.Learning.{AreLearnt}
use Rattle.l2_cdcl.specs.Log.{IsLog}
use Rattle.l2_sat.proofs.Answered.{refuted_so, solved_so}
use Rattle.l2_sat.proofs.Shown.{shows}
use Rattle.l2_sat.proofs.solving.decide.Goals as goal

pub returns-in-Sat : goal.returns-in-Sat
returns-in-Sat c =
    let clauses = c.args.formula.now.clauses in
    let values = c.in-Sat.values in
    let added : c.add_list.new.self.added ≡ clauses = c.in_ok-add_list.ensures.ok ∙ ap (λ a. a ++ clauses) c.requires.added in
    let found = subst (IsFound [] c.add_list.new.self.added c.add_list.new.self.learnt c.solve.new.self.learnt) c.in-Sat.is c.in_ok-values.ensures.answer in
    solved_so c.args.name.now c.args.formula.now.variables clauses (completed values) c.satisfied.result
    (IsSatisfied-Satisfies values clauses (subst (IsSatisfied values) added found.0.clauses_met)) c.satisfied.ensures.status c.satisfied.ensures.output c.satisfied.ensures.written

pub returns : goal.returns
returns c =
    let clauses = c.args.formula.now.clauses in
    let s = c.solve.new.self in
    let added : s.added ≡ clauses = c.solve.ensures.added ∙ c.in_ok-add_list.ensures.ok ∙ ap (λ a. a ++ clauses) c.requires.added in
    let closed = subst (IsClosed [] s.learnt) c.in-Unsat.is c.in_ok-values.ensures.closed in
    let log : IsLog clauses s.learnt c.log.result.now = subst (λ a. IsLog a s.learnt c.log.result.now) added (subst (IsLog s.added s.learnt) (sym c.log.ensures.steps) c.log.ensures.log) in
    let all : AreLearnt clauses [] s.learnt = subst (λ a. AreLearnt a [] s.learnt) added c.log.ensures.all in
    refuted_so c.args.name.now c.args.formula.now.variables clauses c.log.result.now c.unsatisfied.result
    (λ few. shows c.args.formula.now.variables clauses s.learnt c.log.result.now c.requires.within c.requires.small c.requires.few few log all (c.log.ensures.ends (closed refl)))
    c.unsatisfied.ensures.status c.unsatisfied.ensures.output c.unsatisfied.ensures.written c.unsatisfied.ensures.few
