use Rattle.std.proofs.Common.{◌≡◌, ◌++◌, ◌∷◌, ◌∙◌, [], ap, subst}
use Rattle.l2_cnf.specs.Assignment.{IsSatisfied, completed}
use Rattle.l2_cnf.proofs.Models.{IsSatisfied-Satisfies}
use Rattle.l2_cdcl.specs.Answering.{IsAnswer}
use Rattle.l2_refute.proofs.refuting.is_refuted.Goals as goal

pub returns-in-Sat-clause-is : goal.returns-in-Sat-clause-is
returns-in-Sat-clause-is c =
    let base = c.args.base.now in
    let formula = base ++ c.args.last.now ∷ [] in
    let values = c.in-Sat.field-0 in
    let added : c.add.new.self.added ≡ formula = c.in_ok-add.ensures.ok ∙ ap (λ a. a ++ c.args.last.now ∷ []) (c.in_ok-add_list.ensures.ok ∙ ap (λ a. a ++ base) c.requires.added) in
    let found = subst (IsAnswer [] c.add.new.self.added c.add.new.self.learnt c.solve.new.self.learnt) c.in-Sat.is c.in_ok-solve.ensures.answer in
    (completed values, IsSatisfied-Satisfies values formula (subst (IsSatisfied values) added found.0.clauses_met))
