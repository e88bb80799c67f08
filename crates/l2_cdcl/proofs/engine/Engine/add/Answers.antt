use Rattle.std.proofs.Common.{◌≡◌, ◌++◌, ◌∷◌, [], ◌∙◌, sym, ap, subst, true, false}
use Rattle.l2_cdcl.specs.Learning.{learnt_of}
use Rattle.l2_cdcl.proofs.Engines.{IsEngine-same, IsEngine-add, added_add, learnt_add}
use Rattle.l2_cdcl.proofs.engine.Engine.add.Goals as goal

pub invariant_of-self : goal.invariant_of-self
invariant_of-self c = IsEngine-same c.self.inside.learnt_at.items c.self.inside.watch c.add.new.self c.self.inside.marks c.self.inside.marks c.self.inside.refuted c.self.inside.log c.self.invariant c.in_err-add.ensures.err (λ t. absurd (let z : true ≡ false = sym t ∙ c.add.ensures.ready in cc))

pub invariant_of-self-2 : goal.invariant_of-self-2
invariant_of-self-2 c = IsEngine-add c.self.inside.learnt_at.items c.self.inside.watch c.add.new.self c.self.inside.marks c.self.inside.refuted c.self.inside.log c.args.clause.now c.self.invariant c.in_ok-add.ensures.ok c.add.ensures.ready
    (subst (λ s. s.logged ≡ true → s.learnt ≡ []) (sym c.self.view_is) c.requires)

pub returns-in_err-add-clause-learnt : goal.returns-in_err-add-clause-learnt
returns-in_err-add-clause-learnt c = ap (learnt_of c.self.inside.learnt_at.items) c.in_err-add.ensures.err ∙ ap (λ s. s.learnt) c.self.view_is

pub returns-clause-ok : goal.returns-clause-ok
returns-clause-ok c = added_add c.self.inside.learnt_at.items c.self.inside.watch.clauses c.add.new.self.clauses c.args.clause.now c.self.invariant.within c.in_ok-add.ensures.ok ∙ ap (λ s. s.added ++ c.args.clause.now ∷ []) c.self.view_is

pub returns-clause-learnt : goal.returns-clause-learnt
returns-clause-learnt c = learnt_add c.self.inside.learnt_at.items c.self.inside.watch.clauses c.add.new.self.clauses c.args.clause.now c.self.invariant.within c.in_ok-add.ensures.ok ∙ ap (λ s. s.learnt) c.self.view_is
