use Rattle.std.proofs.Common.{◌∙◌, ◌<◌, length, sym, ap, arith, subst}
use Rattle.l2_cdcl.specs.Search.{IsEngine}
use Rattle.l2_cdcl.proofs.Engines.{IsEngine-same}
use Rattle.l2_cdcl.proofs.engine.Engine.cover.Goals as goal
use Rattle.l2_cdcl.proofs.engine.Engine.cover.Goals.{After-cover}

kept : (c : After-cover) → IsEngine c.self.inside.learnt_at.items c.cover.new.self c.self.inside.marks c.self.inside.refuted c.self.inside.log
kept c = IsEngine-same c.self.inside.learnt_at.items c.self.inside.watch c.cover.new.self c.self.inside.marks c.self.inside.marks c.self.inside.refuted c.self.inside.log c.self.invariant c.cover.ensures.clauses
    (λ t. let same = c.cover.ensures.kept t in subst (λ b. b.variables < length c.self.inside.marks) (sym same) (c.self.invariant.room (sym (ap (λ b. b.ready) same) ∙ t)))

pub invariant_of-self : goal.invariant_of-self
invariant_of-self c = kept (goal.at.invariant_of-self c).After-cover

pub invariant_of-self-in_err-cover-2 : goal.invariant_of-self-in_err-cover-2
invariant_of-self-in_err-cover-2 c = kept (goal.at.invariant_of-self-in_err-cover-2 c).After-cover

pub invariant_of-self-in_err-cover-3 : goal.invariant_of-self-in_err-cover-3
invariant_of-self-in_err-cover-3 c = kept (goal.at.invariant_of-self-in_err-cover-3 c).After-cover

pub invariant_of-self-in_err-self-inside : goal.invariant_of-self-in_err-self-inside
invariant_of-self-in_err-self-inside c = kept (goal.at.invariant_of-self-in_err-self-inside c).After-cover

pub invariant_of-self-then-len-variables : goal.invariant_of-self-then-len-variables
invariant_of-self-then-len-variables c = IsEngine-same c.self.inside.learnt_at.items c.self.inside.watch c.cover.new.self c.self.inside.marks c.in_ok-self-inside.field-0 c.self.inside.refuted c.self.inside.log c.self.invariant c.cover.ensures.clauses (λ t. omega arith)

pub invariant_of-self-else-len-variables : goal.invariant_of-self-else-len-variables
invariant_of-self-else-len-variables c = kept (goal.at.invariant_of-self-else-len-variables c).After-cover
