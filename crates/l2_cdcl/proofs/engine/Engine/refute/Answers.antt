use Rattle.std.proofs.Common.{◌≡◌, ◌++◌, ◌∷◌, [], ◌∙◌, ◌+◌, sym, ap, refl, true, false, inl, arith, subst}
use Rattle.l2_cnf.specs.Lines.{step_of}
use Rattle.l2_cnf.specs.Steps.{Leads}
use Rattle.l2_cdcl.specs.Level.{IsRootConflict}
use Rattle.l2_cdcl.specs.Learning.{added_of}
use Rattle.l2_cdcl.specs.Log.{greatest_of}
use Rattle.l2_cdcl.proofs.Logs.{empty_step, popped}
use Rattle.l2_cdcl.proofs.Reached.{root_follows}
use Rattle.l2_cdcl.proofs.Engines.{IsEngine-same, IsEngine-log, IsEngine-learn, added_learn, learnt_learn}
use Rattle.l2_cdcl.proofs.engine.Engine.refute.Goals as goal
use Rattle.l2_cdcl.proofs.engine.Engine.refute.Goals.{After-facts}

root : (c : After-facts) → IsRootConflict c.self.inside.watch c.args.conflict
root c = subst (λ s. IsRootConflict s.board c.args.conflict) (sym c.self.view_is) c.requires

pub invariant_of-self-in-Err : goal.invariant_of-self-in-Err
invariant_of-self-in-Err c =
    let at = c.self.inside.learnt_at.items in
    let log = c.self.inside.log in
    let back : c.forget.new.learnt_at.items ≡ at = popped at c.note.new.learnt_at.items c.forget.new.learnt_at.items c.count.result c.in_ok-note.ensures.at c.forget.ensures.at in
    rw back (IsEngine-log at c.add.new.self c.self.inside.marks c.self.inside.refuted log c.forget.new.log
    (IsEngine-same at c.self.inside.watch c.add.new.self c.self.inside.marks c.self.inside.marks c.self.inside.refuted log c.self.invariant c.in-Err.ensures.err (λ t. absurd (let z : true ≡ false = sym t ∙ c.add.ensures.ready in cc)))
    (c.forget.ensures.kept ∙ c.note.ensures.kept)
    (λ t. popped log.steps c.note.new.log.steps c.forget.new.log.steps (step_of (c.count.result + 1) [] c.deref.result.now) (c.in_ok-note.ensures.line t) (c.forget.ensures.line (c.note.ensures.kept ∙ t))))

pub invariant_of-self-2 : goal.invariant_of-self-2
invariant_of-self-2 c =
    let b = c.self.inside.watch in
    let log = c.self.inside.log in
    let leads : log.kept ≡ true → Leads b.clauses [] c.deref.result.now = λ t. subst (Leads b.clauses []) (sym c.deref.ensures.value) (c.in_ok-hints.ensures (c.is_kept.ensures ∙ t)) in
    IsEngine-learn c.self.inside.learnt_at.items c.note.new.learnt_at.items b c.add.new.self c.self.inside.marks c.self.inside.marks c.self.inside.refuted true log c.note.new.log [] c.deref.result.now c.count.result c.self.invariant c.count.ensures.len c.in_ok-note.ensures.at c.in_default.ensures.ok
    (λ l h. absurd (omega (arith, h.1))) (root_follows b c.args.conflict c.facts.ensures (root (goal.at.invariant_of-self-2 c).After-facts)) (λ t. absurd (let z : true ≡ false = sym t ∙ c.add.ensures.ready in cc)) (inl (refl, refl))
    c.note.ensures.kept c.in_ok-note.ensures.line (λ t. empty_step b.clauses (greatest_of (added_of c.self.inside.learnt_at.items b.clauses)) c.deref.result.now (leads t))

pub returns-clause-ok : goal.returns-clause-ok
returns-clause-ok c = learnt_learn c.self.inside.learnt_at.items c.note.new.learnt_at.items c.self.inside.watch.clauses c.add.new.self.clauses [] c.count.result c.self.invariant.within c.count.ensures.len c.in_ok-note.ensures.at c.in_default.ensures.ok ∙ ap (λ s. s.learnt ++ [] ∷ []) c.self.view_is

pub returns-clause-added : goal.returns-clause-added
returns-clause-added c = added_learn c.self.inside.learnt_at.items c.note.new.learnt_at.items c.self.inside.watch.clauses c.add.new.self.clauses [] c.count.result c.count.ensures.len c.in_ok-note.ensures.at c.in_default.ensures.ok ∙ ap (λ s. s.added) c.self.view_is
