use Rattle.std.proofs.Common.{◌∙◌, ◌++◌, ◌∷◌, [], ap, arith}
use Rattle.l2_cnf.proofs.Cuts.{AreEnds-grown, cut-grown}
use Rattle.l2_cnf.proofs.runs.Runs.push.Goals as goal

pub invariant_of-self-in-Ok : goal.invariant_of-self-in-Ok
invariant_of-self-in-Ok g c = AreEnds-grown c.self.inside.ends.items c.push.new.self.items c.self.inside.items.items c.extend_from_slice.new.self.items c.args.run.now c.len.result c.self.invariant c.in_ok-extend_from_slice.ensures.items (omega arith) c.in-Ok.ensures.items

pub returns-in-Ok-clause-ok : goal.returns-in-Ok-clause-ok
returns-in-Ok-clause-ok g c =
    cut-grown c.self.inside.ends.items c.push.new.self.items c.self.inside.items.items c.extend_from_slice.new.self.items c.args.run.now c.len.result c.self.invariant c.in_ok-extend_from_slice.ensures.items (omega arith) c.in-Ok.ensures.items
    ∙ ap (λ x. x ++ c.args.run.now ∷ []) c.self.view_is
