use Rattle.std.proofs.Common.{◌∙◌, length, sym, ap, arith}
use Rattle.std.proofs.lemmas.List.{take_all}
use Rattle.l2_cdcl.proofs.Engines.{IsEngine-same}
use Rattle.l2_cdcl.proofs.engine.Engine.restart.Goals as goal

pub invariant_of-self : goal.invariant_of-self
invariant_of-self c = IsEngine-same c.self.inside.learnt_at.items c.self.inside.watch c.back.new.self c.self.inside.marks c.self.inside.marks c.self.inside.refuted c.self.inside.log c.self.invariant c.back.ensures.clauses
    (λ t. (let room = c.self.invariant.room (ap (λ s. s.board.ready) c.self.view_is ∙ c.requires) in omega (arith, room, c.back.ensures.variables)))

pub returns-else-anew-clause-levels : goal.returns-else-anew-clause-levels
returns-else-anew-clause-levels c =
    let levels = c.args.self.now.board.levels in
    (length levels, omega arith, sym (take_all (length levels) levels (omega arith)))
