use Rattle.std.proofs.Common.{◌∙◌, ◌++◌, ◌∷◌, [], ap}
use Rattle.l2_cnf.specs.Lines.{step_of}
use Rattle.l2_cnf.proofs.Parts.{steps_of-push}
use Rattle.l2_cnf.proofs.lines.Lines.push.Goals as goal

pub returns-clause-ok : goal.returns-clause-ok
returns-clause-ok c =
    let both = c.in_default.ensures.ok in
    rw (both.0, both.1, c.in_ok-push.ensures.ok) (steps_of-push c.self.inside.numbers.items c.self.inside.clauses c.self.inside.hints c.args.number c.args.clause.now c.args.hints.now c.self.invariant.0 c.self.invariant.1
    ∙ ap (λ x. x ++ step_of c.args.number c.args.clause.now c.args.hints.now ∷ []) c.self.view_is)
