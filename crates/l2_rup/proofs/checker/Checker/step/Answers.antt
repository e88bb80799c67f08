use Rattle.l2_cnf.proofs.Derivations.{IsStep-implied}
use Rattle.l2_rup.specs.Checked.{known_of}
use Rattle.l2_rup.proofs.checker.Checker.step.Goals as goal

pub push-requires-clause-implied : goal.push-requires-clause-implied
push-requires-clause-implied c = λ v model.
    IsStep-implied (known_of c.self.inside.known) c.self.inside.trail.variables c.args.number c.args.clause.now c.args.hints.now (c.is_step-accepted.ensures.exact.0 c.if-accepted.true) v model
