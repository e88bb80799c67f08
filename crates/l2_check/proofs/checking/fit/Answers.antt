use Rattle.std.proofs.Common.{◌≡◌, ap, subst}
use Rattle.l2_program.specs.Programs.{program_tree}
use Rattle.l2_fitting.specs.Fitting.{NamesFit}
use Rattle.l2_check.proofs.checking.fit.Goals as goal

pub returns-in-Ok-clause-ok : goal.returns-in-Ok-clause-ok
returns-in-Ok-clause-ok c =
    let same : c.loaded.inside.program ≡ c.args.loaded.now.program = ap (λ k. k.program) c.loaded.view_is in
    subst (λ x. NamesFit (program_tree x) c.args.cert.now) same c.in-Ok.ensures.ok
