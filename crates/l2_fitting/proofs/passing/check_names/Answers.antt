use Rattle.std.proofs.Common.{rules, ◌≡◌, Ok, Err}
use Rattle.l2_program.specs.Programs.{program_tree}
use Rattle.l2_fitting.specs.declared.passing.NameError.TheVariants.{BadName}
use Rattle.l2_fitting.specs.Said.{said}
use Rattle.l2_fitting.specs.Passing.{pass, Tells}
use Rattle.l2_fitting.proofs.Passes.{names_fit, told_bad}
use Rattle.l2_fitting.proofs.passing.check_names.Goals as goal

pub returns-in-Ok-clause-ok : goal.returns-in-Ok-clause-ok
returns-in-Ok-clause-ok c =
    let p = program_tree c.args.program.now in
    let cert = c.args.cert.now in
    let h : pass p 1 (said cert) ≡ Ok c.in-Ok._line = search rules in
    names_fit p cert c.in-Ok._line h

pub returns-in-Err-clause-bad_name : goal.returns-in-Err-clause-bad_name
returns-in-Err-clause-bad_name c = λ line is.
    let p = program_tree c.args.program.now in
    let cert = c.args.cert.now in
    let told : Tells (Err c.in-Err.error) (pass p 1 (said cert)) = search rules in
    let same : c.in-Err.error ≡ BadName line = cc in
    told_bad p cert c.in-Err.error line same told
