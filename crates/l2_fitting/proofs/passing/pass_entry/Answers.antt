use Rattle.std.proofs.Common.{rules, ◌≡◌, ◌+◌, suc, drop, Ok, Err, subst, arith}
use Rattle.l2_program.specs.Programs.{program_tree}
use Rattle.l2_templates.specs.Points.{loop_at}
use Rattle.l2_fitting.specs.Said.{loop_said, first_ranks_said}
use Rattle.l2_fitting.specs.Passing.{pass, Tells}
use Rattle.l2_fitting.proofs.Passes.{tells_on, tells_stop}
use Rattle.l2_fitting.proofs.passing.pass_entry.Goals as goal

pub returns-in-Ok : goal.returns-in-Ok
returns-in-Ok c =
    let p = program_tree c.args.program.now in
    let i = c.args.i in
    let at = loop_at c.args.cert.now.point i in
    let ys = first_ranks_said (suc i) (drop i c.args.cert.now.ranks) in
    let index : i + 1 ≡ suc i = omega arith in
    let first : pass p c.args.line (loop_said (i + 1) at) ≡ Ok c.in-Ok.line = search rules in
    let front : pass p c.args.line (loop_said (suc i) at) ≡ Ok c.in-Ok.line = subst (λ n. pass p c.args.line (loop_said n at) ≡ Ok c.in-Ok.line) index first in
    let second : Tells c.pass_first_ranks.result (pass p c.in-Ok.line ys) = search rules in
    tells_on p c.args.line c.in-Ok.line (loop_said (suc i) at) ys c.pass_first_ranks.result front second

pub returns-in-Err : goal.returns-in-Err
returns-in-Err c =
    let p = program_tree c.args.program.now in
    let i = c.args.i in
    let at = loop_at c.args.cert.now.point i in
    let ys = first_ranks_said (suc i) (drop i c.args.cert.now.ranks) in
    let index : i + 1 ≡ suc i = omega arith in
    let first : Tells (Err c.in-Err.error) (pass p c.args.line (loop_said (i + 1) at)) = search rules in
    tells_stop p c.args.line (loop_said (suc i) at) ys c.in-Err.error (subst (λ n. Tells (Err c.in-Err.error) (pass p c.args.line (loop_said n at))) index first)
