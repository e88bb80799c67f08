use Rattle.std.proofs.Common.{rules, ◌≡◌, ◌+◌, ◌<◌, ◌++◌, ◌∙◌, suc, drop, length, Ok, Err, subst, sym, ap}
use Rattle.l2_program.specs.Programs.{program_tree}
use Rattle.l2_templates.specs.Points.{loop_at}
use Rattle.l2_fitting.specs.Said.{loop_said, first_ranks_said, loops_said}
use Rattle.l2_fitting.specs.Passing.{pass, Tells}
use Rattle.l2_fitting.proofs.Passes.{next_entry, passed, tells_stop}
use Rattle.l2_fitting.proofs.passing.pass_loops.Goals as goal

pub returns-in-Err : goal.returns-in-Err
returns-in-Err c =
    let p = program_tree c.args.program.now in
    let point = c.args.cert.now.point in
    let ranks = c.args.cert.now.ranks in
    let i = c.loop-i.i in
    let line = c.loop-i.line in
    let xs = loop_said (suc i) (loop_at point i) ++ first_ranks_said (suc i) (drop i ranks) in
    let ys = loops_said (suc (i + 1)) (drop (i + 1) point) (drop (i + 1) ranks) in
    let within : i < length point = search rules in
    let told : Tells (Err c.in-Err.error) (pass p line xs) = search rules in
    subst (Tells (Err c.in-Err.error)) (sym (c.loop-i.invariant ∙ ap (pass p line) (next_entry i point ranks within))) (tells_stop p line xs ys c.in-Err.error told)

pub loop-i-preserved : goal.loop-i-preserved
loop-i-preserved c =
    let p = program_tree c.args.program.now in
    let point = c.args.cert.now.point in
    let ranks = c.args.cert.now.ranks in
    let i = c.loop-i.i in
    let line = c.loop-i.line in
    let xs = loop_said (suc i) (loop_at point i) ++ first_ranks_said (suc i) (drop i ranks) in
    let ys = loops_said (suc (i + 1)) (drop (i + 1) point) (drop (i + 1) ranks) in
    let within : i < length point = search rules in
    let front : pass p line xs ≡ Ok c.in-Ok.next = search rules in
    c.loop-i.invariant ∙ ap (pass p line) (next_entry i point ranks within) ∙ passed p line c.in-Ok.next xs ys front
