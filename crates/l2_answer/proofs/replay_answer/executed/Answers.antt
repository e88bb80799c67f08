use Rattle.std.proofs.Common.{◌≡◌, ◌∙◌, sym, ap, subst}
use Rattle.l2_runs.specs.Runs.{Over}
use Rattle.l2_runs.specs.Loops.{Real, no_tests}
use Rattle.l2_program.specs.Programs.{program_tree}
use Rattle.l2_meaning.specs.Execution.{exec}
use Rattle.l2_answer.specs.Printed.{ListsBroken}
use Rattle.l2_answer.proofs.Listed.{listed}
use Rattle.l2_answer.proofs.replay_answer.executed.Goals as goal

pub replay_line-requires : goal.replay_line-requires
replay_line-requires c =
    let p = program_tree c.args.program.now in
    let o = c.in_ok-replay.replay.outcome in
    let ends : (exec p Real no_tests c.as_slice.result.now c.args.values.now.turns).end ≡ Over o = sym (ap (λ e. e.end) c.in_ok-replay.ensures) in
    subst (λ checks. ListsBroken checks o) (sym c.as_slice-2.ensures)
    (listed p.checks o (λ n q. c.broken_checks_are_listed.ensures p c.requires Real no_tests tt c.as_slice.result.now c.args.values.now.turns n (ends ∙ ap Over q)))
