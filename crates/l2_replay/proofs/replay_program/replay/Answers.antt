use Rattle.std.proofs.Common.{sym, subst}
use Rattle.l2_runs.specs.Fits.{StoreFits}
use Rattle.l2_runs.specs.Runs.{State}
use Rattle.l2_program.specs.Programs.{program_tree}
use Rattle.l2_meaning.proofs.Starts.{first_fits}
use Rattle.l2_replay.specs.Reach.{layout}
use Rattle.l2_replay.proofs.replay_program.replay.Goals as goal

pub run_program-requires-clause-fits : goal.run_program-requires-clause-fits
run_program-requires-clause-fits c =
    subst (λ (s : State). StoreFits (layout c.args.program.now) s.store) (sym c.new-m.ensures)
    (subst (λ store. StoreFits (layout c.args.program.now) store) (sym c.in_ok-first_store.ensures) (first_fits (program_tree c.args.program.now) c.requires))
