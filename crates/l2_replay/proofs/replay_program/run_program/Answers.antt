use Rattle.std.proofs.Common.{map, ap, ◌∙◌}
use Rattle.l2_program.specs.Programs.{function_tree}
use Rattle.l2_meaning.specs.Execution.{main_among}
use Rattle.l2_replay.proofs.Mains.{main_typed}
use Rattle.l2_replay.proofs.replay_program.run_program.Goals as goal

pub enter-requires-clause-typed : goal.enter-requires-clause-typed
enter-requires-clause-typed c =
    main_typed c.args.p.now c.in-Some.f.now c.requires.lawful
    (c.in-Some.ensures ∙ ap (λ names. main_among names (map function_tree c.as_slice-2.result.now)) c.as_slice.ensures
    ∙ ap (λ functions. main_among c.args.p.now.names (map function_tree functions)) c.as_slice-2.ensures)
