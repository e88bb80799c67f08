use Rattle.std.proofs.Common.{map, ap, ◌∙◌}
use Rattle.l2_program.specs.Programs.{program_tree, function_tree}
use Rattle.l2_meaning.specs.Execution.{main_among}
use Rattle.l2_lower.proofs.MainCode.{main_typed, few_cells}
use Rattle.l2_lower.proofs.lowering.program_code.Goals as goal

pub main_code-requires-clause-few : goal.main_code-requires-clause-few
main_code-requires-clause-few c = few_cells (program_tree c.args.p.now) c.requires

pub main_code-requires-clause-typed : goal.main_code-requires-clause-typed
main_code-requires-clause-typed c =
    main_typed c.args.p.now c.in-Some.f.now c.requires
    (c.in-Some.ensures ∙ ap (λ names. main_among names (map function_tree c.as_slice-2.result.now)) c.as_slice.ensures
    ∙ ap (λ functions. main_among c.args.p.now.names (map function_tree functions)) c.as_slice-2.ensures)
