use Rattle.std.proofs.Common.{◌∙◌, ap, map, List}
use Rattle.l2_program.specs.declared.program.LoopInfo.{LoopInfo}
use Rattle.l2_program.specs.Programs.{ProgramTree, function_tree, program_tree}
use Rattle.l2_meaning.specs.Changes.{take_sets}
use Rattle.l2_mods.specs.Walks.{sets_of_functions}
use Rattle.l2_mods.proofs.Sets.{same_sets}
use Rattle.l2_mods.proofs.program.with_loop_sets.Goals as goal

pub returns : goal.returns
returns c =
    ap {B = ProgramTree} (λ (loops : List LoopInfo). record (program_tree c.args.program) { loops = loops })
    (c.new.ensures ∙ c.take_sets.ensures ∙ ap (λ (xs : List LoopInfo). take_sets xs c.in_ok-sets.sets.items) c.into_vec.ensures
    ∙ ap (take_sets c.args.program.loops) (c.in_ok-sets.ensures
    ∙ ap (λ os. sets_of_functions os (map function_tree c.as_slice-2.result.now)) c.as_slice.ensures
    ∙ ap (λ fs. sets_of_functions c.args.program.objects (map function_tree fs)) c.as_slice-2.ensures
    ∙ same_sets (program_tree c.args.program) (map function_tree c.args.program.functions)))
