use Rattle.std.proofs.Common.{◌∙◌}
use Rattle.l2_program.specs.Programs.{program_tree}
use Rattle.l2_code.specs.Trees.{code_of}
use Rattle.l2_missed.proofs.Asking.{of_none, of_some}
use Rattle.l2_engine.proofs.Answering.{none_breaks, model_breaks}
use Rattle.l2_engine.proofs.short.short_break.Goals as goal

pub returns-in-None : goal.returns-in-None
returns-in-None c =
    none_breaks (program_tree c.args.task.now.program) (code_of c.args.task.now.code) c.args.task.now.sets c.shorts.ensures.belongs c.args.k c.requires.some c.in_ok-shorts.shorts c.in_ok-shorts.ensures.k c.in_ok-shorts.ensures.is c.in_ok-shared.shared c.in_ok-shared.ensures
    c.runs_have_models.ensures c.len-count.result c.len-count.ensures.len (of_none c.in_ok-first_met.field-0 _ _ c.in_ok-first_met.ensures.is c.in-None.is)

pub returns : goal.returns
returns c =
    let met = of_some c.in_ok-first_met.field-0 c.in-Some.met _ _ c.in_ok-first_met.ensures.is c.in-Some.is in
    model_breaks (program_tree c.args.task.now.program) (code_of c.args.task.now.code) c.args.task.now.sets c.shorts.ensures.belongs c.args.k c.requires.some c.in_ok-shorts.shorts c.in_ok-shorts.ensures.k c.in_ok-shorts.ensures.is c.in_ok-shared.shared c.in_ok-shared.ensures
    c.models_find.ensures c.in_ok-shorts.ensures.small c.len-count.result c.in-Some.met.index c.len-count.ensures.len met.0 c.in-Some.met.values met.1 c.in_ok-found-in-Some.found c.in_ok-found-in-Some.ensures.choices c.in_ok-found-in-Some.ensures.turns (c.in_ok-found-in-Some.ensures.check ∙ c.in_ok-check-in-Some.ensures)
