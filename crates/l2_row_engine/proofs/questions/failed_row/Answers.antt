use Rattle.l2_program.specs.Programs.{program_tree}
use Rattle.l2_code.specs.Sets.{family}
use Rattle.l2_missed.proofs.Asking.{of_none, of_some}
use Rattle.l2_row_engine.proofs.Answering as asked
use Rattle.l2_row_engine.proofs.questions.failed_row.Goals as goal

pub first_met-requires : goal.first_met-requires
first_met-requires c = asked.within _ _ _ c.args.point.now _ c.in_ok-goals.goals.base c.in_ok-goals.goals.last c.in_ok-goals.ensures _ c.in_ok-shared.ensures c.len.result c.in_ok-rows.rows c.in_ok-rows.ensures c.len.ensures

pub returns-in-None : goal.returns-in-None
returns-in-None c =
    asked.none_fails _ _ _ c.args.point.now _ c.in_ok-goals.goals.base c.in_ok-goals.goals.last c.in_ok-goals.ensures c.in_ok-shared.shared c.in_ok-shared.ensures c.len.result c.in_ok-rows.rows c.in_ok-rows.ensures c.len.ensures
    (of_none c.in_ok-first_met.field-0 _ _ c.in_ok-first_met.ensures.is c.in-None.is)

pub broken_at-requires : goal.broken_at-requires
broken_at-requires c =
    asked.index_within _ _ _ c.args.point.now _ c.in_ok-goals.goals.base c.in_ok-goals.goals.last c.in_ok-goals.ensures c.in_ok-shared.shared c.in_ok-shared.ensures c.len.result c.in_ok-rows.rows c.in-Some.met.index c.in_ok-rows.ensures c.len.ensures
    (of_some c.in_ok-first_met.field-0 c.in-Some.met _ _ c.in_ok-first_met.ensures.is c.in-Some.is).0

pub returns : goal.returns
returns c =
    asked.met_fails (program_tree c.args.cut.now.program) (family c.args.cut.now.sets).object c.args.cut.now.copies c.args.point.now _ c.in_ok-goals.goals.base c.in_ok-goals.goals.last c.in_ok-goals.ensures c.in_ok-shared.shared c.in_ok-shared.ensures (λ choices l row. c.row_law.ensures.failed (program_tree c.args.cut.now.program) (family c.args.cut.now.sets).object c.args.cut.now.copies c.args.point.now l row choices) c.in_ok-rows.rows c.in-Some.met.index _ _ c.in_ok-broken_at-in-Some.ensures
    (of_some c.in_ok-first_met.field-0 c.in-Some.met _ _ c.in_ok-first_met.ensures.is c.in-Some.is).0
