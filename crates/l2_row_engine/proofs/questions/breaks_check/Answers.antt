use Rattle.l2_row_engine.proofs.Answering as asked
use Rattle.l2_row_engine.proofs.questions.breaks_check.Goals as goal

pub returns : goal.returns
returns c =
    asked.checks_are _ _ _ c.args.point.now _ c.in_ok-goals.goals.base c.in_ok-goals.goals.last c.in_ok-goals.ensures c.in_ok-shared.shared c.in_ok-shared.ensures c.len.result c.in_ok-rows.rows c.len-2.result c.in_ok-first.first c.is_some.result c.in_ok-rows.ensures c.len.ensures c.len-2.ensures.len c.is_some.ensures c.in_ok-first.ensures.is
