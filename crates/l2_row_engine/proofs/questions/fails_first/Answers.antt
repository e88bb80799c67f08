use Rattle.l2_row_engine.proofs.Answering as asked
use Rattle.l2_row_engine.proofs.questions.fails_first.Goals as goal

pub clause-requires : goal.clause-requires
clause-requires c =
    asked.first_within _ _ _ c.args.point.now _ c.in_ok-goals.goals.base c.in_ok-goals.goals.last c.in_ok-goals.ensures c.in_ok-shared.shared c.in_ok-shared.ensures c.args.l c.in_ok-i.i c.in_ok-i.ensures c.requires.inside c.requires.some

pub returns : goal.returns
returns c =
    asked.first_is _ _ _ c.args.point.now _ c.in_ok-goals.goals.base c.in_ok-goals.goals.last c.in_ok-goals.ensures c.in_ok-shared.shared c.in_ok-shared.ensures c.meets.result c.args.l c.in_ok-i.i c.clause.result.now c.in_ok-i.ensures c.requires.inside c.requires.some c.clause.ensures c.meets.ensures.is
