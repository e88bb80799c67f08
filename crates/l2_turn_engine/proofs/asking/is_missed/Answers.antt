use Rattle.l2_turn_engine.proofs.Numbered.{met_as}
use Rattle.l2_turn_engine.proofs.asking.is_missed.Goals as goal

pub returns : goal.returns
returns c = met_as c.meets.result c.args.goals.now.base c.args.goals.now.last _ c.in_ok-shared.shared c.in_ok-index.index _ c.in_ok-shared.ensures c.in_ok-index.ensures c.clause.ensures c.meets.ensures.is
