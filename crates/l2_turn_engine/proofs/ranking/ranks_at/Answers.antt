use Rattle.l2_turn_engine.proofs.Asked as asked
use Rattle.l2_turn_engine.proofs.ranking.ranks_at.Goals as goal

pub returns : goal.returns
returns c = asked.greedy c.rankings.result c.new-engine.result.cut c.args.cut c.args.point.now c.args.loops.now c.greedy_law.ensures c.new-engine.ensures c.requires.infers c.requires.loops c.rankings.ensures.is
