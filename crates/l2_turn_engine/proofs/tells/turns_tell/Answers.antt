use Rattle.l2_turn_engine.proofs.Whole.{moves_tell, stays_tell}
use Rattle.l2_turn_engine.proofs.tells.turns_tell.Goals as goal

pub returns-clause-moves : goal.returns-clause-moves
returns-clause-moves c = moves_tell (record { turns = c.turns_are_runs.ensures; made = c.fills_mean.ensures.made; mean = c.fills_mean.ensures.mean; well_formed = c.code_is_well_formed.ensures })

pub returns-clause-stays : goal.returns-clause-stays
returns-clause-stays c = stays_tell (record { turns = c.turns_are_runs.ensures; made = c.fills_mean.ensures.made; mean = c.fills_mean.ensures.mean; well_formed = c.code_is_well_formed.ensures })
