use Rattle.l2_turn_engine.proofs.AtBottom as bottom
use Rattle.l2_turn_engine.proofs.tells.none_at_bottom.Goals as goal

pub returns : goal.returns
returns c = bottom.none_at_bottom
