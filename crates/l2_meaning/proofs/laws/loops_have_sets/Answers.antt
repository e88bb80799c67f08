use Rattle.l2_meaning.proofs.LoopObjects.{loop_objects}
use Rattle.l2_meaning.proofs.laws.loops_have_sets.Goals as goal

pub returns : goal.returns
returns c = loop_objects
