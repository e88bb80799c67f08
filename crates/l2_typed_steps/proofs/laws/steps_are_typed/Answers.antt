use Rattle.l2_typed_steps.proofs.Typed as typed
use Rattle.l2_typed_steps.proofs.laws.steps_are_typed.Goals as goal

pub returns : goal.returns
returns c = typed.steps_are_typed
