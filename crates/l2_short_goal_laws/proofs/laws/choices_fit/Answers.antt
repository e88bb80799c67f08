use Rattle.std.proofs.Common.{pos}
use Rattle.l2_circuit_laws.specs.Values.{values, number}
use Rattle.l2_short_goal_laws.proofs.laws.choices_fit.Goals as goal

pub returns : goal.returns
returns c = λ v x. (c.wrap_is_the_only_value.ensures.exists x.ty (pos (number (values v x.word)))).value
