use Rattle.l2_given_steps.proofs.Choices.{choices_match}
use Rattle.l2_given_steps.proofs.laws.choices_match.Goals as goal

pub returns : goal.returns
returns c = choices_match
