use Rattle.l2_words_laws.proofs.Usage.{usage}
use Rattle.l2_words_laws.proofs.laws.usage_law.Goals as goal

pub returns : goal.returns
returns c = usage
