use Rattle.l2_grammar.proofs.Fed.{reads}
use Rattle.l2_grammar.proofs.Reading.{spelled}
use Rattle.l2_grammar.proofs.laws.read_law.Goals as goal

pub returns : goal.returns
returns c = (λ ts u. (reads ts u, spelled ts u))
