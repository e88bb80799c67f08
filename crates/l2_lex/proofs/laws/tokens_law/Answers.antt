use Rattle.l2_lex.proofs.Names.{tokens_law}
use Rattle.l2_lex.proofs.laws.tokens_law.Goals as goal

pub returns : goal.returns
returns c = tokens_law
