use Rattle.l2_grammar.proofs.Limits.{reads_within, within_reads}
use Rattle.l2_grammar.proofs.laws.within_law.Goals as goal

pub returns : goal.returns
returns c = (λ ts u. (reads_within ts u, λ p. within_reads ts u p.0 p.1))
