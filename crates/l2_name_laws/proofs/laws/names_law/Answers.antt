use Rattle.l2_name_laws.proofs.Lines.{domains_fit}
use Rattle.l2_name_laws.proofs.laws.names_law.Goals as goal

pub returns : goal.returns
returns c = domains_fit
