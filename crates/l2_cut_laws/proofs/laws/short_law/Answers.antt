use Rattle.l2_cut_laws.proofs.TreeShort.{short_law}
use Rattle.l2_cut_laws.proofs.laws.short_law.Goals as goal

pub returns : goal.returns
returns c = short_law
