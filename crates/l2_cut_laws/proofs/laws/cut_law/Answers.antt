use Rattle.l2_cut_laws.proofs.Consequences.{cut_law, proves_safe}
use Rattle.l2_cut_laws.proofs.laws.cut_law.Goals as goal

pub returns-clause-breaks : goal.returns-clause-breaks
returns-clause-breaks c = cut_law

pub returns-clause-safe : goal.returns-clause-safe
returns-clause-safe c = proves_safe
