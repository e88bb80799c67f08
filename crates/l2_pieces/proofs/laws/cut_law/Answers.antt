use Rattle.l2_pieces.proofs.Cuts.{cut_law}
use Rattle.l2_pieces.proofs.laws.cut_law.Goals as goal

pub returns : goal.returns
returns c = cut_law
