use Rattle.l2_pieces.proofs.Cuts.{place_law}
use Rattle.l2_pieces.proofs.laws.place_law.Goals as goal

pub returns : goal.returns
returns c = place_law
