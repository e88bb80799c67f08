use Rattle.l2_tree_laws.proofs.Firstly.{initialiser_starts}
use Rattle.l2_tree_laws.proofs.places.initialiser_place_law.Goals as goal

pub returns : goal.returns
returns c = λ s x. (initialiser_starts s x).starts
