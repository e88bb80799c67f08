use Rattle.l2_tree_laws.proofs.Firstly.{type_starts}
use Rattle.l2_tree_laws.proofs.places.type_place_law.Goals as goal

pub returns : goal.returns
returns c = λ s x. (type_starts s x).starts
