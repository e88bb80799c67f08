use Rattle.l2_tree_laws.proofs.Firstly.{parameter_starts}
use Rattle.l2_tree_laws.proofs.places.parameter_place_law.Goals as goal

pub returns : goal.returns
returns c = λ s x. (parameter_starts s x).starts
