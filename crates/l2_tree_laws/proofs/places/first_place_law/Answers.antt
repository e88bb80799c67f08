use Rattle.l2_tree_laws.proofs.Firstly.{expr_starts}
use Rattle.l2_tree_laws.proofs.places.first_place_law.Goals as goal

pub returns : goal.returns
returns c = λ s x. (expr_starts s x).starts
