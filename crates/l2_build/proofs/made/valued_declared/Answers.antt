use Rattle.l2_tree.proofs.Declarations.{declared_tree-Initialised}
use Rattle.l2_build.proofs.made.valued_declared.Goals as goal

pub returns : goal.returns
returns c = declared_tree-Initialised c.args.declarator c.args.place c.args.value
