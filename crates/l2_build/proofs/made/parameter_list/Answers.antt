use Rattle.l2_tree.proofs.Declarations.{suffix_tree-Parameters}
use Rattle.l2_build.proofs.made.parameter_list.Goals as goal

pub returns : goal.returns
returns c = suffix_tree-Parameters c.args.place c.args.parameters
