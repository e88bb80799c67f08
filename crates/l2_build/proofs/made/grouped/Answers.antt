use Rattle.l2_tree.proofs.Declarations.{core_tree-Group}
use Rattle.l2_build.proofs.made.grouped.Goals as goal

pub returns : goal.returns
returns c = core_tree-Group c.args.place c.args.inner
