use Rattle.l2_tree.proofs.Declarations.{declared_tree-Plain}
use Rattle.l2_build.proofs.made.plain_declared.Goals as goal

pub returns : goal.returns
returns c = declared_tree-Plain c.args.declarator
