use Rattle.std.proofs.Common.{ap, ◌∙◌}
use Rattle.l2_tree.specs.Units.{parameter_tree}
use Rattle.l2_tree.proofs.Declarations.{parameter_tree-Declared}
use Rattle.l2_build.proofs.made.with_declarator.Goals as goal

pub returns-clause-ok : goal.returns-clause-ok
returns-clause-ok c = ap parameter_tree c.in_ok-new.ensures.ok ∙ parameter_tree-Declared c.args.specifiers c.args.declarator
