use Rattle.std.proofs.Common.{ap, ◌∙◌}
use Rattle.l2_tree.specs.Units.{initialiser_tree}
use Rattle.l2_tree.proofs.Declarations.{initialiser_tree-Braced}
use Rattle.l2_build.proofs.made.braced.Goals as goal

pub returns-clause-ok : goal.returns-clause-ok
returns-clause-ok c = ap initialiser_tree c.in_ok-new.ensures.ok ∙ initialiser_tree-Braced c.args.place c.args.items c.args.comma
