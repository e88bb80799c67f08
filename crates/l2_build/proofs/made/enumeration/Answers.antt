use Rattle.std.proofs.Common.{ap, ◌∙◌}
use Rattle.l2_tree.specs.Units.{specifier_tree}
use Rattle.l2_tree.proofs.Declarations.{specifier_tree-EnumBody}
use Rattle.l2_build.proofs.made.enumeration.Goals as goal

pub returns-clause-ok : goal.returns-clause-ok
returns-clause-ok c = ap specifier_tree c.in_ok-new.ensures.ok ∙ specifier_tree-EnumBody c.args.place c.args.tag c.args.brace c.args.enumerators c.args.comma
