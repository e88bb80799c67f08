use Rattle.std.proofs.Common.{ap, ◌∙◌}
use Rattle.l2_tree.specs.Units.{expr_tree}
use Rattle.l2_tree.proofs.Expressions.{expr_tree-Call}
use Rattle.l2_build.proofs.made.call.Goals as goal

pub returns-clause-ok : goal.returns-clause-ok
returns-clause-ok c = ap expr_tree c.in_ok-new.ensures.ok ∙ expr_tree-Call c.args.function c.args.place c.args.arguments
