use Rattle.std.proofs.Common.{ap, ◌∙◌}
use Rattle.l2_tree.specs.Units.{stmt_tree}
use Rattle.l2_tree.proofs.Statements.{stmt_tree-IfElse}
use Rattle.l2_build_unit.proofs.made.chosen_or.Goals as goal

pub returns-clause-ok : goal.returns-clause-ok
returns-clause-ok c = ap stmt_tree c.in_ok-new.ensures.ok ∙ stmt_tree-IfElse c.args.first c.args.others c.args.otherwise
