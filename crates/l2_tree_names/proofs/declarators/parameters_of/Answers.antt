use Rattle.std.proofs.Common.{ap, sym, ◌∙◌, Some}
use Rattle.l2_tree.specs.Units.{declarator_tree}
use Rattle.l2_tree_names.specs.Declarators.{parameters_in}
use Rattle.l2_tree_names.specs.Rounds.{round_tree}
use Rattle.l2_tree_names.proofs.Rounds.{by_round}
use Rattle.l2_tree_names.proofs.declarators.parameters_of.Goals as goal

pub returns-in-Behind : goal.returns-in-Behind
returns-in-Behind c = c.suffix_parameters.ensures ∙ ap (λ r. parameters_in (Some (round_tree r))) (sym c.in-Behind.is) ∙ by_round c.nearest.result c.in-Some.round (declarator_tree c.args.d.now) c.in-Some.is c.nearest.ensures

pub returns-in-Before : goal.returns-in-Before
returns-in-Before c = ap (λ r. parameters_in (Some (round_tree r))) (sym c.in-Before.is) ∙ by_round c.nearest.result c.in-Some.round (declarator_tree c.args.d.now) c.in-Some.is c.nearest.ensures
