use Rattle.std.proofs.Common.{ap, sym, ◌∙◌, Some}
use Rattle.l2_tree.specs.Units.{suffix_tree}
use Rattle.l2_tree.proofs.Declarations.{suffix_tree-Parameters}
use Rattle.l2_tree_names.specs.Declarators.{behind, parameters_in}
use Rattle.l2_tree_names.proofs.declarators.suffix_parameters.Goals as goal

pub returns-in-Parameters : goal.returns-in-Parameters
returns-in-Parameters c = sym (ap (λ x. parameters_in (Some (behind (suffix_tree x)))) c.in-Parameters.is ∙ ap (λ x. parameters_in (Some (behind x))) (suffix_tree-Parameters c.in-Parameters.field-0 c.in-Parameters.list))
