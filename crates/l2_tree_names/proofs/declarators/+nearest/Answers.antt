use Rattle.std.proofs.Common.{ap, sym, ◌∙◌}
use Rattle.std.specs.Prelude.{option_map}
use Rattle.l2_tree.specs.Units.{core_tree, declarator_tree}
use Rattle.l2_tree.proofs.Declarations.{core_tree-Group}
use Rattle.l2_tree_names.specs.Declarators.{nearest, core_nearest}
use Rattle.l2_tree_names.specs.Rounds.{round_tree}
use Rattle.l2_tree_names.proofs.Rounds.{by_around}
use Rattle.l2_tree_names.proofs.declarators.+nearest.Goals as goal

pub returns-in-Group : goal.returns-in-Group
returns-in-Group t c =
    c.around.ensures ∙ by_around (option_map round_tree c.nearest.result) (core_nearest (core_tree c.args.d.now.core)) c.deref-in-Group.result.now c.args.d.now.suffixes.items c.deref-in-Group-2.result.now c.args.d.now.pointers.items
    (c.nearest.ensures ∙ ap (λ x. nearest (declarator_tree x)) c.deref.ensures ∙ sym (ap core_nearest (ap core_tree c.in-Group.is ∙ core_tree-Group c.in-Group.field-0 c.in-Group.inner))) c.deref-in-Group.ensures.value c.deref-in-Group-2.ensures.value
