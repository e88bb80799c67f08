use Rattle.std.proofs.Common.{ap, sym, ◌∙◌}
use Rattle.l2_tree.specs.Units.{declarator_tree}
use Rattle.l2_types_declarations.specs.Forms.{is_bare}
use Rattle.l2_types_declarations.proofs.Suffixes.{bare_group}
use Rattle.l2_types_declarations.proofs.forms.+bare.Goals as goal

pub is_bare_core-returns-in-Group : goal.is_bare_core-returns-in-Group
is_bare_core-returns-in-Group t c =
    c.is_bare.ensures ∙ ap (λ z. is_bare (declarator_tree z)) c.deref.ensures ∙ sym (bare_group c.args.core.now c.in-Group.field-0 c.in-Group.inner c.in-Group.is)
