use Rattle.std.proofs.Common.{ap, sym, ◌∙◌}
use Rattle.l2_tree.specs.Units.{declarator_tree}
use Rattle.l2_types_declarations.specs.Forms.{is_lone}
use Rattle.l2_types_declarations.proofs.Suffixes.{lone_group}
use Rattle.l2_types_declarations.proofs.forms.+lone.Goals as goal

pub is_lone_core-returns-in-Group : goal.is_lone_core-returns-in-Group
is_lone_core-returns-in-Group t c =
    c.is_lone.ensures ∙ ap (λ z. is_lone (declarator_tree z)) c.deref.ensures ∙ sym (lone_group c.args.core.now c.in-Group.field-0 c.in-Group.inner c.in-Group.is)
