use Rattle.std.proofs.Common.{ap, sym, ◌∙◌}
use Rattle.std.specs.Prelude.{true, false, option_map}
use Rattle.l2_tree.specs.Units.{declarator_tree, initialiser_tree}
use Rattle.l2_tree_names.specs.Declarators.{name_of}
use Rattle.l2_types.specs.States.{saw}
use Rattle.l2_types.proofs.Steps.{go_on}
use Rattle.l2_types_declarations.specs.Initialisers.{item_tree, begins, without}
use Rattle.l2_types_declarations.specs.Declarations.{target_for}
use Rattle.l2_types_declarations.proofs.Declarators.{plain_declarator, initialised_declarator}
use Rattle.l2_types_declarations.proofs.Widened.{widened}
use Rattle.l2_types_declarations.proofs.declarations.declarator.Goals as goal

pub returns-in_ok-target-in-Plain : goal.returns-in_ok-target-in-Plain
returns-in_ok-target-in-Plain c = record {
  ok = plain_declarator c.args.word c.args.base c.args.is_const c.args.place c.args.d.now c.in-Plain.d c.args.table.now c.in-Plain.is
      ∙ go_on (target_for c.args.word false c.args.base c.args.is_const c.args.place (declarator_tree c.in-Plain.d) (name_of (declarator_tree c.in-Plain.d)) c.args.table.now)
      (λ o u. saw (without o) u) c.in_ok-target-in-Plain.target c.target_for.new.table c.in_ok-target-in-Plain.ensures.ok
      ∙ ap (λ z. saw z c.target_for.new.table) (sym c.without.ensures);
}

pub returns-in_ok-target-in-Initialised : goal.returns-in_ok-target-in-Initialised
returns-in_ok-target-in-Initialised c = record {
  ok = widened (option_map item_tree) _ _ c.begins.result c.begins.new.table
      (initialised_declarator c.args.word c.args.base c.args.is_const c.args.place c.args.d.now c.in-Initialised.d c.in-Initialised.field-1 c.in-Initialised.i c.args.table.now c.in-Initialised.is
      ∙ go_on (target_for c.args.word true c.args.base c.args.is_const c.args.place (declarator_tree c.in-Initialised.d) (name_of (declarator_tree c.in-Initialised.d)) c.args.table.now)
      (λ o u. begins o (initialiser_tree c.in-Initialised.i) u) c.in_ok-target-in-Initialised.target c.target_for-in-Initialised.new.table c.in_ok-target-in-Initialised.ensures.ok)
      c.begins.ensures.ok;
}
