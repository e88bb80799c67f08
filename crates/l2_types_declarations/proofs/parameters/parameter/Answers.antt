use Rattle.std.proofs.Common.{ap, sym, ◌∙◌}
use Rattle.l2_tree.specs.Units.{specifiers_tree, declarator_tree}
use Rattle.l2_tree_names.specs.Declarators.{name_of}
use Rattle.l2_types.proofs.Steps.{go_on}
use Rattle.l2_types_expr.specs.Expressions.{specified}
use Rattle.l2_types_declarations.specs.Forms.{has_const, type_start, is_bare}
use Rattle.l2_types_declarations.specs.Parameters.{unnamed, named}
use Rattle.l2_types_declarations.proofs.Rows.{plain_parameter, declared_parameter}
use Rattle.l2_types_declarations.proofs.Widened.{widened}
use Rattle.l2_types_declarations.proofs.parameters.parameter.Goals as goal

pub returns-in_ok-base-in-Plain : goal.returns-in_ok-base-in-Plain
returns-in_ok-base-in-Plain c = record {
  ok = widened (λ o. o) _ _ c.unnamed.result c.unnamed.new.table
      (plain_parameter c.args.is_object c.args.is_alone c.args.x.now c.in-Plain.all c.args.table.now c.in-Plain.is
      ∙ go_on (specified (specifiers_tree c.in-Plain.all) c.args.table.now) (λ b u. unnamed c.args.is_alone b (type_start (specifiers_tree c.in-Plain.all)) u) c.in_ok-base-in-Plain.base c.specified.new.table c.in_ok-base-in-Plain.ensures.ok
      ∙ ap (λ p. unnamed c.args.is_alone c.in_ok-base-in-Plain.base p c.specified.new.table) (sym c.type_start.ensures))
      c.unnamed.ensures.ok;
}

pub returns-in_ok-base-in-Declared : goal.returns-in_ok-base-in-Declared
returns-in_ok-base-in-Declared c = record {
  ok = widened (λ o. o) _ _ c.named.result c.named.new.table
      (declared_parameter c.args.is_object c.args.is_alone c.args.x.now c.in-Declared.all c.in-Declared.d c.args.table.now c.in-Declared.is
      ∙ go_on (specified (specifiers_tree c.in-Declared.all) c.args.table.now)
      (λ b u. named c.args.is_object (name_of (declarator_tree c.in-Declared.d)) b (has_const (specifiers_tree c.in-Declared.all)) (is_bare (declarator_tree c.in-Declared.d)) (type_start (specifiers_tree c.in-Declared.all)) u)
      c.in_ok-base-in-Declared.base c.specified-in-Declared.new.table c.in_ok-base-in-Declared.ensures.ok
      ∙ ap (λ n. named c.args.is_object n c.in_ok-base-in-Declared.base (has_const (specifiers_tree c.in-Declared.all)) (is_bare (declarator_tree c.in-Declared.d)) (type_start (specifiers_tree c.in-Declared.all)) c.specified-in-Declared.new.table) (sym c.name_of.ensures)
      ∙ ap (λ k. named c.args.is_object c.name_of.result c.in_ok-base-in-Declared.base k (is_bare (declarator_tree c.in-Declared.d)) (type_start (specifiers_tree c.in-Declared.all)) c.specified-in-Declared.new.table) (sym c.has_const.ensures)
      ∙ ap (λ k. named c.args.is_object c.name_of.result c.in_ok-base-in-Declared.base c.has_const.result k (type_start (specifiers_tree c.in-Declared.all)) c.specified-in-Declared.new.table) (sym c.is_bare.ensures)
      ∙ ap (λ p. named c.args.is_object c.name_of.result c.in_ok-base-in-Declared.base c.has_const.result c.is_bare.result p c.specified-in-Declared.new.table) (sym c.type_start-in-Declared.ensures))
      c.named.ensures.ok;
}
