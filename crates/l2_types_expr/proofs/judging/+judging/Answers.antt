use Rattle.std.proofs.Common.{length, ap, sym, ◌∙◌, arith}
use Rattle.l2_tree.specs.Trees.{no_exprs, first_specifier, first_enumerator}
use Rattle.l2_tree.specs.Units.{expr_tree, exprs_onto, specifier_tree, specifiers_onto, specifiers_tree, enumerator_tree, enumerators_onto, enumerators_tree}
use Rattle.l2_types.specs.States.{saw, state_of}
use Rattle.l2_types.proofs.Steps.{go_on, state_seen}
use Rattle.l2_types_expr.specs.TypeNames.{plain_type, function_of}
use Rattle.l2_types_expr.specs.Expressions.{specified, enumerators}
use Rattle.l2_types_expr.proofs.Arguments.{more_arguments, call_seen, weight-Call}
use Rattle.l2_types_expr.proofs.Bodies.{body_is}
use Rattle.l2_types_expr.proofs.Names.{plain_name, declared_name}
use Rattle.l2_types_expr.proofs.Weights.{weight, weights, weight_at, specifier_weight, specifiers_weight, first_specifier_weight, specifier_at, enumerator_weight, enumerators_weight, first_enumerator_weight, enumerator_at}
use Rattle.l2_types_expr.proofs.judging.+judging.Goals as goal

pub arguments-argument-requires : goal.arguments-argument-requires
arguments-argument-requires t c =
    let w = weight_at no_exprs c.args.all.now c.loop-e.e-index c.e-item.result c.loop-e-test.true c.e-item.is in
    (omega arith, tt)

pub arguments-loop-e-preserved : goal.arguments-loop-e-preserved
arguments-loop-e-preserved t c = record {
  at = omega arith;
  so_far = rw c.in_ok-push.ensures.items (more_arguments c.args.meaning (length c.args.all.now) c.loop-e.i c.loop-e.e-index c.args.all.now c.e-item.result c.loop-e.out.items c.in_ok-x.x c.loop-e.table c.argument.new.table c.wanted-want.result _ c.loop-e-test.true c.e-item.is c.wanted-want.ensures c.in_ok-x.ensures.ok c.loop-e.invariant.so_far);
}

pub judge-returns-in-Call : goal.judge-returns-in-Call
judge-returns-in-Call t c = record {
  ok = call_seen c.args.e.now c.in-Call.f c.in-Call.place c.in-Call.all c.deref-in-Call.result.now c.deref-in-Call-2.result.now c.args.table.now c.call.new.table c.call.result
      c.in-Call.is c.deref-in-Call.ensures c.deref-in-Call-2.ensures.value c.call.ensures.ok;
}

pub judge-call-requires : goal.judge-call-requires
judge-call-requires t c =
    let w = weight-Call c.args.e.now c.in-Call.f c.in-Call.place c.in-Call.all c.in-Call.is in
    let a = ap (λ x. weight (expr_tree x)) c.deref-in-Call.ensures in
    let b = ap (λ xs. weights (exprs_onto no_exprs xs)) c.deref-in-Call-2.ensures.value in
    (omega arith, tt)

pub enum_body-returns-in_ok-enumerators-in-EnumBody : goal.enum_body-returns-in_ok-enumerators-in-EnumBody
enum_body-returns-in_ok-enumerators-in-EnumBody t c = record {
  ok = sym (body_is c.args.x.now c.in-EnumBody.field-0 c.in-EnumBody.tag c.in-EnumBody.field-2 c.in-EnumBody.all c.in-EnumBody.field-4 c.args.table.now c.in-EnumBody.is
      ∙ ap (λ z. state_of (enumerators (enumerators_tree c.in-EnumBody.all) z)) (sym c.in_ok-with_enum_tag-in-EnumBody.ensures.ok)
      ∙ state_seen _ _ _ c.in_ok-enumerators-in-EnumBody.ensures.ok);
}

pub enumerated-enum_body-requires : goal.enumerated-enum_body-requires
enumerated-enum_body-requires t c =
    let w = first_specifier_weight c.args.all.now in
    let e = ap (λ x. specifier_weight (specifier_tree x)) c.deref.ensures in
    (omega arith, tt)

pub enumerated-enum_body-requires-in-loop-x : goal.enumerated-enum_body-requires-in-loop-x
enumerated-enum_body-requires-in-loop-x t c =
    let w = specifier_at (first_specifier (specifier_tree c.args.all.now.first.value)) c.as_slice-x-items.result.now c.loop-x.x-index c.x-item.result c.loop-x-test.true c.x-item.is in
    let v = ap (λ l. specifiers_weight (specifiers_onto (first_specifier (specifier_tree c.args.all.now.first.value)) l)) c.as_slice-x-items.ensures.value in
    (omega arith, tt)

pub enumerators-enumerator-requires : goal.enumerators-enumerator-requires
enumerators-enumerator-requires t c =
    let w = first_enumerator_weight c.args.all.now in
    let e = ap (λ x. enumerator_weight (enumerator_tree x)) c.deref.ensures in
    (omega arith, tt)

pub enumerators-enumerator-requires-in-loop-e : goal.enumerators-enumerator-requires-in-loop-e
enumerators-enumerator-requires-in-loop-e t c =
    let w = enumerator_at (first_enumerator (enumerator_tree c.args.all.now.first.value)) c.as_slice-e-items.result.now c.loop-e.e-index c.e-item.result c.loop-e-test.true c.e-item.is in
    let v = ap (λ l. enumerators_weight (enumerators_onto (first_enumerator (enumerator_tree c.args.all.now.first.value)) l)) c.as_slice-e-items.ensures.value in
    (omega arith, tt)

pub type_name-returns-in_ok-base-in-Plain : goal.type_name-returns-in_ok-base-in-Plain
type_name-returns-in_ok-base-in-Plain t c = record {
  ok = plain_name c.args.t.now c.in-Plain.all c.args.table.now c.in-Plain.is
      ∙ go_on (specified (specifiers_tree c.in-Plain.all) c.args.table.now) (λ b u. saw (plain_type b) u) _ _ c.in_ok-base-in-Plain.ensures.ok
      ∙ ap (λ z. saw z c.specified.new.table) (sym c.plain_type.ensures);
}

pub type_name-returns-in_ok-base-in-Declared : goal.type_name-returns-in_ok-base-in-Declared
type_name-returns-in_ok-base-in-Declared t c = record {
  ok = declared_name c.args.t.now c.in-Declared.all c.in-Declared.field-1 c.args.table.now c.in-Declared.is
      ∙ go_on (specified (specifiers_tree c.in-Declared.all) c.args.table.now) (λ b u. saw (function_of b) u) _ _ c.in_ok-base-in-Declared.ensures.ok
      ∙ ap (λ z. saw z c.specified-in-Declared.new.table) (sym c.function_of.ensures);
}
