use Rattle.std.proofs.Common.{◌≡◌, ◌+◌, ◌*◌, length, drop}
use Rattle.l2_tree.specs.Trees.{no_exprs}
use Rattle.l2_tree.specs.Units.{expr_tree, exprs_onto, parameter_tree, specifier_tree, specifiers_tree, enumerator_tree, enumerators_tree}
use Rattle.l2_types.specs.Trees.{no_trees, typed_onto}
use Rattle.l2_types.specs.States.{saw}
use Rattle.l2_types_expr.specs.Expressions.{arguments, enumerated, enumerators}
use Rattle.l2_types_expr.proofs.Arguments.{arguments_from}
use Rattle.l2_types_expr.proofs.Bodies.{enumerators_from, enumerated_from}
use Rattle.l2_types_expr.proofs.Weights.{weight, weights, type_weight, specifiers_weight, specifier_weight, enumerators_weight, enumerator_weight}
use Rattle.l2_types_expr.proofs.judging.+judging.Given as goal

abbrev pub decreases-judge : goal.decreases-judge
decreases-judge l = 8 * weight (expr_tree l.e.now)

abbrev pub decreases-argument : goal.decreases-argument
decreases-argument l = 8 * weight (expr_tree l.e.now) + 1

abbrev pub decreases-arguments : goal.decreases-arguments
decreases-arguments l = 8 * weights (exprs_onto no_exprs l.all.now) + 2

abbrev pub decreases-call_of_name : goal.decreases-call_of_name
decreases-call_of_name l = 8 * weights (exprs_onto no_exprs l.all.now) + 3

abbrev pub decreases-call_of_other : goal.decreases-call_of_other
decreases-call_of_other l = 8 * (weight (expr_tree l.f.now) + weights (exprs_onto no_exprs l.all.now)) + 3

abbrev pub decreases-call : goal.decreases-call
decreases-call l = 8 * (weight (expr_tree l.f.now) + weights (exprs_onto no_exprs l.all.now)) + 4

abbrev pub invariant-arguments-loop-e : goal.invariant-arguments-loop-e
invariant-arguments-loop-e l = record {
  at : l.i ≡ l.e-index;
  so_far : arguments_from l.meaning (length l.all) l.i (drop l.e-index l.all) (saw (typed_onto no_trees l.out.items) l.table)
      ≡ arguments l.meaning (length l.all) (exprs_onto no_exprs l.all) l.initial.table;
}

abbrev pub decreases-constant : goal.decreases-constant
decreases-constant l = 8 * weight (expr_tree l.e.now) + 1

abbrev pub decreases-enumerator : goal.decreases-enumerator
decreases-enumerator l = 8 * enumerator_weight (enumerator_tree l.e.now)

abbrev pub decreases-enumerators : goal.decreases-enumerators
decreases-enumerators l = 8 * enumerators_weight (enumerators_tree l.all.now) + 1

abbrev pub decreases-enum_body : goal.decreases-enum_body
decreases-enum_body l = 8 * specifier_weight (specifier_tree l.x.now) + 2

abbrev pub decreases-enumerated : goal.decreases-enumerated
decreases-enumerated l = 8 * specifiers_weight (specifiers_tree l.all.now) + 3

abbrev pub decreases-specified : goal.decreases-specified
decreases-specified l = 8 * specifiers_weight (specifiers_tree l.all.now) + 4

abbrev pub decreases-type_name : goal.decreases-type_name
decreases-type_name l = 8 * type_weight (parameter_tree l.t.now) + 5

abbrev pub invariant-enumerators-loop-e : goal.invariant-enumerators-loop-e
invariant-enumerators-loop-e l = enumerators_from (drop l.e-index l.all.rest.items) (saw l.value l.table) ≡ enumerators (enumerators_tree l.fn.all) l.fn.table

abbrev pub invariant-enumerated-loop-x : goal.invariant-enumerated-loop-x
invariant-enumerated-loop-x l = enumerated_from (drop l.x-index l.all.rest.items) l.table ≡ enumerated (specifiers_tree l.fn.all) l.fn.table
