-- Labels, jumps and the expressions of statements (C11 6.8).
use Rattle.std.specs.Prelude.{ℤ, pos, Bool, true, false, Option, Some, None}
use Rattle.l2_bits.specs.Operators.{convert}
use Rattle.l2_syntax.specs.declared.place.Place.{Place}
use Rattle.l2_syntax.specs.declared.refusal.Rule.TheVariants.{BadType, Label as LabelRule}
use Rattle.l2_tree.specs.Trees.{ExprTree}
use Rattle.l2_tree_laws.specs.Places.{first_place}
use Rattle.l2_types.specs.declared.types.CType.{CType}
use Rattle.l2_types.specs.declared.types.CType.TheVariants.{Void, Integer}
use Rattle.l2_types.specs.declared.state.Want.TheVariants.{Testing, Fitting}
use Rattle.l2_types.specs.Types.{type_of_scalar, promoted}
use Rattle.l2_types.specs.Trees.{TypedTree, Abort}
use Rattle.l2_types.specs.States.{State, Seen, saw, next, with_fault}
use Rattle.l2_types.specs.Switches.{jump, with_value, the_default}
use Rattle.l2_types.specs.Meant.{OperandTree, NoValue, Of, valued, converted}
use Rattle.l2_calls.specs.Calls.{fitted}
use Rattle.l2_types_expr.specs.Expressions.{judge}
use Rattle.l2_types_statements.specs.declared.checked.Cases.{Cases}
use Rattle.l2_types_statements.specs.declared.checked.Cases.TheVariants.{Absent, Unknown, Of as OfType}
use Rattle.l2_types_statements.specs.declared.checked.Setting.{Setting}
use Rattle.l2_types_statements.specs.Trees.{CheckedTree, Evaluate, Empty, Return, ReturnValue}

-- ---- where statements stand

-- the items of a block
abbrev pub inside : Setting → Setting
inside w = record w { cases = w.opens; opens = Absent }

abbrev pub behind_label : Setting → Setting
behind_label w = record w { opens = Absent }

-- the statement of a branch
abbrev pub apart : Setting → Setting
apart w = record w { cases = Absent; opens = Absent }

abbrev pub looping : Setting → Setting
looping w = record w { breaks = true; continues = true; cases = Absent; opens = Absent }

abbrev pub switching : Cases → Setting → Setting
switching c w = record w { breaks = true; cases = Absent; opens = c }

-- ---- labels

abbrev pub case_label : Cases → Place → Option ℤ → State → State
case_label Absent p v s = with_fault p LabelRule s
case_label Unknown p v s = jump p s
case_label (OfType a) p None s = jump p s
case_label (OfType a) p (Some v) s = with_value p (convert (type_of_scalar a) v) (jump p s)

-- a value as a case's
abbrev pub case_value : Cases → Option ℤ → ℤ
case_value (OfType a) (Some v) = convert (type_of_scalar a) v
case_value c v = pos 0

abbrev pub default_label : Cases → Place → State → State
default_label Absent p s = with_fault p LabelRule s
default_label Unknown p s = the_default p (jump p s)
default_label (OfType a) p s = the_default p (jump p s)

-- a declaration that stands directly in a switch's block
abbrev pub declared : Cases → State → State
declared Absent s = s
declared Unknown s = record s { has_declared = true }
declared (OfType a) s = record s { has_declared = true }

-- `label` at a `break` or `continue` without its statement
abbrev pub unless_may : Bool → Place → State → State
unless_may true p s = s
unless_may false p s = with_fault p LabelRule s

-- what was known of the switch that stands round is known again
abbrev pub ended : State → State → State
ended before after = record after { values = before.values; has_default = before.has_default; has_declared = before.has_declared }

-- ---- expressions of statements

abbrev pub evaluated : OperandTree → CheckedTree
evaluated NoValue = Empty
evaluated (Of t x) = Evaluate x

-- a controlling expression
abbrev pub tested : ExprTree → State → Seen TypedTree
tested e s = next (valued (judge e s)) (λ x t. fitted Testing (first_place e) x t)

abbrev pub perhaps_tested : Option ExprTree → State → Seen (Option TypedTree)
perhaps_tested None s = saw None s
perhaps_tested (Some e) s = next (tested e s) (λ x t. saw (Some x) t)

abbrev pub perhaps_value : OperandTree → Option TypedTree
perhaps_value NoValue = None
perhaps_value (Of t x) = Some x

abbrev pub perhaps_evaluated : Option ExprTree → State → Seen (Option TypedTree)
perhaps_evaluated None s = saw None s
perhaps_evaluated (Some e) s = next (valued (judge e s)) (λ x t. saw (perhaps_value x) t)

-- the expression of a `switch` is promoted
abbrev pub switched : OperandTree → TypedTree
switched NoValue = Abort
switched (Of Void x) = x
switched (Of (Integer a) x) = converted a (promoted a) x

abbrev pub cases_of : Place → OperandTree → State → Seen Cases
cases_of p NoValue s = saw Unknown s
cases_of p (Of Void x) s = saw Unknown (with_fault p BadType s)
cases_of p (Of (Integer a) x) s = saw (OfType (promoted a)) s

-- ---- `return`

abbrev pub returned : CType → Place → Place → OperandTree → State → Seen CheckedTree
returned Void p q x s = saw Return (with_fault p BadType s)
returned (Integer a) p q x s = next (fitted (Fitting (Integer a)) q x s) (λ y t. saw (ReturnValue y) t)

abbrev pub nothing_returned : CType → Place → State → State
nothing_returned Void p s = s
nothing_returned (Integer a) p s = with_fault p BadType s
