-- Initialisers of variables of one cell (C11 6.7.9).
use Rattle.std.specs.Prelude.{ℕ, Option, Some, None}
use Rattle.l2_bits.specs.Operators.{convert}
use Rattle.l2_syntax.specs.declared.place.Place.{Place}
use Rattle.l2_syntax.specs.declared.token.Scalar.{Scalar}
use Rattle.l2_syntax.specs.declared.refusal.Rule.TheVariants.{BadType, Constant, Initialiser as InitialiserRule}
use Rattle.l2_runs.specs.declared.cells.CellValue.TheVariants as cell
use Rattle.l2_tree.specs.Trees.{ExprTree, InitialiserTree, Expression, Braced, InitialiserTrees, first_initialiser, and_initialiser}
use Rattle.l2_tree_laws.specs.Places.{first_place, initialiser_place}
use Rattle.l2_types.specs.declared.types.CType.TheVariants.{Void, Integer}
use Rattle.l2_types.specs.declared.state.Want.TheVariants.{Fitting}
use Rattle.l2_types.specs.Types.{type_of_scalar}
use Rattle.l2_types.specs.Trees.{TypedTree}
use Rattle.l2_types.specs.States.{State, Seen, saw, next, state_of, with_fault, unevaluated}
use Rattle.l2_types.specs.Founds.{with_static}
use Rattle.l2_types.specs.Meant.{OperandTree, NoValue, Of, valued}
use Rattle.l2_constants.specs.declared.constants.Folded.{Folded}
use Rattle.l2_constants.specs.declared.constants.Folded.TheVariants.{Varies, Breaks, Number}
use Rattle.l2_constants.specs.Constants.{fold}
use Rattle.l2_calls.specs.Calls.{fitted}
use Rattle.l2_types_expr.specs.Expressions.{judge}
use Rattle.l2_types_declarations.specs.declared.types.Item.{Item}
use Rattle.l2_types_declarations.specs.declared.types.Item.TheVariants as item
use Rattle.l2_types_declarations.specs.declared.types.Target.{Target}
use Rattle.l2_types_declarations.specs.declared.types.Target.TheVariants as target
use Rattle.l2_types.specs.Trees.{typed_tree}

-- what a declaration does where it is reached: it declares a variable, one of static storage, or one with a value
pub data ItemTree : Type 0 where
  Declare : ℕ → ItemTree
  Static : ℕ → ItemTree
  Initialise : ℕ → TypedTree → ItemTree

abbrev pub item_tree : Item → ItemTree
item_tree (item.Declare k) = Declare k
item_tree (item.Static k) = Static k
item_tree (item.Initialise k e) = Initialise k (typed_tree e.value)

-- ---- the one item of a scalar's initialiser, and what there is too much

abbrev pub first_item : InitialiserTrees → Option ExprTree
first_item (first_initialiser (Expression e)) = Some e
first_item (first_initialiser (Braced p is b)) = None
first_item (and_initialiser is i) = first_item is

abbrev pub item_of : InitialiserTree → Option ExprTree
item_of (Expression e) = Some e
item_of (Braced p is b) = first_item is

abbrev mutual
  -- all expressions of an initialiser
  pub looked : InitialiserTree → State → State
  looked (Expression e) s = state_of (judge e s)
  looked (Braced p is b) s = all_looked is s

  pub all_looked : InitialiserTrees → State → State
  all_looked (first_initialiser i) s = looked i s
  all_looked (and_initialiser is i) s = looked i (all_looked is s)

-- `initialiser` at the first token of an item that has no place
abbrev pub misplaced : InitialiserTree → State → State
misplaced i s = looked i (with_fault (initialiser_place i) InitialiserRule s)

abbrev pub unless_expression : InitialiserTree → State → State
unless_expression (Expression e) s = s
unless_expression (Braced p is b) s = misplaced (Braced p is b) s

abbrev pub items_surplus : InitialiserTrees → State → State
items_surplus (first_initialiser i) s = unless_expression i s
items_surplus (and_initialiser is i) s = misplaced i (items_surplus is s)

abbrev pub surplus : InitialiserTree → State → State
surplus (Expression e) s = s
surplus (Braced p is b) s = items_surplus is s

-- ---- the value

abbrev pub started : ℕ → Scalar → ExprTree → State → Seen ItemTree
started k a e s = next (valued (judge e s)) (λ x t. next (fitted (Fitting (Integer a)) (first_place e) x t) (λ y u. saw (Initialise k y) u))

abbrev pub declared_or_started : ℕ → Scalar → Option ExprTree → State → Seen ItemTree
declared_or_started k a None s = saw (Declare k) s
declared_or_started k a (Some e) s = started k a e s

-- a static variable begins with a constant
abbrev pub static_number : ℕ → Scalar → Place → Folded → State → State
static_number k a p Varies s = with_fault p InitialiserRule s
static_number k a p Breaks s = with_fault p Constant s
static_number k a p (Number v) s = with_static (record { object = k; offset = 0; value = cell.Number (convert (type_of_scalar a) v) }) s

abbrev pub static_value : ℕ → Scalar → Place → OperandTree → State → State
static_value k a p NoValue s = s
static_value k a p (Of Void x) s = with_fault p BadType s
static_value k a p (Of (Integer b) x) s = static_number k a p (fold s.overflow x) s

abbrev pub static_started : ℕ → Scalar → ExprTree → State → State
static_started k a e s = state_of (next (valued (judge e s)) (λ x t. saw x (static_value k a (first_place e) x (unevaluated s t))))

abbrev pub static_or_started : ℕ → Scalar → Option ExprTree → State → State
static_or_started k a None s = s
static_or_started k a (Some e) s = static_started k a e s

-- ---- initialisers

abbrev pub begins : Target → InitialiserTree → State → Seen (Option ItemTree)
begins target.Nothing i s = saw None (looked i s)
-- a function has no value
begins target.Function i s = saw None (looked i (with_fault (initialiser_place i) BadType s))
begins (target.Automatic k a) i s = next (declared_or_started k a (item_of i) s) (λ x t. saw (Some x) (surplus i t))
begins (target.Permanent k a) i s = saw (Some (Static k)) (surplus i (static_or_started k a (item_of i) s))

abbrev pub without : Target → Option ItemTree
without target.Nothing = None
without target.Function = None
without (target.Automatic k a) = Some (Declare k)
without (target.Permanent k a) = Some (Static k)
