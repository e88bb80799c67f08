-- Calls of functions and of built-in names, when their arguments are known.
use Rattle.std.specs.Prelude.{ℕ, ◌==◌, Bool, true, false, Option, Some, None}
use Rattle.l2_syntax.specs.declared.place.Place.{Place}
use Rattle.l2_syntax.specs.declared.refusal.Rule.TheVariants.{UnknownName, BadType, Call as CallRule}
use Rattle.l2_runs.specs.declared.kind.Kind.TheVariants.{Assertion}
use Rattle.l2_tree.specs.Trees as tree
use Rattle.l2_tree.specs.Trees.{ExprTree}
use Rattle.l2_types.specs.declared.types.CType.TheVariants.{Void, Integer}
use Rattle.l2_types.specs.declared.state.Builtin.{Builtin}
use Rattle.l2_types.specs.declared.state.Builtin.TheVariants as name
use Rattle.l2_types.specs.declared.state.Meaning.{Meaning}
use Rattle.l2_types.specs.declared.state.Meaning.TheVariants as meaning
use Rattle.l2_types.specs.declared.state.Callable.{Callable}
use Rattle.l2_types.specs.declared.state.Callee.{Callee}
use Rattle.l2_types.specs.declared.state.Callee.TheVariants.{Named, Other}
use Rattle.l2_types.specs.declared.state.Want.{Want}
use Rattle.l2_types.specs.declared.state.Want.TheVariants.{Anything, Fitting, Testing, Literal}
use Rattle.l2_types.specs.Types.{type_of_scalar}
use Rattle.l2_types.specs.Trees.{TypedTree, TypedTrees, no_trees, and_tree, Call, Choice, Assert, Fail, Assume, Exit, Abort}
use Rattle.l2_types.specs.States.{State, Seen, saw, next, with_fault, with_call}
use Rattle.l2_types.specs.Meant.{MeantTree, Unknown, Value, OperandTree, NoValue, Of, integer, checked, converted}
use Rattle.l2_types.specs.Wants.{callable}

-- ---- how a call is spelt

abbrev pub callee : ExprTree → Callee
callee (tree.Name n p) = Named n p
callee (tree.Parenthesised p e) = callee e
callee _ = Other

abbrev pub is_literal : ExprTree → Bool
is_literal (tree.Text p) = true
is_literal (tree.Parenthesised p e) = is_literal e
is_literal _ = false

-- ---- arguments

-- `type` at the first token of an argument that doesn't fit
abbrev pub unfit : Place → State → Seen TypedTree
unfit p s = saw Abort (with_fault p BadType s)

abbrev pub fitted : Want → Place → OperandTree → State → Seen TypedTree
fitted w p NoValue s = saw Abort s
fitted Anything p (Of t x) s = saw x s
fitted Literal p (Of t x) s = saw x s
fitted Testing p (Of (Integer a) x) s = saw x s
fitted Testing p (Of Void x) s = unfit p s
fitted (Fitting (Integer a)) p (Of (Integer b) x) s = saw (converted b a x) s
fitted (Fitting Void) p (Of (Integer b) x) s = unfit p s
fitted (Fitting t) p (Of Void x) s = unfit p s

-- ---- calls

-- the arguments of a name that always fails aren't evaluated
abbrev pub fails : Option Meaning → Bool
fails (Some (meaning.Builtin name.ReachError)) = true
fails (Some (meaning.Builtin name.Fail)) = true
fails (Some (meaning.Builtin name.AssertFail)) = true
fails _ = false

-- `call`
abbrev pub unless_right : Bool → Place → State → State
unless_right true p s = s
unless_right false p s = with_fault p CallRule s

abbrev pub last_of : TypedTrees → TypedTree
last_of no_trees = Abort
last_of (and_tree xs x) = x

abbrev pub no_value : TypedTree → State → Seen MeantTree
no_value e s = saw (Value Void e) s

abbrev pub builtin : Builtin → Place → ℕ → TypedTrees → State → Seen MeantTree
builtin name.Assert p count xs s =
    next (checked (Some Assertion) p s) (λ c t. no_value (Assert c (last_of xs)) (unless_right (count == 1) p t))
builtin name.Assume p count xs s = no_value (Assume (last_of xs)) (unless_right (count == 1) p s)
builtin name.Exit p count xs s = no_value (Exit (last_of xs)) (unless_right (count == 1) p s)
builtin name.Abort p count xs s = no_value Abort (unless_right (count == 0) p s)
builtin name.ReachError p count xs s = next (checked (Some Assertion) p s) (λ c t. no_value (Fail c) (unless_right (count == 0) p t))
builtin name.Fail p count xs s = next (checked (Some Assertion) p s) (λ c t. no_value (Fail c) (unless_right (count == 0) p t))
builtin name.AssertFail p count xs s = next (checked (Some Assertion) p s) (λ c t. no_value (Fail c) (unless_right (count == 4) p t))
builtin (name.Choice k) p count xs s = integer k (Choice (type_of_scalar k)) (unless_right (count == 0) p s)

abbrev pub called_function : Option Callable → Place → TypedTrees → State → Seen MeantTree
called_function None p xs s = saw Unknown (with_fault p CallRule s)
called_function (Some g) p xs s = saw (Value g.result (Call g.number xs)) (with_call g.number p (unless_right g.fits p s))

abbrev pub called : Option Meaning → Place → ℕ → TypedTrees → State → Seen MeantTree
called None p count xs s = saw Unknown (with_fault p UnknownName s)
called (Some (meaning.Function f)) p count xs s = called_function (callable s f count) p xs s
called (Some (meaning.Builtin b)) p count xs s = builtin b p count xs s
called (Some _) p count xs s = saw Unknown (with_fault p CallRule s)
