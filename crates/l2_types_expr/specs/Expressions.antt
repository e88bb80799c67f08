-- What an expression stands for, with its faults, checks and calls: operands go from left to right.
use Rattle.std.specs.Prelude.{ℕ, ℤ, pos, ◌+◌, Bool, true, false, if◌then◌else◌, Option, Some, None}
use Rattle.l2_syntax.specs.declared.place.Place.{Place}
use Rattle.l2_tree.specs.Trees as tree
use Rattle.l2_tree.specs.Trees.{ExprTree, ExprTrees, no_exprs, and_expr, SpecifierTree, SpecifierTrees, first_specifier, and_specifier, EnumeratorTree, EnumeratorTrees, first_enumerator, and_enumerator, ParameterTree}
use Rattle.l2_types.specs.declared.typed.Gives.TheVariants.{Before, After}
use Rattle.l2_types.specs.declared.state.Meaning.{Meaning}
use Rattle.l2_types.specs.declared.state.Callee.{Callee}
use Rattle.l2_types.specs.declared.state.Callee.TheVariants.{Named, Other}
use Rattle.l2_types.specs.declared.state.Want.{Want}
use Rattle.l2_types.specs.declared.state.Want.TheVariants.{Literal}
use Rattle.l2_types.specs.Types.{type_of_scalar}
use Rattle.l2_types.specs.Operators.{class_of, step_of, assignment_of}
use Rattle.l2_types.specs.Trees.{TypedTree, Constant, Abort, TypedTrees, no_trees, and_tree}
use Rattle.l2_types.specs.States.{State, Seen, saw, next, lookup, unevaluated, state_of}
use Rattle.l2_types.specs.Meant.{MeantTree, Unknown, valued, wrong, integer, type_of}
use Rattle.l2_values.specs.Values.{named, binary, unary, conditional, comma, assign, stepped, sized}
use Rattle.l2_tree_laws.specs.Places.{first_place}
use Rattle.l2_tree_laws.specs.Specifiers.{base_of}
use Rattle.l2_types.specs.Wants.{wanted}
use Rattle.l2_calls.specs.Calls.{callee, is_literal, fitted, fails, called}
use Rattle.l2_types_expr.specs.declared.type_names.BaseName.{BaseName}
use Rattle.l2_types_expr.specs.declared.type_names.NamedType.{NamedType}
use Rattle.l2_types_expr.specs.TypeNames.{based, plain_type, function_of, size_of_name, cast_to}
use Rattle.l2_types_expr.specs.Enumerators.{constant, in_int, with_enumerator, with_enum_tag}

abbrev pub count : ExprTrees → ℕ
count no_exprs = 0
count (and_expr es e) = count es + 1

-- an argument that is a string literal, where it may be one
abbrev pub is_skipped : Want → ExprTree → Bool
is_skipped Literal e = is_literal e
is_skipped _ e = false

-- the arguments of a name that always fails aren't evaluated
abbrev pub after_arguments : Option Meaning → State → State → State
after_arguments m before after = if fails m then unevaluated before after else after

abbrev pub called_by : Callee → Place → ℕ → TypedTrees → State → State → Seen MeantTree
called_by (Named n q) p k xs before after = called (lookup before n) q k xs (after_arguments (lookup before n) before after)
called_by Other p k xs before after = wrong p after

-- a call of a name looks at the arguments alone; what is called by no name is looked at before them
abbrev pub call_as : Callee → Place → Seen MeantTree → (Option Meaning → State → Seen TypedTrees) → ℕ → State → Seen MeantTree
call_as (Named n q) p r given k s = next (given (lookup s n) s) (λ xs u. called_by (Named n q) p k xs s u)
call_as Other p r given k s = next r (λ m t. next (given None t) (λ xs u. called_by Other p k xs t u))

abbrev pub call : ExprTree → Place → Seen MeantTree → (Option Meaning → State → Seen TypedTrees) → ℕ → State → Seen MeantTree
call f p r given k s = call_as (callee f) p r given k s

abbrev pub argument : Bool → Want → Place → Seen MeantTree → State → Seen TypedTree
argument true w p r s = saw Abort s
argument false w p r s = next (valued r) (λ x t. fitted w p x t)

abbrev mutual
  pub judge : ExprTree → State → Seen MeantTree
  judge (tree.Name n p) s = named p (lookup s n) s
  judge (tree.Number z k p) s = integer k (Constant (type_of_scalar k) z) s
  judge (tree.Text p) s = wrong p s
  judge (tree.Parenthesised p e) s = judge e s
  -- arrays, pointers and structs aren't built yet
  judge (tree.Index a p i) s = saw Unknown s
  judge (tree.Member a op p n q) s = saw Unknown s
  judge (tree.Call f p es) s = call f p (judge f s) (λ m t. arguments m (count es) es t) (count es) s
  judge (tree.PostUpdate e op p) s = next (judge e s) (λ m t. stepped Before (step_of op) p m t)
  judge (tree.Update op p e) s = next (judge e s) (λ m t. stepped After (step_of op) p m t)
  judge (tree.Unary op p e) s = next (valued (judge e s)) (λ x t. unary op p x t)
  judge (tree.Sizeof p e) s = next (judge e s) (λ m t. sized p (type_of m) (unevaluated s t))
  judge (tree.SizeofType p q t) s = next (type_name t s) (λ y u. size_of_name p y u)
  judge (tree.Cast p t e) s = next (type_name t s) (λ y u. next (valued (judge e u)) (λ x v. cast_to p y x v))
  judge (tree.Binary a op p b) s =
      next (valued (judge a s)) (λ x t. next (valued (judge b t)) (λ y u. binary (class_of op) p x y u))
  judge (tree.Conditional c p a b) s =
      next (valued (judge c s)) (λ w t. next (valued (judge a t)) (λ x u. next (valued (judge b u)) (λ y v. conditional p w x y v)))
  judge (tree.Assign a op p b) s =
      next (judge a s) (λ m t. next (valued (judge b t)) (λ y u. assign (assignment_of op) p m y u))
  judge (tree.Comma a b) s = next (valued (judge a s)) (λ x t. next (valued (judge b t)) (λ y u. comma x y u))

  pub arguments : Option Meaning → ℕ → ExprTrees → State → Seen TypedTrees
  arguments m k no_exprs s = saw no_trees s
  arguments m k (and_expr es e) s =
      next (arguments m k es s) (λ xs t.
      next (argument (is_skipped (wanted t m k (count es)) e) (wanted t m k (count es)) (first_place e) (judge e t) t) (λ x u. saw (and_tree xs x) u))

  -- the name of a type; declarators in it aren't looked at, as pointers and arrays aren't built yet
  pub type_name : ParameterTree → State → Seen NamedType
  type_name (tree.Bare xs) s = next (based (base_of xs) (enumerated xs s)) (λ b t. saw (plain_type b) t)
  type_name (tree.Declared xs d) s = next (based (base_of xs) (enumerated xs s)) (λ b t. saw (function_of b) t)

  -- enumerators among specifiers become known
  pub enumerated : SpecifierTrees → State → State
  enumerated (first_specifier x) s = enum_body x s
  enumerated (and_specifier xs x) s = enum_body x (enumerated xs s)

  pub enum_body : SpecifierTree → State → State
  enum_body (tree.EnumBody p t q es b) s = state_of (enumerators es (with_enum_tag t s))
  enum_body x s = s

  -- the first one without a value of its own is 0
  pub enumerators : EnumeratorTrees → State → Seen (Option ℤ)
  enumerators (first_enumerator e) s = enumerator e (Some (pos 0)) s
  enumerators (and_enumerator es e) s = next (enumerators es s) (λ v t. enumerator e v t)

  pub enumerator : EnumeratorTree → Option ℤ → State → Seen (Option ℤ)
  enumerator (tree.Plain n p) v s = with_enumerator n p v s
  enumerator (tree.Valued n p q e) v s = next (constant (first_place e) (judge e s) s) (λ w t. with_enumerator n p (in_int w) t)

-- the type that specifiers name
abbrev pub specified : SpecifierTrees → State → Seen BaseName
specified xs s = based (base_of xs) (enumerated xs s)
