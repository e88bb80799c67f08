-- What operators make of values and of lvalues (C11 6.5, for integers).
use Rattle.std.specs.Prelude.{pos, Bool, true, false, Option, Some, None}
use Rattle.l2_bits.specs.Types.{int_type, ulong_type}
use Rattle.l2_syntax.specs.declared.place.Place.{Place}
use Rattle.l2_syntax.specs.declared.token.Scalar.{Scalar}
use Rattle.l2_syntax.specs.declared.token.Scalar.TheVariants.{Int, ULong}
use Rattle.l2_syntax.specs.declared.refusal.Rule.TheVariants.{UnknownName, Lvalue as LvalueRule}
use Rattle.l2_tree.specs.declared.operators.UnaryOperator.{UnaryOperator}
use Rattle.l2_tree.specs.declared.operators.UnaryOperator.TheVariants as unary_operator
use Rattle.l2_types.specs.declared.types.CType.{CType}
use Rattle.l2_types.specs.declared.types.CType.TheVariants.{Void, Integer}
use Rattle.l2_types.specs.declared.typed.Lvalue.{Lvalue}
use Rattle.l2_types.specs.declared.typed.Lvalue.TheVariants.{Object as ObjectAt}
use Rattle.l2_types.specs.declared.typed.Arithmetic.{Arithmetic as ArithmeticOperator}
use Rattle.l2_types.specs.declared.typed.Negation.TheVariants.{Negate, Complement, Not}
use Rattle.l2_types.specs.declared.typed.Gives.{Gives}
use Rattle.l2_types.specs.declared.typed.Gives.TheVariants.{After}
use Rattle.l2_types.specs.declared.state.Meaning.{Meaning}
use Rattle.l2_types.specs.declared.state.Meaning.TheVariants as meaning
use Rattle.l2_types.specs.declared.operators.Class.{Class}
use Rattle.l2_types.specs.declared.operators.Class.TheVariants.{Computes, Shifts, Compares, Joins}
use Rattle.l2_types.specs.declared.operators.Assigning.{Assigning}
use Rattle.l2_types.specs.declared.operators.Assigning.TheVariants.{Plainly, Computing, Shifting}
use Rattle.l2_types.specs.Types.{type_of_scalar, promoted, common}
use Rattle.l2_types.specs.Trees.{TypedTree, Constant, Unary, Arithmetic, Compare, Join, Conditional, Comma, Assign, Update, Discard}
use Rattle.l2_types.specs.States.{State, Seen, saw, next, with_fault, with_use}
use Rattle.l2_types.specs.Meant.{MeantTree, Unknown, Value, Located, OperandTree, NoValue, Of, wrong, integer, converted, checked, overflow_kind, checks_of, size_of}

-- ---- names

abbrev pub named : Place → Option Meaning → State → Seen MeantTree
-- `unknown-name`
named p None s = saw Unknown (with_fault p UnknownName s)
named p (Some (meaning.Object o t c)) s = saw (Located t c (ObjectAt o)) (with_use o s)
named p (Some (meaning.Enumerator v)) s = integer Int (Constant int_type v) s
named p (Some (meaning.Function f)) s = wrong p s
named p (Some (meaning.TypeName t c)) s = wrong p s
named p (Some (meaning.FunctionType g)) s = wrong p s
named p (Some (meaning.Builtin b)) s = wrong p s
named p (Some meaning.Unknown) s = saw Unknown s

-- ---- operators on values

abbrev pub computed : ArithmeticOperator → Scalar → Place → TypedTree → TypedTree → State → Seen MeantTree
computed op c p x y s =
    next (checks_of op (type_of_scalar c) p s) (λ cs t. integer c (Arithmetic op (type_of_scalar c) cs x y) t)

abbrev pub integers : Class → Place → Scalar → TypedTree → Scalar → TypedTree → State → Seen MeantTree
integers (Computes op) p a x b y s = computed op (common a b) p (converted a (common a b) x) (converted b (common a b) y) s
-- each operand of a shift is promoted alone, and the result has the type of the left one
integers (Shifts op) p a x b y s = computed op (promoted a) p (converted a (promoted a) x) (converted b (promoted b) y) s
integers (Compares op) p a x b y s =
    integer Int (Compare op (type_of_scalar (common a b)) (converted a (common a b) x) (converted b (common a b) y)) s
integers (Joins op) p a x b y s = integer Int (Join op x y) s

abbrev pub combined : Class → Place → CType → TypedTree → CType → TypedTree → State → Seen MeantTree
combined c p (Integer a) x (Integer b) y s = integers c p a x b y s
combined c p (Integer a) x Void y s = wrong p s
combined c p Void x u y s = wrong p s

abbrev pub binary : Class → Place → OperandTree → OperandTree → State → Seen MeantTree
binary c p NoValue y s = saw Unknown s
binary c p (Of t x) NoValue s = saw Unknown s
binary c p (Of t x) (Of u y) s = combined c p t x u y s

abbrev pub negated : Place → Scalar → TypedTree → State → Seen MeantTree
negated p c x s =
    next (checked (overflow_kind s.overflow (type_of_scalar c)) p s) (λ n t. integer c (Unary Negate (type_of_scalar c) n x) t)

abbrev pub unary_integer : UnaryOperator → Place → Scalar → TypedTree → State → Seen MeantTree
unary_integer unary_operator.Address p a x s = wrong p s
unary_integer unary_operator.Dereference p a x s = wrong p s
unary_integer unary_operator.Plus p a x s = integer (promoted a) (converted a (promoted a) x) s
unary_integer unary_operator.Negate p a x s = negated p (promoted a) (converted a (promoted a) x) s
unary_integer unary_operator.Complement p a x s =
    integer (promoted a) (Unary Complement (type_of_scalar (promoted a)) 0 (converted a (promoted a) x)) s
unary_integer unary_operator.Not p a x s = integer Int (Unary Not (type_of_scalar a) 0 x) s

abbrev pub unary : UnaryOperator → Place → OperandTree → State → Seen MeantTree
unary op p NoValue s = saw Unknown s
unary op p (Of Void x) s = wrong p s
unary op p (Of (Integer a) x) s = unary_integer op p a x s

abbrev pub chosen : Place → TypedTree → CType → TypedTree → CType → TypedTree → State → Seen MeantTree
chosen p c (Integer a) x (Integer b) y s =
    integer (common a b) (Conditional c (converted a (common a b) x) (converted b (common a b) y)) s
chosen p c (Integer a) x Void y s = wrong p s
chosen p c Void x (Integer b) y s = wrong p s
chosen p c Void x Void y s = saw (Value Void (Conditional c x y)) s

abbrev pub conditional : Place → OperandTree → OperandTree → OperandTree → State → Seen MeantTree
conditional p NoValue x y s = saw Unknown s
conditional p (Of t c) NoValue y s = saw Unknown s
conditional p (Of t c) (Of u x) NoValue s = saw Unknown s
conditional p (Of Void c) (Of u x) (Of v y) s = wrong p s
conditional p (Of (Integer a) c) (Of u x) (Of v y) s = chosen p c u x v y s

abbrev pub comma : OperandTree → OperandTree → State → Seen MeantTree
comma NoValue y s = saw Unknown s
comma (Of t x) NoValue s = saw Unknown s
comma (Of t x) (Of u y) s = saw (Value u (Comma x y)) s

-- ---- effects

abbrev pub operated : Gives → ArithmeticOperator → Scalar → Place → Scalar → Lvalue → TypedTree → State → Seen MeantTree
operated g op c p a l y s =
    next (checks_of op (type_of_scalar c) p s) (λ cs t. integer a (Update g op (type_of_scalar a) (type_of_scalar c) cs l y) t)

abbrev pub assigned_integer : Assigning → Place → Scalar → Lvalue → Scalar → TypedTree → State → Seen MeantTree
assigned_integer Plainly p a l b y s = integer a (Assign l (converted b a y)) s
assigned_integer (Computing op) p a l b y s = operated After op (common a b) p a l (converted b (common a b) y) s
assigned_integer (Shifting op) p a l b y s = operated After op (promoted a) p a l (converted b (promoted b) y) s

abbrev pub assigned : Assigning → Place → CType → Lvalue → OperandTree → State → Seen MeantTree
assigned how p t l NoValue s = saw Unknown s
assigned how p (Integer a) l (Of (Integer b) y) s = assigned_integer how p a l b y s
assigned how p (Integer a) l (Of Void y) s = wrong p s
assigned how p Void l (Of u y) s = wrong p s

-- `lvalue`
abbrev pub unless_const : Bool → Place → State → State
unless_const true p s = with_fault p LvalueRule s
unless_const false p s = s

abbrev pub assign : Assigning → Place → MeantTree → OperandTree → State → Seen MeantTree
assign how p Unknown y s = saw Unknown s
assign how p (Value t e) y s = assigned how p t (ObjectAt 0) y (with_fault p LvalueRule s)
assign how p (Located t c l) y s = assigned how p t l y (unless_const c p s)

-- the 1 is of the type in which is computed
abbrev pub stepped_integer : Gives → ArithmeticOperator → Place → Scalar → Lvalue → State → Seen MeantTree
stepped_integer g op p a l s = operated g op (promoted a) p a l (Constant (type_of_scalar (promoted a)) (pos 1)) s

abbrev pub stepped : Gives → ArithmeticOperator → Place → MeantTree → State → Seen MeantTree
stepped g op p Unknown s = saw Unknown s
stepped g op p (Value Void e) s = wrong p s
stepped g op p (Value (Integer a) e) s = stepped_integer g op p a (ObjectAt 0) (with_fault p LvalueRule s)
stepped g op p (Located Void c l) s = wrong p s
stepped g op p (Located (Integer a) c l) s = stepped_integer g op p a l (unless_const c p s)

-- ---- casts and sizes

abbrev pub cast : Place → Option CType → OperandTree → State → Seen MeantTree
cast p None x s = saw Unknown s
cast p (Some t) NoValue s = saw Unknown s
cast p (Some Void) (Of u x) s = saw (Value Void (Discard x)) s
cast p (Some (Integer a)) (Of (Integer b) x) s = integer a (converted b a x) s
cast p (Some (Integer a)) (Of Void x) s = wrong p s

abbrev pub sized : Place → Option CType → State → Seen MeantTree
sized p None s = saw Unknown s
sized p (Some Void) s = wrong p s
sized p (Some (Integer a)) s = integer ULong (Constant ulong_type (pos (size_of a))) s
