-- The operand of a typed expression is a temporary, or a constant of its type.
use Rattle.std.proofs.Common.{◌≡◌, ℕ, ℤ, pos, Bool, true, false, not, List, [], ◌∷◌, Some, refl, sym, subst, arith}
use Rattle.std.proofs.lemmas.Int.{ints}
use Rattle.std.specs.Ordering.{int_eq}
use Rattle.std.specs.Prelude.{Result, Ok, Err, IfOk, if◌then◌else◌, ◌&&◌}
use Rattle.l2_bits.specs.declared.types.Ty.{Ty}
use Rattle.l2_bits.specs.Types.{int_type}
use Rattle.l2_bits.specs.Values.{IsValue}
use Rattle.l2_bits.proofs.OperatorValues.{convert_value}
use Rattle.l2_runs.specs.declared.cells.CellType.{CellType}
use Rattle.l2_runs.specs.declared.cells.CellType.TheVariants.{Integer, Pointer}
use Rattle.l2_runs.specs.declared.cells.CellValue.TheVariants.{Number, Null, Invalid, At}
use Rattle.l2_runs.specs.declared.operators.UnaryOperator.{UnaryOperator}
use Rattle.l2_runs.specs.declared.operators.UnaryOperator.TheVariants.{Negate, Not}
use Rattle.l2_runs.specs.declared.operators.BinaryOperator.{BinaryOperator}
use Rattle.l2_runs.specs.declared.operators.BinaryOperator.TheVariants as binary_operator
use Rattle.l2_runs.specs.Operators.{truth}
use Rattle.l2_runs.specs.Fits.{Layout}
use Rattle.l2_program.specs.Checked as tree
use Rattle.l2_program.specs.Checked.{TypedTree}
use Rattle.l2_program.specs.Types.{type_of, is_computing, is_arithmetic, given}
use Rattle.l2_meaning.specs.Lawful.{IsTyped, IsInteger}
use Rattle.l2_meaning.proofs.Numbers.{binary_value, zero_value}
use Rattle.l2_code.specs.declared.action.Operator.{Operator}
use Rattle.l2_code.specs.declared.action.Operator.TheVariants as operator
use Rattle.l2_code.specs.declared.action.Operand.{Operand}
use Rattle.l2_code.specs.declared.action.Operand.TheVariants.{Constant, Temp}
use Rattle.l2_code.specs.declared.action.Computation.TheVariants.{Numbers, Convert}
use Rattle.l2_code.specs.Values.{operate, as_number, same_type}
use Rattle.l2_lower.specs.Emitting.{or_zero, computed, zero_number, nothing, unary_code, binary_code, conversion, expression}
use Rattle.l2_code.specs.Trees.{Nodes}
use Rattle.l2_lower.specs.declared.error.LowerError.{LowerError}
use Rattle.l2_lower.specs.Output.{Output, Emits}
use Rattle.l2_lower.specs.Operands.{IsOperandOf, OperandFits}
use Rattle.l2_lower.proofs.Converted.{same_types}

-- whatever a computation on numbers of a type gives is one of the other
numbers_of : (n : ℕ) (op : Operator) (ty to : Ty) (a b : Operand) → IsOperandOf ty a → IsOperandOf ty b → ((x y : ℤ) → (z : ℤ) × (operate op ty x y ≡ Some z) × IsValue to z) → IsOperandOf to (computed n (Numbers op ty a b)).operand
numbers_of n op ty to (Constant (Number x)) (Constant (Number y)) h k v = subst (λ o. IsOperandOf to (Constant (or_zero (as_number o)))) (sym (v x y).1) (v x y).2
numbers_of n op ty to (Constant (Number x)) (Temp j) h k v = tt
numbers_of n op ty to (Constant (Number x)) (Constant Null) h k v = absurd k
numbers_of n op ty to (Constant (Number x)) (Constant Invalid) h k v = absurd k
numbers_of n op ty to (Constant (Number x)) (Constant (At o f)) h k v = absurd k
numbers_of n op ty to (Constant Null) b h k v = absurd h
numbers_of n op ty to (Constant Invalid) b h k v = absurd h
numbers_of n op ty to (Constant (At o f)) b h k v = absurd h
numbers_of n op ty to (Temp i) b h k v = tt

pub unary_of : (n : ℕ) (op : UnaryOperator) (ty : Ty) (c : ℕ) (a : Operand) → IsOperandOf ty a → IsOperandOf (given (is_computing op) ty) (unary_code n op ty c a).operand
unary_of n Negate ty c a h = numbers_of _ operator.Sub ty ty zero_number a (zero_value ty) h (λ x y. (_, refl, binary_value binary_operator.Subtract ty x y))
unary_of n Not ty c a h = numbers_of _ operator.Eq ty int_type a zero_number h (zero_value ty) (λ x y. (_, refl, binary_value binary_operator.Equal ty x y))

ne_value : (ty : Ty) (x y : ℤ) → (z : ℤ) × (operate operator.Ne ty x y ≡ Some z) × IsValue int_type z
ne_value ty x y = go (int_eq x y) where
  go : (b : Bool) → (z : ℤ) × (Some (truth (not b)) ≡ Some z) × IsValue int_type z
  go true = (pos 0, refl, zero_value int_type)
  go false = (pos 1, refl, record { from = omega (arith, ints); to = omega (arith, ints) })

pub binary_of : (n : ℕ) (op : BinaryOperator) (ty : Ty) (c : ℕ) (a b : Operand) → IsOperandOf ty a → IsOperandOf ty b → IsOperandOf (given (is_arithmetic op) ty) (binary_code n op ty c a b).operand
binary_of n binary_operator.Multiply ty c a b h k = numbers_of _ operator.Mul ty ty a b h k (λ x y. (_, refl, binary_value binary_operator.Multiply ty x y))
binary_of n binary_operator.Add ty c a b h k = numbers_of _ operator.Add ty ty a b h k (λ x y. (_, refl, binary_value binary_operator.Add ty x y))
binary_of n binary_operator.Subtract ty c a b h k = numbers_of _ operator.Sub ty ty a b h k (λ x y. (_, refl, binary_value binary_operator.Subtract ty x y))
binary_of n binary_operator.Less ty c a b h k = numbers_of _ operator.Lt ty int_type a b h k (λ x y. (_, refl, binary_value binary_operator.Less ty x y))
binary_of n binary_operator.LessEqual ty c a b h k = numbers_of _ operator.Le ty int_type a b h k (λ x y. (_, refl, binary_value binary_operator.LessEqual ty x y))
binary_of n binary_operator.Greater ty c a b h k = numbers_of _ operator.Lt ty int_type b a k h (λ x y. (_, refl, binary_value binary_operator.Less ty x y))
binary_of n binary_operator.GreaterEqual ty c a b h k = numbers_of _ operator.Le ty int_type b a k h (λ x y. (_, refl, binary_value binary_operator.LessEqual ty x y))
binary_of n binary_operator.Equal ty c a b h k = numbers_of _ operator.Eq ty int_type a b h k (λ x y. (_, refl, binary_value binary_operator.Equal ty x y))
binary_of n binary_operator.NotEqual ty c a b h k = numbers_of _ operator.Ne ty int_type a b h k (ne_value ty)

converted_of : (n : ℕ) (to from : Ty) (a : Operand) → IsOperandOf from a → IsOperandOf to (computed n (Convert to a)).operand
converted_of n to from (Constant (Number x)) h = convert_value to x
converted_of n to from (Constant Null) h = absurd h
converted_of n to from (Constant Invalid) h = absurd h
converted_of n to from (Constant (At o f)) h = absurd h
converted_of n to from (Temp j) h = tt

pub conversion_of : (n : ℕ) (to from : Ty) (a : Operand) → IsOperandOf from a → IsOperandOf to (conversion n (Integer from ∷ []) to a).operand
conversion_of n to from a h = go (same_type (Integer to) (Integer from)) refl where
  go : (x : Bool) → same_type (Integer to) (Integer from) ≡ x → IsOperandOf to (if x && true then nothing n a else computed n (Convert to a)).operand
  go true e = subst (λ t. IsOperandOf t a) (sym (same_types to from e)) h
  go false e = converted_of n to from a h

-- ---- expressions

as_operand : (cells : Layout) (ty : Ty) (rest : List CellType) (a : Operand) → OperandFits cells (Integer ty ∷ rest) a → IsOperandOf ty a
as_operand cells ty rest (Constant (Number z)) h = h
as_operand cells ty rest (Constant Null) h = absurd h
as_operand cells ty rest (Constant Invalid) h = absurd h
as_operand cells ty rest (Constant (At o f)) h = absurd h
as_operand cells ty rest (Temp n) h = tt

as_fitting : (cells : Layout) (ty : Ty) (a : Operand) → IsOperandOf ty a → OperandFits cells (Integer ty ∷ []) a
as_fitting cells ty (Constant (Number z)) h = h
as_fitting cells ty (Constant Null) h = absurd h
as_fitting cells ty (Constant Invalid) h = absurd h
as_fitting cells ty (Constant (At o f)) h = absurd h
as_fitting cells ty (Temp n) h = tt

pub integer_operand : (cells : Layout) (types : List CellType) (ty : Ty) (a : Operand) → types ≡ Integer ty ∷ [] → OperandFits cells types a → IsOperandOf ty a
integer_operand cells types ty a e h = as_operand cells ty [] a (subst (λ ts. OperandFits cells ts a) e h)

converted_fits : (cells : Layout) (n : ℕ) (types : List CellType) (to : Ty) (a : Operand) → IsInteger types → OperandFits cells types a → OperandFits cells (Integer to ∷ []) (conversion n types to a).operand
converted_fits cells n [] to a p h = absurd p
converted_fits cells n (Integer ty ∷ []) to a p h = as_fitting cells to _ (conversion_of n to ty a (as_operand cells ty [] a h))
converted_fits cells n (Pointer ∷ []) to a p h = absurd p
converted_fits cells n (t ∷ u ∷ types) to a p h = absurd p

pub expression_fits : (cells : Layout) (e : TypedTree) (n : ℕ) → IsTyped cells e → OperandFits cells (type_of e) (expression n e).operand
expression_fits cells (tree.Constant ty v) n h = h
expression_fits cells (tree.Choice ty) n h = tt
expression_fits cells (tree.Read ty l) n h = tt
expression_fits cells (tree.Unary op ty c e) n (h, is) = as_fitting cells _ _ (unary_of _ op ty c _ (integer_operand cells (type_of e) ty _ is (expression_fits cells e n h)))
expression_fits cells (tree.Binary op ty c x y) n (h, is, h', is') =
    as_fitting cells _ _ (binary_of _ op ty c _ _ (integer_operand cells (type_of x) ty _ is (expression_fits cells x n h)) (integer_operand cells (type_of y) ty _ is' (expression_fits cells y (expression n x).next h')))
expression_fits cells (tree.Convert ty e) n (h, is) = converted_fits cells _ (type_of e) ty _ is (expression_fits cells e n h)
expression_fits cells (tree.Assign ty l e) n (is, h, is') = subst (λ ts. OperandFits cells ts (expression n e).operand) is' (expression_fits cells e n h)
expression_fits cells (tree.Assert c e) n h = tt

pub number_operand : (cells : Layout) (e : TypedTree) (n : ℕ) (ty : Ty) → IsTyped cells e → type_of e ≡ Integer ty ∷ [] → IsOperandOf ty (expression n e).operand
number_operand cells e n ty h is = integer_operand cells (type_of e) ty _ is (expression_fits cells e n h)

-- an operand that is handed over as this one
pub operand_given : (cells : Layout) (e : TypedTree) (n : ℕ) (ty : Ty) → IsTyped cells e → type_of e ≡ Integer ty ∷ [] → (r : Result Operand LowerError) (xs : Nodes) (k : ℕ) (old new : Output) → Emits xs k (λ d. d ≡ (expression n e).operand) old new r → IfOk r (λ d. IsOperandOf ty d)
operand_given cells e n ty h is (Ok d) xs k old new (p, q) = subst (λ a. IsOperandOf ty a) (sym p) (number_operand cells e n ty h is)
operand_given cells e n ty h is (Err f) xs k old new m = tt
