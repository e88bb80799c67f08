-- What operators, moves and tests give is of its type.
use Rattle.std.proofs.Common.{arith, ◌≡◌, refl, ◌<◌, ◌≤◌, ℕ, ℤ, pos, negsuc, Bool, true, false, length, Option, Some, None, IfSome, cond, inl, inr}
use Rattle.std.specs.Prelude.{◌==◌, nat_le, nat_lt, not, ◌-ℤ◌, int_le, int_lt}
use Rattle.std.specs.Ordering.{int_eq}
use Rattle.std.proofs.lemmas.Int.{ints}
use Rattle.std.proofs.lemmas.Bool.{leb-true}
use Rattle.l2_bits.specs.declared.types.Ty.{Ty}
use Rattle.l2_bits.specs.Types.{long_type}
use Rattle.l2_bits.specs.Values.{IsValue}
use Rattle.l2_bits.specs.Bits.{and, or, xor}
use Rattle.l2_bits.proofs.Wraps.{wrap_value}
use Rattle.l2_bits.proofs.OperatorValues.{div_value, rem_value, shl_value, shr_value, convert_value}
use Rattle.l2_bits.specs.Operators.{div, rem, shl, shr}
use Rattle.l2_runs.specs.declared.cells.CellType.TheVariants.{Integer, Pointer}
use Rattle.l2_runs.specs.declared.cells.CellValue.{CellValue}
use Rattle.l2_runs.specs.declared.cells.CellValue.TheVariants.{Number, Null, Invalid, At}
use Rattle.l2_runs.specs.declared.member.Member.{Member}
use Rattle.l2_runs.specs.Fits.{Layout}
use Rattle.l2_runs.specs.Members.{targets, Within}
use Rattle.l2_runs.specs.Operators.{truth}
use Rattle.l2_code.specs.declared.action.Operator.{Operator}
use Rattle.l2_code.specs.declared.action.Operator.TheVariants.{Add, Sub, Mul, Div, Rem, Shl, Shr, And, Or, Xor, Eq, Ne, Lt, Le}
use Rattle.l2_code.specs.declared.action.PointerOperator.{PointerOperator}
use Rattle.l2_code.specs.declared.action.PointerOperator.TheVariants as pointers
use Rattle.l2_code.specs.Values.{operate, as_number, on_numbers, converted, place_in, moved, distance, in_order, on_equal, on_pointers}
use Rattle.l2_code.specs.WellFormed.{Known, IsConstant, IsBit, is_comparison, truth_value, value_of, pointers_give}

-- what is known of a value is so, and it is in the set
abbrev pub IsKnown : Layout → (Member → Bool) → Known → CellValue → Type 0
IsKnown cells set k v = IsConstant cells k.type v × (k.is_truth ≡ true → IsBit v) × Within (targets v) set

pub no_target : (set : Member → Bool) (z : ℤ) → Within (targets (Number z)) set
no_target set z m e = cc

pub number_known : (cells : Layout) (set : Member → Bool) (ty : Ty) (z : ℤ) → IsValue ty z → IsKnown cells set (value_of (Integer ty)) (Number z)
number_known cells set ty z h = (h, λ e. absurd (no e), no_target set z)
  where
    no : false ≡ true → ⊥
    no e = cc

pub truth_known : (cells : Layout) (set : Member → Bool) (b : Bool) → IsKnown cells set truth_value (Number (truth b))
truth_known cells set true = (record { from = omega (arith, ints); to = omega (arith, ints) }, λ e. inr refl, no_target set (pos 1))
truth_known cells set false = (record { from = omega (arith, ints); to = omega (arith, ints) }, λ e. inl refl, no_target set (pos 0))

-- ---- numbers

abbrev computed : Operator → Ty → Known
computed op ty = cond (is_comparison op) truth_value (value_of (Integer ty))

some_number : (cells : Layout) (set : Member → Bool) (ty : Ty) (x : Option ℤ) → IfSome x (IsValue ty) → IfSome (as_number x) (IsKnown cells set (value_of (Integer ty)))
some_number cells set ty None h = tt
some_number cells set ty (Some z) h = number_known cells set ty z h

operated : (cells : Layout) (set : Member → Bool) (op : Operator) (ty : Ty) (a b : ℤ) → IsValue ty a → IfSome (as_number (operate op ty a b)) (IsKnown cells set (computed op ty))
unfolding and or xor
operated cells set Add ty a b h = some_number cells set ty (operate Add ty a b) (wrap_value ty _)
operated cells set Sub ty a b h = some_number cells set ty (operate Sub ty a b) (wrap_value ty _)
operated cells set Mul ty a b h = some_number cells set ty (operate Mul ty a b) (wrap_value ty _)
operated cells set Div ty a b h = some_number cells set ty (div ty a b) (div_value ty a b)
operated cells set Rem ty a b h = some_number cells set ty (rem ty a b) (rem_value ty a b h)
operated cells set Shl ty a b h = some_number cells set ty (shl ty a b) (shl_value ty a b)
operated cells set Shr ty a b h = some_number cells set ty (shr ty a b) (shr_value ty a b h)
operated cells set And ty a b h = some_number cells set ty (operate And ty a b) (wrap_value ty _)
operated cells set Or ty a b h = some_number cells set ty (operate Or ty a b) (wrap_value ty _)
operated cells set Xor ty a b h = some_number cells set ty (operate Xor ty a b) (wrap_value ty _)
operated cells set Eq ty a b h = truth_known cells set (int_eq a b)
operated cells set Ne ty a b h = truth_known cells set (not (int_eq a b))
operated cells set Lt ty a b h = truth_known cells set (int_lt a b)
operated cells set Le ty a b h = truth_known cells set (int_le a b)

pub numbers_known : (cells : Layout) (set : Member → Bool) (op : Operator) (ty : Ty) (x y : CellValue) → IsConstant cells (Integer ty) x
    → IfSome (on_numbers (operate op ty) x y) (IsKnown cells set (computed op ty))
numbers_known cells set op ty (Number a) (Number b) h = operated cells set op ty a b h
numbers_known cells set op ty (Number a) Null h = tt
numbers_known cells set op ty (Number a) Invalid h = tt
numbers_known cells set op ty (Number a) (At o f) h = tt
numbers_known cells set op ty Null y h = tt
numbers_known cells set op ty Invalid y h = tt
numbers_known cells set op ty (At o f) y h = tt

pub converted_known : (cells : Layout) (set : Member → Bool) (ty : Ty) (x : CellValue) → IfSome (converted ty x) (IsKnown cells set (value_of (Integer ty)))
converted_known cells set ty (Number a) = number_known cells set ty _ (convert_value ty a)
converted_known cells set ty Null = tt
converted_known cells set ty Invalid = tt
converted_known cells set ty (At o f) = tt

-- ---- pointers

-- a pointer of which nothing more is known
pointer_known : (cells : Layout) (set : Member → Bool) (v : CellValue) → IsConstant cells Pointer v → Within (targets v) set → IsKnown cells set (value_of Pointer) v
pointer_known cells set v h held = (h, λ e. absurd (no e), held)
  where
    no : false ≡ true → ⊥
    no e = cc

placed : (cells : Layout) (set : Member → Bool) (o : ℕ) (z : ℤ) → 0 < length (cells o) → length (cells o) ≤ 65536 → Within (targets (At o 0)) set
    → IfSome (place_in o (length (cells o)) z) (IsKnown cells set (value_of Pointer))
placed cells set o (pos f) some small held = go (nat_le f (length (cells o))) refl
  where
    go : (t : Bool) → nat_le f (length (cells o)) ≡ t → IfSome (cond t (Some (At o f)) None) (IsKnown cells set (value_of Pointer))
    go true e = pointer_known cells set (At o f) (some, let w = leb-true f (length (cells o)) e in omega arith) held
    go false e = tt
placed cells set o (negsuc f) some small held = tt

pub moved_known : (cells : Layout) (set : Member → Bool) (by : ℤ) (x y : CellValue) → ((n : ℕ) → length (cells n) ≤ 65536) → IsConstant cells Pointer x → Within (targets x) set
    → IfSome (moved cells by x y) (IsKnown cells set (value_of Pointer))
moved_known cells set by (At o f) (Number n) small (some, near) held = placed cells set o _ some (small o) held
moved_known cells set by (At o f) Null small h held = tt
moved_known cells set by (At o f) Invalid small h held = tt
moved_known cells set by (At o f) (At p g) small h held = tt
moved_known cells set by (Number z) y small h held = tt
moved_known cells set by Null y small h held = tt
moved_known cells set by Invalid y small h held = tt

answer_known : (cells : Layout) (set : Member → Bool) (k : Known) (t : Bool) (v : CellValue) → IsKnown cells set k v → IfSome (cond t (Some v) None) (IsKnown cells set k)
answer_known cells set k true v h = h
answer_known cells set k false v h = tt

distance_known : (cells : Layout) (set : Member → Bool) (x y : CellValue) → IsConstant cells Pointer x → IsConstant cells Pointer y
    → IfSome (distance x y) (IsKnown cells set (value_of (Integer long_type)))
distance_known cells set (At o f) (At p g) (a, b) (c, d) =
    answer_known cells set (value_of (Integer long_type)) (o == p) (Number (pos f -ℤ pos g)) (number_known cells set long_type (pos f -ℤ pos g) (record { from = omega (arith, ints); to = omega (arith, ints) }))
distance_known cells set (At o f) (Number z) h k = tt
distance_known cells set (At o f) Null h k = tt
distance_known cells set (At o f) Invalid h k = tt
distance_known cells set (Number z) y h k = tt
distance_known cells set Null y h k = tt
distance_known cells set Invalid y h k = tt

order_known : (cells : Layout) (set : Member → Bool) (f : ℕ → ℕ → Bool) (x y : CellValue) → IfSome (in_order f x y) (IsKnown cells set truth_value)
order_known cells set f (At o n) (At p m) = answer_known cells set truth_value (o == p) _ (truth_known cells set (f n m))
order_known cells set f (At o n) (Number z) = tt
order_known cells set f (At o n) Null = tt
order_known cells set f (At o n) Invalid = tt
order_known cells set f (Number z) y = tt
order_known cells set f Null y = tt
order_known cells set f Invalid y = tt

equal_known : (cells : Layout) (set : Member → Bool) (f : Bool → Bool) (x y : CellValue) → IfSome (on_equal f x y) (IsKnown cells set truth_value)
equal_known cells set f Invalid y = tt
equal_known cells set f (Number z) (Number w) = truth_known cells set _
equal_known cells set f (Number z) Null = truth_known cells set _
equal_known cells set f (Number z) Invalid = tt
equal_known cells set f (Number z) (At p g) = truth_known cells set _
equal_known cells set f Null (Number w) = truth_known cells set _
equal_known cells set f Null Null = truth_known cells set _
equal_known cells set f Null Invalid = tt
equal_known cells set f Null (At p g) = truth_known cells set _
equal_known cells set f (At o n) (Number w) = truth_known cells set _
equal_known cells set f (At o n) Null = truth_known cells set _
equal_known cells set f (At o n) Invalid = tt
equal_known cells set f (At o n) (At p g) = truth_known cells set _

pub pointers_known : (cells : Layout) (set : Member → Bool) (op : PointerOperator) (x y : CellValue) → IsConstant cells Pointer x → IsConstant cells Pointer y
    → IfSome (on_pointers op x y) (IsKnown cells set (pointers_give op))
pointers_known cells set pointers.Diff x y h k = distance_known cells set x y h k
pointers_known cells set pointers.Eq x y h k = equal_known cells set (λ e. e) x y
pointers_known cells set pointers.Ne x y h k = equal_known cells set not x y
pointers_known cells set pointers.Lt x y h k = order_known cells set nat_lt x y
pointers_known cells set pointers.Le x y h k = order_known cells set nat_le x y
