-- The code of typed expressions is typed.
use Rattle.std.proofs.Common.{◌≡◌, ℕ, zero, suc, ◌<◌, ◌≤◌, ℤ, pos, negsuc, neg_ℤ, ◌≤ℤ◌, ◌^◌, ◌-◌, Bool, true, false, List, [], ◌∷◌, length, Option, Some, None, refl, sym, subst, arith, inl, inr}
use Rattle.std.specs.Prelude.{◌&&◌, if◌then◌else◌, slice_get}
use Rattle.std.proofs.lemmas.Int.{ints}
use Rattle.l2_bits.proofs.Bounds.{value_small, signed_small}
use Rattle.l2_bits.specs.declared.types.Ty.{Ty}
use Rattle.l2_bits.specs.Types.{int_type}
use Rattle.l2_bits.specs.Values.{IsValue}
use Rattle.l2_bits.specs.declared.operators.Op.{Op}
use Rattle.l2_bits.specs.declared.operators.Op.TheVariants as arithmetic
use Rattle.l2_runs.specs.declared.cells.CellType.{CellType}
use Rattle.l2_runs.specs.declared.cells.CellType.TheVariants.{Integer, Pointer}
use Rattle.l2_runs.specs.declared.cells.CellValue.{CellValue}
use Rattle.l2_runs.specs.declared.cells.CellValue.TheVariants.{Number, Null, Invalid, At}
use Rattle.l2_runs.specs.declared.kind.Kind.{Kind}
use Rattle.l2_runs.specs.declared.kind.Kind.TheVariants.{Assertion, Overflow}
use Rattle.l2_runs.specs.declared.operators.UnaryOperator.{UnaryOperator}
use Rattle.l2_runs.specs.declared.operators.UnaryOperator.TheVariants.{Negate, Not}
use Rattle.l2_runs.specs.declared.operators.BinaryOperator.{BinaryOperator}
use Rattle.l2_runs.specs.declared.operators.BinaryOperator.TheVariants as binary_operator
use Rattle.l2_runs.specs.Operators.{truth}
use Rattle.l2_runs.specs.Fits.{Layout, CellFits}
use Rattle.l2_runs.specs.Numbers.{at_number}
use Rattle.l2_program.specs.declared.program.CheckInfo.{CheckInfo}
use Rattle.l2_program.specs.Checked as tree
use Rattle.l2_program.specs.Checked.{TypedTree}
use Rattle.l2_program.specs.Types.{type_of, is_computing, is_arithmetic, given}
use Rattle.l2_meaning.specs.Lawful.{Listing, IsTyped, IsInteger, IsOfKind, HasCheck, lists_overflow, HasChecks}
use Rattle.l2_meaning.proofs.Numbers.{zero_value}
use Rattle.l2_code.specs.declared.action.Operator.{Operator}
use Rattle.l2_code.specs.declared.action.Operator.TheVariants as operator
use Rattle.l2_code.specs.declared.action.Operand.{Operand}
use Rattle.l2_code.specs.declared.action.Operand.TheVariants.{Constant, Temp}
use Rattle.l2_code.specs.declared.action.Test.TheVariants as test
use Rattle.l2_code.specs.declared.action.Computation.TheVariants.{Numbers as Compute_Numbers, Convert, Passes}
use Rattle.l2_code.specs.declared.action.Action.TheVariants.{Check, Choice, Read, Write}
use Rattle.l2_code.specs.Values.{same_type}
use Rattle.l2_code.specs.WellFormed.{Names, Scope, IsNumber, IsConstant, IsOperand, IsBit, IsTruth, IsWhole, value_of}
use Rattle.l2_code.specs.WellFormed as code
use Rattle.l2_lower.specs.Emitting.{only, Emitted, Part, after, behind, nothing, checked, computed, zero_number, cell, overflow_check, unary_code, binary_code, conversion, truth_code, expression, condition}
use Rattle.l2_lower.specs.Operands.{IsOperandOf}
use Rattle.l2_lower.proofs.Computing.{IsBelow, below_more}
use Rattle.l2_lower.proofs.Converted.{same_types}
use Rattle.l2_lower.proofs.OperandTypes.{unary_of, binary_of, conversion_of}
use Rattle.l2_lower.proofs.Typing.{all_behind, Sound, grows, join_behind, join_sound, none_sound, only_sound, result_sound, result_known, OperandIs, operand_later, Given, Tests, ConstantIs, ConstantIsBit, computed_given, computed_tests, nothing_given}

-- a check that has a number is one of the list
listed : (checks : List CheckInfo) (kind : Kind) (c : ℕ) → IsOfKind kind (at_number checks c) → IsNumber (length checks) c
listed checks kind zero h = absurd h
listed checks kind (suc c) h = (omega arith, there checks c h) where
  there : (xs : List CheckInfo) (i : ℕ) → IsOfKind kind (slice_get xs i) → suc i ≤ length xs
  there [] i k = absurd k
  there (x ∷ xs) zero k = omega arith
  there (x ∷ xs) (suc i) k = let t = there xs i k in omega arith

check_listed : (g : Listing) (b : Bool) (kind : Kind) (c : ℕ) → HasCheck g b kind (suc c) → IsNumber (length g.checks) (suc c)
check_listed g true kind c h = listed g.checks kind (suc c) h
check_listed g false kind c h = cc

check_so : (g : Listing) (b : Bool) (kind : Kind) (c : ℕ) → HasCheck g b kind (suc c) → b ≡ true
check_so g true kind c h = refl
check_so g false kind c h = cc

last_true : (a b c d : Bool) → (a && b && c && d) ≡ true → d ≡ true
last_true true true true true e = refl
last_true true true true false e = cc
last_true true true false d e = cc
last_true true false c d e = cc
last_true false b c d e = cc

-- a number of a type is one of some integer type
whole_of : (ty : Ty) (z : ℤ) → IsValue ty z → IsWhole (Number z)
whole_of ty (pos a) h =
    let b = value_small ty (pos a) h in
    let e : 2 ^ 64 ≡ 18446744073709551616 = refl in
    (omega (arith, ints), omega (arith, ints))
whole_of ty (negsuc a) h = go ty.signed refl where
  go : (s : Bool) → ty.signed ≡ s → IsWhole (Number (negsuc a))
  go true e =
      let b = signed_small ty (negsuc a) e h in
      let p : 2 ^ 63 ≡ 9223372036854775808 = refl in
      (omega (arith, ints), omega (arith, ints))
  go false e =
      let low : pos 0 ≤ℤ negsuc a = subst (λ s. (if s then neg_ℤ (pos (2 ^ (ty.width - 1))) else pos 0) ≤ℤ negsuc a) e h.from in
      absurd (omega (arith, ints))

truth_bit : (x : Bool) → IsBit (Number (truth x))
truth_bit true = inr refl
truth_bit false = inl refl

module _ (cells : Layout) (pointed : ℕ → List CellType) (g : Listing) (loops : ℕ) (small : (o : ℕ) → length (cells o) ≤ 65536) where
  abbrev pub names : Names
  names = record { objects = cells; pointed = pointed; checks = length g.checks; loops = loops }

  of_operand : (scope : Scope) (ty : Ty) (a : Operand) → IsOperand cells scope (Integer ty) a → IsOperandOf ty a
  of_operand scope ty (Constant (Number z)) h = h
  of_operand scope ty (Constant Null) h = absurd h
  of_operand scope ty (Constant Invalid) h = absurd h
  of_operand scope ty (Constant (At o f)) h = absurd h
  of_operand scope ty (Temp n) h = tt

  constant_of : (ty : Ty) (a : Operand) → IsOperandOf ty a → ConstantIs names (Integer ty) a
  constant_of ty (Constant (Number z)) h = h
  constant_of ty (Constant Null) h = absurd h
  constant_of ty (Constant Invalid) h = absurd h
  constant_of ty (Constant (At o f)) h = absurd h
  constant_of ty (Temp n) h = tt

  integer_operand : (scope : Scope) (ty : Ty) (a : Operand) → IsOperand cells scope (Integer ty) a → code.IsInteger scope a
  integer_operand scope ty (Constant (Number z)) h = whole_of ty z h
  integer_operand scope ty (Constant Null) h = absurd h
  integer_operand scope ty (Constant Invalid) h = absurd h
  integer_operand scope ty (Constant (At o f)) h = absurd h
  integer_operand scope ty (Temp n) h = go (scope n) h where
    go : (k : Option code.Known) → code.IsOfType (Integer ty) k → code.IsKnownInteger k
    go None p = absurd p
    go (Some k) p = subst (λ t. code.IsIntegerType t) (sym p) tt

  fits_constant : (scope : Scope) (ty : CellType) (v : CellValue) → CellFits cells ty v → IsOperand cells scope ty (Constant v)
  fits_constant scope (Integer ty) (Number z) h = h
  fits_constant scope (Integer ty) Null h = absurd h
  fits_constant scope (Integer ty) Invalid h = absurd h
  fits_constant scope (Integer ty) (At o f) h = absurd h
  fits_constant scope Pointer (Number z) h = absurd h
  fits_constant scope Pointer Null h = tt
  fits_constant scope Pointer Invalid h = tt
  fits_constant scope Pointer (At o f) (p, q) = (p, (let s = small o in omega arith))

  -- what follows is given what is behind the first items
  pub behind_given : (types types' : List CellType) (x : Emitted) (f : ℕ → Operand → Emitted) (n : ℕ) (scope : Scope) → Given names types x n scope →
      Given names types' (f x.next x.operand) x.next (all_behind scope x.nodes) → Given names types' (behind x f) n scope
  behind_given types types' x f n scope h k = record {
    sound = join_sound names n x.next (f x.next x.operand).next scope x.nodes (f x.next x.operand).nodes h.sound k.sound;
    operand = subst (λ s. OperandIs names s types' (f x.next x.operand).operand) (sym (join_behind names scope x.nodes (f x.next x.operand).nodes)) k.operand;
    below = k.below;
  }

  zero_operand : (scope : Scope) (ty : Ty) → IsOperand cells scope (Integer ty) zero_number
  zero_operand scope ty = zero_value ty

  numbers_given : (n : ℕ) (scope : Scope) (op : Operator) (ty to : Ty) (a b : Operand) → code.is_shift op ≡ false → IsOperand cells scope (Integer ty) a → IsOperand cells scope (Integer ty) b →
      IsOperandOf to (computed n (Compute_Numbers op ty a b)).operand → (code.computation_gives (Compute_Numbers op ty a b)).type ≡ Integer to → Given names (Integer to ∷ []) (computed n (Compute_Numbers op ty a b)) n scope
  numbers_given n scope op ty to a b e h k o t =
      computed_given names n scope (Compute_Numbers op ty a b) (Integer to) (h, subst (λ x. code.IsAmount x cells scope ty b) (sym e) k) (constant_of to _ o) t

  overflow_sound : (n : ℕ) (scope : Scope) (c : ℕ) (op : Op) (ty : Ty) (a b : Operand) → code.is_left_shift op ≡ false → IsOperand cells scope (Integer ty) a → IsOperand cells scope (Integer ty) b → HasCheck g (lists_overflow g true ty) Overflow c →
      Sound names n scope (overflow_check n c op ty a b).nodes (overflow_check n c op ty a b).next
  overflow_sound n scope zero op ty a b e h k l = none_sound names n scope
  overflow_sound n scope (suc c) op ty a b e h k l =
      let t = Passes (test.Overflow op ty a b) in
      let x = computed n t in
      let signed = last_true g.is_reached g.overflow true ty.signed (check_so g (lists_overflow g true ty) Overflow c l) in
      let tests = computed_tests names n scope t (h, subst (λ z. code.IsAmount z cells scope ty b) (sym e) k, signed) (bit op ty a b) refl in
      join_sound names n x.next x.next scope x.nodes (checked (suc c) x.operand) tests.sound
      (only_sound names x.next (all_behind scope x.nodes) (Check (suc c) x.operand) refl refl (check_listed g (lists_overflow g true ty) Overflow c l, tests.truth) (λ j. tt))
    where
      bit : (op : Op) (ty : Ty) (a b : Operand) → ConstantIsBit names (computed n (Passes (test.Overflow op ty a b))).operand
      bit op ty (Constant v) (Constant w) = truth_bit _
      bit op ty (Constant v) (Temp j) = tt
      bit op ty (Temp i) b = tt

  after_given : (types : List CellType) (p : Part) (f : ℕ → Emitted) (n : ℕ) (scope : Scope) → Sound names n scope p.nodes p.next → Given names types (f p.next) p.next (all_behind scope p.nodes) → Given names types (after p f) n scope
  after_given types p f n scope h k = record {
    sound = join_sound names n p.next (f p.next).next scope p.nodes (f p.next).nodes h k.sound;
    operand = subst (λ s. OperandIs names s types (f p.next).operand) (sym (join_behind names scope p.nodes (f p.next).nodes)) k.operand;
    below = k.below;
  }

  unary_given : (n : ℕ) (scope : Scope) (op : UnaryOperator) (ty : Ty) (c : ℕ) (a : Operand) → IsOperand cells scope (Integer ty) a → IsBelow n a → HasCheck g (lists_overflow g (is_computing op) ty) Overflow c → Given names (Integer (given (is_computing op) ty) ∷ []) (unary_code n op ty c a) n scope
  unary_given n scope Negate ty c a h p l =
      let check = overflow_check n c arithmetic.Sub ty zero_number a in
      let s = overflow_sound n scope c arithmetic.Sub ty zero_number a refl (zero_operand scope ty) h l in
      after_given (Integer ty ∷ []) check (λ m. computed m (Compute_Numbers operator.Sub ty zero_number a)) n scope s
      (numbers_given check.next (all_behind scope check.nodes) operator.Sub ty ty zero_number a refl (zero_operand (all_behind scope check.nodes) ty) (operand_later names n scope (all_behind scope check.nodes) (Integer ty) a p s.stay h) (unary_of n Negate ty c a (of_operand scope ty a h)) refl)
  unary_given n scope Not ty c a h p l = numbers_given n scope operator.Eq ty int_type a zero_number refl h (zero_operand scope ty) (unary_of n Not ty c a (of_operand scope ty a h)) refl

  arithmetic_given : (n : ℕ) (scope : Scope) (op : Op) (o : Operator) (ty : Ty) (c : ℕ) (a b : Operand) → code.is_left_shift op ≡ false → code.is_shift o ≡ false → (code.computation_gives (Compute_Numbers o ty a b)).type ≡ Integer ty →
      IsOperand cells scope (Integer ty) a → IsOperand cells scope (Integer ty) b → IsBelow n a → IsBelow n b → HasCheck g (lists_overflow g true ty) Overflow c →
      IsOperandOf ty (computed (overflow_check n c op ty a b).next (Compute_Numbers o ty a b)).operand → Given names (Integer ty ∷ []) (after (overflow_check n c op ty a b) (λ m. computed m (Compute_Numbers o ty a b))) n scope
  arithmetic_given n scope op o ty c a b e f t h k p q l is =
      let check = overflow_check n c op ty a b in
      let s = overflow_sound n scope c op ty a b e h k l in
      after_given (Integer ty ∷ []) check (λ m. computed m (Compute_Numbers o ty a b)) n scope s
      (numbers_given check.next (all_behind scope check.nodes) o ty ty a b f (operand_later names n scope (all_behind scope check.nodes) (Integer ty) a p s.stay h) (operand_later names n scope (all_behind scope check.nodes) (Integer ty) b q s.stay k) is t)

  binary_given : (n : ℕ) (scope : Scope) (op : BinaryOperator) (ty : Ty) (c : ℕ) (a b : Operand) → IsOperand cells scope (Integer ty) a → IsOperand cells scope (Integer ty) b → IsBelow n a → IsBelow n b → HasCheck g (lists_overflow g (is_arithmetic op) ty) Overflow c →
      Given names (Integer (given (is_arithmetic op) ty) ∷ []) (binary_code n op ty c a b) n scope
  binary_given n scope binary_operator.Multiply ty c a b h k p q l = arithmetic_given n scope arithmetic.Mul operator.Mul ty c a b refl refl refl h k p q l (binary_of n binary_operator.Multiply ty c a b (of_operand scope ty a h) (of_operand scope ty b k))
  binary_given n scope binary_operator.Add ty c a b h k p q l = arithmetic_given n scope arithmetic.Add operator.Add ty c a b refl refl refl h k p q l (binary_of n binary_operator.Add ty c a b (of_operand scope ty a h) (of_operand scope ty b k))
  binary_given n scope binary_operator.Subtract ty c a b h k p q l = arithmetic_given n scope arithmetic.Sub operator.Sub ty c a b refl refl refl h k p q l (binary_of n binary_operator.Subtract ty c a b (of_operand scope ty a h) (of_operand scope ty b k))
  binary_given n scope binary_operator.Less ty c a b h k p q l = numbers_given n scope operator.Lt ty int_type a b refl h k (binary_of n binary_operator.Less ty c a b (of_operand scope ty a h) (of_operand scope ty b k)) refl
  binary_given n scope binary_operator.LessEqual ty c a b h k p q l = numbers_given n scope operator.Le ty int_type a b refl h k (binary_of n binary_operator.LessEqual ty c a b (of_operand scope ty a h) (of_operand scope ty b k)) refl
  binary_given n scope binary_operator.Greater ty c a b h k p q l = numbers_given n scope operator.Lt ty int_type b a refl k h (binary_of n binary_operator.Greater ty c a b (of_operand scope ty a h) (of_operand scope ty b k)) refl
  binary_given n scope binary_operator.GreaterEqual ty c a b h k p q l = numbers_given n scope operator.Le ty int_type b a refl k h (binary_of n binary_operator.GreaterEqual ty c a b (of_operand scope ty a h) (of_operand scope ty b k)) refl
  binary_given n scope binary_operator.Equal ty c a b h k p q l = numbers_given n scope operator.Eq ty int_type a b refl h k (binary_of n binary_operator.Equal ty c a b (of_operand scope ty a h) (of_operand scope ty b k)) refl
  binary_given n scope binary_operator.NotEqual ty c a b h k p q l = numbers_given n scope operator.Ne ty int_type a b refl h k (binary_of n binary_operator.NotEqual ty c a b (of_operand scope ty a h) (of_operand scope ty b k)) refl

  conversion_given : (n : ℕ) (scope : Scope) (from to : Ty) (a : Operand) → IsOperand cells scope (Integer from) a → IsBelow n a → Given names (Integer to ∷ []) (conversion n (Integer from ∷ []) to a) n scope
  conversion_given n scope from to a h p = go (same_type (Integer to) (Integer from)) refl (conversion_of n to from a (of_operand scope from a h)) where
    go : (x : Bool) → same_type (Integer to) (Integer from) ≡ x → IsOperandOf to (if x && true then nothing n a else computed n (Convert to a)).operand → Given names (Integer to ∷ []) (if x && true then nothing n a else computed n (Convert to a)) n scope
    go true e o = nothing_given names n scope (Integer to) a (subst (λ t. IsOperand cells scope (Integer t) a) (sym (same_types to from e)) h) p
    go false e o = computed_given names n scope (Convert to a) (Integer to) (integer_operand scope from a h) (constant_of to _ o) refl

  differs_bit : (ty : Ty) (a : Operand) (n : ℕ) → IsOperandOf ty a → ConstantIsBit names (computed n (Compute_Numbers operator.Ne ty a zero_number)).operand
  differs_bit ty (Constant (Number z)) n h = truth_bit _
  differs_bit ty (Constant Null) n h = absurd h
  differs_bit ty (Constant Invalid) n h = absurd h
  differs_bit ty (Constant (At o f)) n h = absurd h
  differs_bit ty (Temp j) n h = tt

  truth_tests : (n : ℕ) (scope : Scope) (types : List CellType) (a : Operand) → IsInteger types → OperandIs names scope types a → Tests names (truth_code n types a) n scope
  truth_tests n scope [] a p h = absurd p
  truth_tests n scope (Integer ty ∷ []) a p h = computed_tests names n scope (Compute_Numbers operator.Ne ty a zero_number) (h, zero_operand scope ty) (differs_bit ty a n (of_operand scope ty a h)) refl
  truth_tests n scope (Pointer ∷ []) a p h = absurd p
  truth_tests n scope (t ∷ u ∷ types) a p h = absurd p

  converted_given : (n : ℕ) (scope : Scope) (types : List CellType) (to : Ty) (a : Operand) → IsInteger types → OperandIs names scope types a → IsBelow n a → Given names (Integer to ∷ []) (conversion n types to a) n scope
  converted_given n scope [] to a p h q = absurd p
  converted_given n scope (Integer ty ∷ []) to a p h q = conversion_given n scope ty to a h q
  converted_given n scope (Pointer ∷ []) to a p h q = absurd p
  converted_given n scope (t ∷ u ∷ types) to a p h q = absurd p

  -- ---- expressions

  there : (o : ℕ) (ty : CellType) (scope : Scope) → cells o ≡ ty ∷ [] → IsOperand cells scope Pointer (cell o 0)
  there o ty scope e = (subst (λ ts. 0 < length ts) (sym e) (omega arith), omega arith)

  as_type : (scope : Scope) (types : List CellType) (ty : CellType) (a : Operand) → types ≡ ty ∷ [] → OperandIs names scope types a → IsOperand cells scope ty a
  as_type scope types ty a e h = subst (λ ts. OperandIs names scope ts a) e h

  pub behind_tests : (types : List CellType) (x : Emitted) (f : ℕ → Operand → Emitted) (n : ℕ) (scope : Scope) → Given names types x n scope → Tests names (f x.next x.operand) x.next (all_behind scope x.nodes) → Tests names (behind x f) n scope
  behind_tests types x f n scope h k = record {
    sound = join_sound names n x.next (f x.next x.operand).next scope x.nodes (f x.next x.operand).nodes h.sound k.sound;
    truth = subst (λ s. IsTruth s (f x.next x.operand).operand) (sym (join_behind names scope x.nodes (f x.next x.operand).nodes)) k.truth;
    below = k.below;
  }

  checked_sound : (c n : ℕ) (scope : Scope) (a : Operand) → IsTruth scope a → HasCheck g g.is_reached Assertion c → Sound names n scope (checked c a) n
  checked_sound zero n scope a h l = none_sound names n scope
  checked_sound (suc c) n scope a h l = only_sound names n scope (Check (suc c) a) refl refl (check_listed g g.is_reached Assertion c l, h) (λ j. tt)

  pub expression_given : (e : TypedTree) → IsTyped cells e → HasChecks g e → (n : ℕ) (scope : Scope) → Given names (type_of e) (expression n e) n scope
  expression_given (tree.Constant ty v) h c n scope = nothing_given names n scope ty (Constant v) (fits_constant scope ty v h) tt
  expression_given (tree.Choice ty) h c n scope = record {
    sound = result_sound names n scope (Choice n ty) (value_of (Integer ty)) refl refl tt (λ j. tt);
    operand = subst (λ o. code.IsOfType (Integer ty) o) (sym (result_known names n scope (Choice n ty) (value_of (Integer ty)) refl)) refl;
    below = omega arith;
  }
  expression_given (tree.Read ty (tree.Object o)) h c n scope = record {
    sound = result_sound names n scope (Read n ty (cell o 0)) (value_of ty) refl refl (there o ty scope h) (λ j. tt);
    operand = subst (λ k. code.IsOfType ty k) (sym (result_known names n scope (Read n ty (cell o 0)) (value_of ty) refl)) refl;
    below = omega arith;
  }
  expression_given (tree.Unary op ty c e) (h, is) (k, l) n scope =
      let x = expression n e in
      let w = expression_given e h k n scope in
      behind_given (type_of e) _ x (λ m a. unary_code m op ty c a) n scope w (unary_given x.next (all_behind scope x.nodes) op ty c x.operand (as_type _ (type_of e) (Integer ty) x.operand is w.operand) w.below l)
  expression_given (tree.Binary op ty c x y) (h, is, h', is') (k, k', l) n scope =
      let a = expression n x in
      let b = expression a.next y in
      let later = all_behind scope a.nodes in
      let last = all_behind later b.nodes in
      let v = expression_given x h k n scope in
      let w = expression_given y h' k' a.next later in
      behind_given (type_of x) _ a (λ m p. behind (expression m y) (λ j q. binary_code j op ty c p q)) n scope v
      (behind_given (type_of y) _ b (λ j q. binary_code j op ty c a.operand q) a.next later w
      (binary_given b.next last op ty c a.operand b.operand (operand_later names a.next later last (Integer ty) a.operand v.below w.sound.stay (as_type later (type_of x) (Integer ty) a.operand is v.operand)) (as_type last (type_of y) (Integer ty) b.operand is' w.operand)
      (below_more a.next b.next a.operand (grows names a.next b.next later b.nodes w.sound) v.below) w.below l))
  expression_given (tree.Convert ty e) (h, is) k n scope =
      let x = expression n e in
      let w = expression_given e h k n scope in
      behind_given (type_of e) _ x (λ m a. conversion m (type_of e) ty a) n scope w (converted_given x.next (all_behind scope x.nodes) (type_of e) ty x.operand is w.operand w.below)
  expression_given (tree.Assign ty (tree.Object o) e) (is, h, is') k n scope =
      let x = expression n e in
      let later = all_behind scope x.nodes in
      let w = expression_given e h k n scope in
      behind_given (type_of e) (ty ∷ []) x (λ m a. record { nodes = only (Write ty (cell o 0) a); operand = a; next = m }) n scope w
      (record { sound = only_sound names x.next later (Write ty (cell o 0) x.operand) refl refl (there o ty later is, as_type later (type_of e) ty x.operand is' w.operand) (λ j. tt); operand = as_type later (type_of e) ty x.operand is' w.operand; below = w.below })
  expression_given (tree.Assert c e) (h, is) (k, l) n scope =
      let x = expression n e in
      let w = expression_given e h k n scope in
      let t = behind_tests (type_of e) x (λ m a. truth_code m (type_of e) a) n scope w (truth_tests x.next (all_behind scope x.nodes) (type_of e) x.operand is w.operand) in
      let y = condition n e in
      record {
        sound = join_sound names n y.next y.next scope y.nodes (checked c y.operand) t.sound (checked_sound c y.next (all_behind scope y.nodes) y.operand t.truth l);
        operand = tt;
        below = t.below;
      }

  pub condition_tests : (e : TypedTree) → IsTyped cells e → IsInteger (type_of e) → HasChecks g e → (n : ℕ) (scope : Scope) → Tests names (condition n e) n scope
  condition_tests e h is k n scope =
      let x = expression n e in
      let w = expression_given e h k n scope in
      behind_tests (type_of e) x (λ m a. truth_code m (type_of e) a) n scope w (truth_tests x.next (all_behind scope x.nodes) (type_of e) x.operand is w.operand)
