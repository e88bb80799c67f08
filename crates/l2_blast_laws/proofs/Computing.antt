-- What the words of computations show.
use Rattle.std.proofs.Common.{◌≡◌, ℕ, zero, suc, ◌+◌, ◌≤◌, ◌<◌, ◌^◌, Bool, true, false, not, ℤ, pos, ◌+ℤ◌, ◌-ℤ◌, refl, sym, ap, ◌∙◌, subst, List, [], ◌∷◌, ◌++◌, length, Option, Some, None, IfSome, arith}
use Rattle.std.proofs.lemmas.Int.{ints}
use Rattle.std.proofs.lemmas.List.{length-append}
use Rattle.std.specs.Prelude.{◌==◌, ◌≤ℤ◌, nat_le, nat_lt, if◌then◌else◌}
use Rattle.l2_bits.specs.declared.types.Ty.{Ty}
use Rattle.l2_bits.specs.declared.operators.Op.{Op}
use Rattle.l2_bits.specs.declared.operators.Op.TheVariants as exact
use Rattle.l2_bits.specs.Types.{int_type, long_type}
use Rattle.l2_bits.specs.Values.{IsValue, residue}
use Rattle.l2_bits.proofs.TypeLaws.{width_pos}
use Rattle.l2_bits.specs.Operators.{breaks_division, breaks_shift, overflows, IsRightOperand, convert}
use Rattle.l2_runs.specs.declared.cells.CellType.TheVariants.{Integer, Pointer}
use Rattle.l2_runs.specs.declared.cells.CellValue.{CellValue}
use Rattle.l2_runs.specs.declared.cells.CellValue.TheVariants.{Number, Null, Invalid, At}
use Rattle.l2_runs.specs.declared.member.Member.{Member}
use Rattle.l2_runs.specs.declared.member.Member.TheVariants as member
use Rattle.l2_runs.specs.Members.{has, targets, Within}
use Rattle.l2_runs.specs.Operators.{truth}
use Rattle.l2_code.specs.declared.action.Operator.{Operator}
use Rattle.l2_code.specs.declared.action.Operator.TheVariants.{Add, Sub, Mul, Div, Rem, Shl, Shr, And, Or, Xor, Eq, Ne, Lt, Le}
use Rattle.l2_code.specs.declared.action.PointerOperator.{PointerOperator}
use Rattle.l2_code.specs.declared.action.PointerOperator.TheVariants as pointers
use Rattle.l2_code.specs.declared.action.Operand.{Operand}
use Rattle.l2_code.specs.declared.action.Operand.TheVariants.{Constant, Temp}
use Rattle.l2_code.specs.declared.action.Test.{Test}
use Rattle.l2_code.specs.declared.action.Test.TheVariants as test
use Rattle.l2_code.specs.declared.action.Computation.{Computation}
use Rattle.l2_code.specs.declared.action.Computation.TheVariants.{Numbers, Convert, Move, Pointers, Passes}
use Rattle.l2_code.specs.Values as values
use Rattle.l2_code.specs.Values.{operand_value, operate, on_numbers, as_number, converted, moved, on_pointers, passes, compute, are_numbers, is_number, is_below, is_not_null, is_not_invalid, has_cells, is_some, same_object}
use Rattle.l2_code.specs.WellFormed.{is_shift, is_left_shift}
use Rattle.l2_ssa.specs.Steps.{Names, bit, number_in, IsBefore, AreBefore, operands_of, operands_of_test, looked_at, LooksInto}
use Rattle.l2_gates.specs.Gates.{Lit, F, Made}
use Rattle.l2_gates.specs.Models.{value, Ok, Gives}
use Rattle.l2_circuits.specs.Words.{Word, truth_word, resized}
use Rattle.l2_circuit_laws.specs.Values.{values as bit_values, bit_number, number}
use Rattle.l2_circuit_laws.proofs.Choices.{truths_show}
use Rattle.l2_operator_laws.specs.Words.{ShowsValue}
use Rattle.l2_number_circuits.specs.Numbers.{number_word, result_type}
use Rattle.l2_number_circuits.specs.Law.{ShowsRight, RightLength}
use Rattle.l2_pointer_circuits.specs.Words.{selector, offset, low_half, moved_offset, operator_word}
use Rattle.l2_pointer_circuits.specs.Shows.{pointer_at, ShowsPointer, HaveCells}
use Rattle.l2_pointer_circuits.proofs.Halves.{selector_length, offset_length}
use Rattle.l2_blast.specs.Sorts.{Sort, Truth, Part, Cell, Sorts, sort_of_operator, sort_of_pointers, sort_of_computation, HasType, IsOf, HasNumber, IsNumber, IsRight, IsSet, IsTypedTest, IsTypedComputation}
use Rattle.l2_blast.specs.Words.{Env, name, word, wide_word, room, is_signed, members, Setting, test_bit, computed_word}
use Rattle.l2_blast_laws.specs.Law.{shown, IsSized}
use Rattle.l2_blast_laws.proofs.Circuits.{Circuits}
use Rattle.l2_blast_laws.proofs.Operands.{value_whole, part_below, Proper, ShownBy, value_shown, truth_shows, Told, OfType, Wide, value_is, number_is, wide_is, pointer_is}
use Rattle.l2_blast_laws.proofs.Sets.{has_members}

-- ---- options

pub if_some : {A : Type 0} (P : A → Type 0) (o : Option A) → ((x : A) → o ≡ Some x → P x) → IfSome o P
if_some P None f = tt
if_some P (Some x) f = f x refl

if_number : (y : CellValue) (o : Option ℤ) → ((z : ℤ) → o ≡ Some z → y ≡ Number z) → IfSome (as_number o) (λ w. y ≡ w)
if_number y None f = tt
if_number y (Some z) f = f z refl

-- ---- truth values

truth_value : (b : Bool) → IsValue int_type (truth b)
truth_value true = record { from = omega (arith, ints); to = omega (arith, ints) }
truth_value false = record { from = omega (arith, ints); to = omega (arith, ints) }

-- the word of a truth value
pub truth_proper : (v : ℕ → Bool) → v 0 ≡ true → (l : Lit) → Proper v (Truth 32) (truth_word l)
truth_proper v t l =
    let s = truths_show v t l in
    record { size = s.size; truth = (omega arith, s.number ∙ small (value v l)) }
  where
    small : (b : Bool) → residue (2 ^ 32) (pos (bit_number b)) ≡ bit_number b
    small true = refl
    small false = refl

-- what a truth value's word shows as a number of type `int`
truth_number : (v : ℕ → Bool) → v 0 ≡ true → (l : Lit) (z : ℤ) → ShowsValue v int_type (truth_word l) z → bit (value v l) ≡ Number z
truth_number v t l z h =
    value_shown v int_type (truth_word l) (truth (value v l)) (truth_shows v (truth_word l) (truth_proper v t l))
    ∙ sym (value_shown v int_type (truth_word l) z h)

-- ---- pointers' operators

-- what they give: a truth value, or a distance
abbrev Numeric : (ℤ → Type 0) → Option CellValue → Type 0
Numeric P None = Unit {0}
Numeric P (Some (Number z)) = P z
Numeric P (Some Null) = ⊥
Numeric P (Some Invalid) = ⊥
Numeric P (Some (At o f)) = ⊥

equal_numeric : (f : Bool → Bool) (x y : CellValue) → Numeric (λ z. IsValue int_type z) (values.on_equal f x y)
equal_numeric f Invalid y = tt
equal_numeric f (Number z) Invalid = tt
equal_numeric f (Number z) (Number y) = truth_value (f false)
equal_numeric f (Number z) Null = truth_value (f false)
equal_numeric f (Number z) (At o i) = truth_value (f false)
equal_numeric f Null Invalid = tt
equal_numeric f Null (Number y) = truth_value (f false)
equal_numeric f Null Null = truth_value (f true)
equal_numeric f Null (At o i) = truth_value (f false)
equal_numeric f (At p j) Invalid = tt
equal_numeric f (At p j) (Number y) = truth_value (f false)
equal_numeric f (At p j) Null = truth_value (f false)
equal_numeric f (At p j) (At o i) = truth_value (f (values.same_place (At p j) (At o i)))

order_numeric : (f : ℕ → ℕ → Bool) (x y : CellValue) → Numeric (λ z. IsValue int_type z) (values.in_order f x y)
order_numeric f (At o n) (At p m) = go (o == p)
  where
    go : (b : Bool) → Numeric (λ z. IsValue int_type z) (if b then Some (Number (truth (f n m))) else None)
    go true = truth_value (f n m)
    go false = tt
order_numeric f (Number z) y = tt
order_numeric f Null y = tt
order_numeric f Invalid y = tt
order_numeric f (At o n) (Number z) = tt
order_numeric f (At o n) Null = tt
order_numeric f (At o n) Invalid = tt

-- an offset that a word shows is below 2 to the power of 17
small_offset : (n f : ℕ) (o i : ℕ) → f < 131072 → pointer_at n f ≡ At o i → i < 131072
small_offset zero zero o i h e = cc
small_offset zero (suc f) o i h e = let q : suc f ≡ i = same_at e in omega arith
  where
    same_at : At 131071 (suc f) ≡ At o i → suc f ≡ i
    same_at e = cc
small_offset (suc zero) zero o i h e = cc
small_offset (suc zero) (suc f) o i h e = let q : suc f ≡ i = same_at e in omega arith
  where
    same_at : At 0 (suc f) ≡ At o i → suc f ≡ i
    same_at e = cc
small_offset (suc (suc n)) f o i h e = let q : f ≡ i = same_at e in omega arith
  where
    same_at : At (suc n) f ≡ At o i → f ≡ i
    same_at e = cc

distance_numeric : (x y : CellValue) → ((o i : ℕ) → x ≡ At o i → i < 131072) → ((o i : ℕ) → y ≡ At o i → i < 131072) → Numeric (λ z. IsValue long_type z) (values.distance x y)
distance_numeric (At o n) (At p m) h k = go (o == p)
  where
    fits : (n m : ℕ) → n < 131072 → m < 131072 → IsValue long_type (pos n -ℤ pos m)
    fits n m a b = record { from = omega (arith, ints); to = omega (arith, ints) }

    go : (b : Bool) → Numeric (λ z. IsValue long_type z) (if b then Some (Number (pos n -ℤ pos m)) else None)
    go true = fits n m (h o n refl) (k p m refl)
    go false = tt
distance_numeric (Number z) y h k = tt
distance_numeric Null y h k = tt
distance_numeric Invalid y h k = tt
distance_numeric (At o n) (Number z) h k = tt
distance_numeric (At o n) Null h k = tt
distance_numeric (At o n) Invalid h k = tt

-- a number that is given
numeric_some : (P : ℤ → Type 0) (y : CellValue) (o : Option CellValue) → Numeric P o → ((z : ℤ) → o ≡ Some (Number z) → P z → y ≡ Number z) → IfSome o (λ w. y ≡ w)
numeric_some P y None h f = tt
numeric_some P y (Some (Number z)) h f = f z refl h
numeric_some P y (Some Null) h f = absurd h
numeric_some P y (Some Invalid) h f = absurd h
numeric_some P y (Some (At o i)) h f = absurd h

low_length : (x : List Lit) → length (low_half x) ≡ 17
unfolding low_half
low_length x = resized_length 17 x
  where
    resized_length : (n : ℕ) (x : List Lit) → length (resized n F x) ≡ n
    resized_length zero x = refl
    resized_length (suc n) [] = ap suc (resized_length n [])
    resized_length (suc n) (y ∷ x) = ap suc (resized_length n x)

moved_length : (a x : List Lit) → length a ≡ 34 → length (selector a ++ low_half x) ≡ 34
moved_length a x e = length-append (selector a) (low_half x) ∙ (λ i. selector_length a e i + low_length x i)

module _ (c : Circuits) (s : Setting) (sized : IsSized s) (v : ℕ → Bool) (true_one : v 0 ≡ true) (sorts : Sorts) (env : Env) (t : Names)
    (sorted : (i : ℕ) → i < length env → (name env i).sort ≡ sorts i)
    (at : (i : ℕ) → i < length env → ShownBy v (sorts i) (name env i).bits (t i)) (m : Made) where
  abbrev val : Operand → CellValue
  val a = operand_value t a

  of_type : (ty : Ty) (a : Operand) → IsBefore (length env) a → IsOf s.types.objects sorts (Integer ty) a → OfType v ty (word ty.width env a) (val a)
  of_type ty a b h = value_is c v true_one s.types.objects sized.small sorts env t sorted at ty a b h

  told : (least : ℕ) (a : Operand) → least ≤ 66 → IsBefore (length env) a → IsNumber sorts least a → Told v least (is_signed env a) (word room env a) (val a)
  told least a e b h = number_is c v true_one s.types.objects sized.small sorts env t sorted at least a e b h

  wide : (a : Operand) → IsBefore (length env) a → IsNumber sorts 1 a → Wide v 96 (wide_word 96 env a) (val a)
  wide a b h = wide_is c v true_one s.types.objects sized.small sorts env t sorted at 96 a b h

  pointer : (a : Operand) → IsBefore (length env) a → IsOf s.types.objects sorts Pointer a → ShowsPointer v (word 34 env a) (val a)
  pointer a b h = pointer_is c v true_one s.types.objects sized.small sorts env t sorted at a b h

  any_number : (ty : Ty) (b : Operand) → IsOf s.types.objects sorts (Integer ty) b → IsNumber sorts 1 b
  any_number ty (Constant (Number z)) h = value_whole ty z h
  any_number ty (Constant Null) h = absurd h
  any_number ty (Constant Invalid) h = absurd h
  any_number ty (Constant (At o f)) h = absurd h
  any_number ty (Temp n) h = go (sorts n) h
    where
      go : (x : Sort) → HasType (Integer ty) x → HasNumber 1 x
      go (Truth k) h = (h.0, omega arith)
      go Part h = absurd h
      go (Cell (Integer u)) h = width_pos u
      go (Cell Pointer) h = cc

  right : (op : Op) (ty : Ty) (z : ℤ) → is_left_shift op ≡ false → IsValue ty z → IsRightOperand op ty z
  right exact.Add ty z e h = h
  right exact.Sub ty z e h = h
  right exact.Mul ty z e h = h
  right exact.Shl ty z e h = cc

  module _ (set : Member → Bool) (is_set : IsSet s.types.objects set) where
    abbrev listed : List Member
    listed = members s.objects set

    in_list : (x : CellValue) → Within (targets x) set → Within (targets x) (has listed)
    in_list x h = λ m e. has_members set s.types.objects s.objects is_set sized.small.some sized.counted m ∙ h m e

    pub have_cells : HaveCells s.types.objects listed
    have_cells o e = is_set o (sym (has_members set s.types.objects s.objects is_set sized.small.some sized.counted (member.Object o)) ∙ e)

    -- ---- tests

    end_small : (l : ℕ) → l ≤ 65536 → pos (l + 1) ≤ℤ pos 65537
    end_small l h = omega (arith, ints)

    test_is : (x : Test) → AreBefore (length env) (operands_of_test x) → IsTypedTest s.types sorts x → LooksInto t (looked_at (Passes x)) set
        → Gives v m (passes s.types [] t x) (test_bit s.types s.objects set env x m)
    test_is (test.Division ty a b) p h k =
        let x = of_type ty a p.0 h.0 in
        let y = of_type ty b p.1.0 h.1 in
        subst (λ q. Gives v m q (test_bit s.types s.objects set env (test.Division ty a b) m)) (sym (λ i. are_numbers (λ z w. not (breaks_division ty z w)) (x.is i) (y.is i)))
        (c.divisions_are v true_one ty _ _ x.number y.number m x.shows y.shows)
    test_is (test.Shift ty a) p h k =
        let x = told 32 a (omega arith) p.0 h in
        subst (λ q. Gives v m q (test_bit s.types s.objects set env (test.Shift ty a) m)) (sym (λ i. is_number (λ z. not (breaks_shift ty z)) (x.is i)))
        (c.shifts_are v true_one ty _ x.width _ x.number m (let e = x.enough in omega arith) x.tells)
    test_is (test.Overflow op ty a b) p h k =
        let x = of_type ty a p.0 h.2 in
        let y = of_type ty b p.1.0 h.3 in
        let n = told 1 b (omega arith) p.1.0 (any_number ty b h.3) in
        let e : Number y.number ≡ Number n.number = sym y.is ∙ n.is in
        subst (λ q. Gives v m q (test_bit s.types s.objects set env (test.Overflow op ty a b) m)) (sym (λ i. are_numbers (λ z w. not (overflows op ty z w)) (x.is i) (n.is i)))
        (c.overflows_are v true_one op ty (is_signed env b) n.width _ _ x.number n.number m h.1 x.shows n.tells
        (right op ty n.number h.0 (subst (λ (w : CellValue). IsValue ty (number_in w)) e y.shows.value)))
    test_is (test.Index l a) p h k =
        let x = told 32 a (omega arith) p.0 h.1 in
        subst (λ q. Gives v m q (test_bit s.types s.objects set env (test.Index l a) m)) (sym (λ i. is_number (is_below (pos l)) (x.is i)))
        (c.indexes_are v true_one (pos l) _ x.width _ x.number m (omega (arith, ints)) (let e = h.0.1 in omega (arith, ints)) x.enough x.tells)
    test_is (test.IndexEnd l a) p h k =
        let x = told 32 a (omega arith) p.0 h.1 in
        subst (λ q. Gives v m q (test_bit s.types s.objects set env (test.IndexEnd l a) m)) (sym (λ i. is_number (is_below (pos l +ℤ pos 1)) (x.is i)))
        (c.indexes_are v true_one (pos (l + 1)) _ x.width _ x.number m (omega (arith, ints)) (end_small l h.0.1) x.enough x.tells)
    test_is (test.Null a) p h k = c.null_is v true_one s.types.objects sized.small listed have_cells _ (val a) m (pointer a p.0 h) (in_list (val a) k)
    test_is (test.Invalid a) p h k = c.invalid_is v true_one s.types.objects sized.small listed have_cells _ (val a) m (pointer a p.0 h) (in_list (val a) k)
    test_is (test.Live a) p h k = absurd h
    test_is (test.Cells x a) p h k =
        c.cells_are v true_one s.types.objects sized.small listed (s.types.pointed x) h.0 _ (val a) m (pointer a p.0 h.1) (in_list (val a) k)
    test_is (test.Move by a b) p h k =
        let y = wide b p.1.0 h.2 in
        subst (λ q. Gives v m q (test_bit s.types s.objects set env (test.Move by a b) m)) (sym (λ i. is_some (moved s.types.objects by (val a) (y.is i))))
        (c.moves_are v true_one s.types.objects sized.small listed have_cells by y.number _ _ (val a) m h.0 y.whole (pointer a p.0 h.1) y.shows (in_list (val a) k))
    test_is (test.Same a b) p h k =
        c.same_is v true_one s.types.objects sized.small listed have_cells _ _ (val a) (val b) m (pointer a p.0 h.0) (pointer b p.1.0 h.1) (in_list (val a) k)

    -- ---- computations

    -- the right operand of an operator
    right_shows : (shift : Bool) (ty : Ty) (b : Operand) → IsBefore (length env) b → IsRight shift s.types.objects sorts ty b
        → (z : ℤ) × (val b ≡ Number z) × (ShowsRight shift v ty (word (if shift then room else ty.width) env b) z) × (RightLength shift ty (word (if shift then room else ty.width) env b))
    right_shows true ty b p h =
        let y = told 32 b (omega arith) p h in
        (y.number, y.is, record { signed = is_signed env b; width = y.width; tells = y.tells }, tt)
    right_shows false ty b p h = let y = of_type ty b p h in (y.number, y.is, y.shows, y.shows.shows.size)

    -- an operator that gives a value of its type
    plain : (ty : Ty) (w : Word) (y : CellValue) (o : Option ℤ) → length w.bits ≡ ty.width → y ≡ shown v (Cell (Integer ty)) w.bits
        → ((z : ℤ) → o ≡ Some z → ShowsValue v ty w.bits z) → Proper v (Cell (Integer ty)) w.bits × IfSome (as_number o) (λ x. y ≡ x)
    plain ty w y o e is f = (record { size = e; truth = tt }, if_number y o (λ z q. is ∙ sym (value_shown v ty w.bits z (f z q))))

    -- one that gives a truth value
    asked : (l : Lit) (y : CellValue) (o : Option ℤ) → y ≡ bit (value v l) → ((z : ℤ) → o ≡ Some z → ShowsValue v int_type (truth_word l) z)
        → Proper v (Truth 32) (truth_word l) × IfSome (as_number o) (λ x. y ≡ x)
    asked l y o is f = (truth_proper v true_one l, if_number y o (λ z q. is ∙ truth_number v true_one l z (f z q)))

    operator_is : (op : Operator) (ty : Ty) (a b : List Lit) (x z : ℤ) (y : CellValue) → ShowsValue v ty a x → ShowsRight (is_shift op) v ty b z → RightLength (is_shift op) ty b
        → Ok v (number_word op ty a b m).made → y ≡ shown v (sort_of_operator op ty) (number_word op ty a b m).bits
        → Proper v (sort_of_operator op ty) (number_word op ty a b m).bits × IfSome (as_number (operate op ty x z)) (λ w. y ≡ w)
    operator_is op ty a b x z y h k l ok is = go op h k l ok is (c.numbers_have_lengths op ty a b m h.shows.size l) (λ r e. (c.numbers_show v true_one op ty a b x z r m h k e ok).word)
      where
        go : (op : Operator) → ShowsValue v ty a x → ShowsRight (is_shift op) v ty b z → RightLength (is_shift op) ty b
            → Ok v (number_word op ty a b m).made → y ≡ shown v (sort_of_operator op ty) (number_word op ty a b m).bits
            → length (number_word op ty a b m).bits ≡ (result_type op ty).width
            → ((r : ℤ) → operate op ty x z ≡ Some r → ShowsValue v (result_type op ty) (number_word op ty a b m).bits r)
            → Proper v (sort_of_operator op ty) (number_word op ty a b m).bits × IfSome (as_number (operate op ty x z)) (λ w. y ≡ w)
        go Add h k l ok is e f = plain ty (number_word Add ty a b m) y (operate Add ty x z) e is f
        go Sub h k l ok is e f = plain ty (number_word Sub ty a b m) y (operate Sub ty x z) e is f
        go Mul h k l ok is e f = plain ty (number_word Mul ty a b m) y (operate Mul ty x z) e is f
        go Div h k l ok is e f = plain ty (number_word Div ty a b m) y (operate Div ty x z) e is f
        go Rem h k l ok is e f = plain ty (number_word Rem ty a b m) y (operate Rem ty x z) e is f
        go Shl h k l ok is e f = plain ty (number_word Shl ty a b m) y (operate Shl ty x z) e is f
        go Shr h k l ok is e f = plain ty (number_word Shr ty a b m) y (operate Shr ty x z) e is f
        go And h k l ok is e f = plain ty (number_word And ty a b m) y (operate And ty x z) e is f
        go Or h k l ok is e f = plain ty (number_word Or ty a b m) y (operate Or ty x z) e is f
        go Xor h k l ok is e f = plain ty (number_word Xor ty a b m) y (operate Xor ty x z) e is f
        go Eq h k l ok is e f = asked _ y (operate Eq ty x z) is f
        go Ne h k l ok is e f = asked _ y (operate Ne ty x z) is f
        go Lt h k l ok is e f = asked _ y (operate Lt ty x z) is f
        go Le h k l ok is e f = asked _ y (operate Le ty x z) is f

    pointers_are : (op : PointerOperator) (a b : List Lit) (x z y : CellValue) → ShowsPointer v a x → ShowsPointer v b z
        → Ok v (operator_word op a b m).made → y ≡ shown v (sort_of_pointers op) (operator_word op a b m).bits
        → Proper v (sort_of_pointers op) (operator_word op a b m).bits × IfSome (on_pointers op x z) (λ w. y ≡ w)
    pointers_are pointers.Diff a b x z y h k ok is =
        let g = c.operators_show v true_one pointers.Diff a b x z m h k ok in (
          record { size = g.size; truth = tt },
          numeric_some (λ r. IsValue long_type r) y (values.distance x z) (distance_numeric x z (offset_small a x h) (offset_small b z k))
              (λ r e q. is ∙ sym (value_shown v long_type (operator_word pointers.Diff a b m).bits r (record { value = q; shows = g.shows r e }))),
        )
      where
        offset_small : (a : List Lit) (x : CellValue) → ShowsPointer v a x → (o i : ℕ) → x ≡ At o i → i < 131072
        offset_small a x h o i e = small_offset (number (bit_values v (selector a))) (number (bit_values v (offset a))) o i (part_below v (offset a) (offset_length a h.size)) (h.is ∙ e)
    pointers_are pointers.Eq a b x z y h k ok is =
        let g = c.operators_show v true_one pointers.Eq a b x z m h k ok in
        (truth_proper v true_one _, numeric_some (λ r. IsValue int_type r) y (on_pointers pointers.Eq x z) (equal_numeric (λ e. e) x z) (λ r e q. is ∙ truth_number v true_one _ r (record { value = q; shows = g.shows r e })))
    pointers_are pointers.Ne a b x z y h k ok is =
        let g = c.operators_show v true_one pointers.Ne a b x z m h k ok in
        (truth_proper v true_one _, numeric_some (λ r. IsValue int_type r) y (on_pointers pointers.Ne x z) (equal_numeric not x z) (λ r e q. is ∙ truth_number v true_one _ r (record { value = q; shows = g.shows r e })))
    pointers_are pointers.Lt a b x z y h k ok is =
        let g = c.operators_show v true_one pointers.Lt a b x z m h k ok in
        (truth_proper v true_one _, numeric_some (λ r. IsValue int_type r) y (on_pointers pointers.Lt x z) (order_numeric nat_lt x z) (λ r e q. is ∙ truth_number v true_one _ r (record { value = q; shows = g.shows r e })))
    pointers_are pointers.Le a b x z y h k ok is =
        let g = c.operators_show v true_one pointers.Le a b x z m h k ok in
        (truth_proper v true_one _, numeric_some (λ r. IsValue int_type r) y (on_pointers pointers.Le x z) (order_numeric nat_le x z) (λ r e q. is ∙ truth_number v true_one _ r (record { value = q; shows = g.shows r e })))

    pub computed_is : (x : Computation) (y : CellValue) → AreBefore (length env) (operands_of x) → IsTypedComputation s.types sorts x
        → Ok v (computed_word s.types s.objects set env x m).made → y ≡ shown v (sort_of_computation x) (computed_word s.types s.objects set env x m).bits
        → Proper v (sort_of_computation x) (computed_word s.types s.objects set env x m).bits × (LooksInto t (looked_at x) set → IfSome (compute s.types [] t x) (λ w. y ≡ w))
    computed_is (Numbers op ty a b) y p h ok is =
        let x = of_type ty a p.0 h.0 in
        let r = right_shows (is_shift op) ty b p.1.0 h.1 in
        let g = operator_is op ty _ _ x.number r.0 y x.shows r.2 r.3 ok is in
        (g.0, λ k. subst (λ (o : Option CellValue). IfSome o (λ w. y ≡ w)) (sym (λ i. on_numbers (operate op ty) (x.is i) (r.1 i))) g.1)
    computed_is (Convert ty a) y p h ok is =
        let x = told 1 a (omega arith) p.0 h in
        let g = c.converted_show v true_one ty (is_signed env a) x.width _ x.number m x.tells ok in (
          record { size = g.word.shows.size; truth = tt },
          λ k. subst (λ (o : Option CellValue). IfSome o (λ w. y ≡ w)) (sym (λ i. converted ty (x.is i))) (is ∙ sym (value_shown v ty _ (convert ty x.number) g.word)),
        )
    computed_is (Move by a b) y p h ok is =
        let x = pointer a p.0 h.1 in
        let n = wide b p.1.0 h.2 in (
          record { size = moved_length (word 34 env a) (moved_offset by (word 34 env a) (wide_word 96 env b) m).bits x.size; truth = tt },
          λ k. subst (λ (o : Option CellValue). IfSome o (λ w. y ≡ w)) (sym (λ i. moved s.types.objects by (val a) (n.is i)))
              (if_some (λ w. y ≡ w) (moved s.types.objects by (val a) (Number n.number))
              (λ w e. is ∙ ((c.moves_show v true_one s.types.objects sized.small listed have_cells by n.number _ _ (val a) m h.0 n.whole x n.shows (in_list (val a) k) ok).shows w e).is)),
        )
    computed_is (Pointers op a b) y p h ok is =
        let g = pointers_are op _ _ (val a) (val b) y (pointer a p.0 h.0) (pointer b p.1.0 h.1) ok is in
        (g.0, λ k. g.1)
    computed_is (Passes x) y p h ok is =
        (truth_proper v true_one _, λ k. is ∙ ap bit (test_is x p h k ok).is)
