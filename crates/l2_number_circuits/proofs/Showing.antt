-- Operators and conversions of words that show values.
use Rattle.std.proofs.Common.{◌≡◌, ◌≢◌, ℕ, zero, suc, ◌-◌, ◌*◌, ◌^◌, ◌≤◌, ◌<◌, Bool, true, false, not, ℤ, pos, negsuc, ◌+ℤ◌, ◌-ℤ◌, ◌*ℤ◌, int_lt, int_le, unsigned_abs, Some, None, refl, sym, ap, ◌∙◌, subst, List, arith}
use Rattle.std.specs.Prelude.{if◌then◌else◌}
use Rattle.std.specs.Ordering.{int_eq}
use Rattle.std.proofs.lemmas.Int.{ints}
use Rattle.std.proofs.lemmas.Bool.{or_parts, not-false}
use Rattle.std.proofs.Math.Nat.{mod-eq_of_lt}
use Rattle.l2_bits.specs.declared.types.Ty.{Ty}
use Rattle.l2_bits.specs.Types.{int_type}
use Rattle.l2_bits.specs.Values.{IsValue, wrap}
use Rattle.l2_bits.specs.Bits.{and, or, xor}
use Rattle.l2_bits.specs.Operators.{quotient, remainder, breaks_division, breaks_shift, div, rem, shl, shr, shifted_left, shifted_right}
use Rattle.l2_bits.proofs.Wraps.{wrap_value}
use Rattle.l2_bits.proofs.Bounds.{quotient_value, remainder-is, remainder_value, floor_value}
use Rattle.l2_bits.proofs.OperatorValues.{convert_value}
use Rattle.l2_runs.specs.Operators.{truth}
use Rattle.l2_code.specs.declared.action.Operator.TheVariants.{Add, Sub, Mul, Div, Rem, Shl, Shr, And, Or, Xor, Eq, Ne, Lt, Le}
use Rattle.l2_gates.specs.Gates.{Lit, Made, Bit}
use Rattle.l2_gates.specs.Models.{value, Ok, Right, Gives}
use Rattle.l2_gates.proofs.Values.{negated_value}
use Rattle.l2_circuits.specs.Words as words
use Rattle.l2_circuits.specs.Words.{truth_word, eq}
use Rattle.l2_circuits.specs.Products.{quotients}
use Rattle.l2_circuit_laws.specs.Values.{values, bit_number, number}
use Rattle.l2_circuit_laws.specs.Shows.{Shows, Gains, Fits}
use Rattle.l2_circuit_laws.proofs.Shown.{sums_show, differences_show, products_show}
use Rattle.l2_circuit_laws.proofs.Signed.{less_shows, less_equal_shows, equal_shows}
use Rattle.l2_circuit_laws.proofs.Choices.{truths_show, wraps_show}
use Rattle.l2_operator_laws.specs.Words.{Tells, ShowsValue, GainsValue}
use Rattle.l2_operator_laws.proofs.Room.{values_tell}
use Rattle.l2_operator_laws.proofs.Moves.{left_shifts_show, right_shifts_show}
use Rattle.l2_operator_laws.proofs.Quotients.{quotients_show}
use Rattle.l2_operator_laws.proofs.BitByBit.{bit_by_bit_shows}
use Rattle.l2_operator_laws.proofs.Conversions.{conversions_show}
use Rattle.l2_number_circuits.specs.Numbers.{truth_of, number_word}
use Rattle.l2_number_circuits.specs.Law.{ShowsAmount, NumbersShow, ConvertedShow}

same_some : (x z : ℤ) → Some x ≡ Some z → x ≡ z
same_some x z e = cc

-- a word of a type that shows a number shows what it wraps to
wrapped : (v : ℕ → Bool) (m : Made) (ty : Ty) (bits : List Lit) (u z : ℤ) → Gains v m ty.width bits u → Some (wrap ty u) ≡ Some z → GainsValue v m ty bits z
wrapped v m ty bits u z g e =
    let f = same_some (wrap ty u) z e in
    record { before = g.before; word = record { value = subst (IsValue ty) f (wrap_value ty u); shows = subst (Shows v ty.width bits) f (wraps_show v ty bits u g.shows) } }

valued : (v : ℕ → Bool) (m : Made) (ty : Ty) (bits : List Lit) (u z : ℤ) → Ok v m → Shows v ty.width bits u → IsValue ty u → u ≡ z → GainsValue v m ty bits z
valued v m ty bits u z ok s h e = record { before = ok; word = record { value = subst (IsValue ty) e h; shows = subst (Shows v ty.width bits) e s } }

-- ---- where an operator has an answer

record Answered (t : Bool) (q z : ℤ) : Type 0 where
  passes : t ≡ false
  is : q ≡ z

answered : (t : Bool) (q z : ℤ) → (if t then None else Some q) ≡ Some z → Answered t q z
answered true q z e = absurd (cc)
answered false q z e = record { passes = refl; is = same_some q z e }

no_zero : (ty : Ty) (x y : ℤ) → breaks_division ty x y ≡ false → y ≢ pos 0
unfolding breaks_division
no_zero ty x y h e = differ (int_eq y (pos 0)) (or_parts (int_eq y (pos 0)) _ h).0 (ap (λ z. int_eq z (pos 0)) e)
  where
    differ : (t : Bool) → t ≡ false → t ≡ true → ⊥
    differ true e f = cc
    differ false e f = cc

-- an amount below the width
record Amount (y : ℤ) (w : ℕ) : Type 0 where
  is : pos (unsigned_abs y) ≡ y
  small : unsigned_abs y < w

amount_of : (ty : Ty) (y : ℤ) → breaks_shift ty y ≡ false → Amount y ty.width
unfolding breaks_shift
amount_of ty y h = let p = or_parts (int_lt y (pos 0)) (not (int_lt y (pos ty.width))) h in go y p.0 (not-false (int_lt y (pos ty.width)) p.1)
  where
    go : (y : ℤ) → int_lt y (pos 0) ≡ false → int_lt y (pos ty.width) ≡ true → Amount y ty.width
    go (pos k) e f = record { is = refl; small = omega (arith, ints) }
    go (negsuc k) e f = absurd (omega (arith, ints))

under_half : (n k : ℕ) → 1 ≤ n → k < 2 ^ (n - 1) → k < 2 ^ n
under_half zero k some h = absurd (omega arith)
under_half (suc n) k some h = let e : suc n - 1 ≡ n = omega arith in let d : 2 ^ suc n ≡ 2 * 2 ^ n = grind arith in let l = subst (λ j. k < 2 ^ j) e h in omega arith

room : (signed : Bool) (n k : ℕ) → 1 ≤ n → Fits signed n (pos k) → k < 2 ^ n
room true n k some f = under_half n k some (let t = f.to in omega (arith, ints, t))
room false n k some f = let t = f.to in omega (arith, ints, t)

amount_number : (v : ℕ → Bool) (signed : Bool) (n : ℕ) (b : List Lit) (y : ℤ) (w : ℕ) → Amount y w → Tells v signed n b y → number (values v b) ≡ unsigned_abs y
amount_number v signed n b y w a s = by (unsigned_abs y) (subst (λ z. Tells v signed n b z) (sym a.is) s)
  where
    by : (k : ℕ) → Tells v signed n b (pos k) → number (values v b) ≡ k
    by k s = let h = s.shows in h.number ∙ mod-eq_of_lt (room signed n k s.some s.fits)

-- ---- truth values

truth_number : (t : Bool) → pos (bit_number t) ≡ truth t
truth_number true = refl
truth_number false = refl

truth_value : (t : Bool) → IsValue int_type (truth t)
truth_value true = record { from = omega (arith, ints); to = omega (arith, ints) }
truth_value false = record { from = omega (arith, ints); to = omega (arith, ints) }

truth_gains : (v : ℕ → Bool) → v 0 ≡ true → (m : Made) (b : Bit) (t u : Bool) (z : ℤ) → Right v m b t → t ≡ u → Some (truth u) ≡ Some z → GainsValue v m int_type (truth_of b).bits z
truth_gains v given m b t u z r e f =
    let l : value v b.bit ≡ u = r.is ∙ e in
    valued v m int_type (truth_of b).bits (truth u) z r.before (subst (Shows v 32 (truth_word b.bit)) (ap (λ t. pos (bit_number t)) l ∙ truth_number u) (truths_show v given b.bit)) (truth_value u) (same_some (truth u) z f)

pub at_most : (x y : ℤ) → not (int_lt y x) ≡ int_le x y
at_most x y = grind (arith, ints)

-- ---- all operators

module _ (v : ℕ → Bool) (given : v 0 ≡ true) (ty : Ty) (a b : List Lit) (x y z : ℤ) (m : Made) (sx : ShowsValue v ty a x) where
  divided : ShowsValue v ty b y → div ty x y ≡ Some z → Ok v (number_word Div ty a b m).made → GainsValue v m ty (number_word Div ty a b m).bits z
  unfolding div
  divided sy e ok =
      let r = answered (breaks_division ty x y) (quotient x y) z e in
      let g = quotients_show v given ty.signed ty.width a b x y m (values_tell v ty a x sx) (values_tell v ty b y sy) (no_zero ty x y r.passes) ok in
      valued v m ty (quotients ty.signed a b m).quotient (quotient x y) z g.before g.quotient (quotient_value ty x y r.passes) r.is

  left_over : ShowsValue v ty b y → rem ty x y ≡ Some z → Ok v (number_word Rem ty a b m).made → GainsValue v m ty (number_word Rem ty a b m).bits z
  unfolding rem
  left_over sy e ok =
      let r = answered (breaks_division ty x y) (remainder x y) z e in
      let g = quotients_show v given ty.signed ty.width a b x y m (values_tell v ty a x sx) (values_tell v ty b y sy) (no_zero ty x y r.passes) ok in
      valued v m ty (quotients ty.signed a b m).rest (remainder x y) z g.before g.rest (subst (IsValue ty) (remainder-is x y) (remainder_value ty x y sx.value)) r.is

  moved_up : ShowsAmount v b y → shl ty x y ≡ Some z → Ok v (number_word Shl ty a b m).made → GainsValue v m ty (number_word Shl ty a b m).bits z
  unfolding shl
  moved_up sy e ok =
      let r = answered (breaks_shift ty y) (wrap ty (shifted_left x y)) z e in
      let k = amount_of ty y r.passes in
      let g = left_shifts_show v given ty.width (unsigned_abs y) a b x m sx.shows (amount_number v sy.signed sy.width b y ty.width k sy.tells) k.small ok in
      wrapped v m ty (number_word Shl ty a b m).bits (shifted_left x y) z g (ap Some r.is)

  moved_down : ShowsAmount v b y → shr ty x y ≡ Some z → Ok v (number_word Shr ty a b m).made → GainsValue v m ty (number_word Shr ty a b m).bits z
  unfolding shr
  moved_down sy e ok =
      let r = answered (breaks_shift ty y) (shifted_right x y) z e in
      let k = amount_of ty y r.passes in
      let g = right_shifts_show v given ty.signed ty.width (unsigned_abs y) a b x m (values_tell v ty a x sx) (amount_number v sy.signed sy.width b y ty.width k sy.tells) k.small ok in
      valued v m ty (number_word Shr ty a b m).bits (shifted_right x y) z g.before g.shows (floor_value ty x (2 ^ unsigned_abs y) sx.value) r.is

  anded : ShowsValue v ty b y → Some (and ty x y) ≡ Some z → Ok v (number_word And ty a b m).made → GainsValue v m ty (number_word And ty a b m).bits z
  unfolding and
  anded sy e ok = let s = bit_by_bit_shows v given ty a b x y m sx.shows sy.shows in let g = s.ands ok in
      valued v m ty (number_word And ty a b m).bits (and ty x y) z g.before g.shows (wrap_value ty _) (same_some (and ty x y) z e)

  ored : ShowsValue v ty b y → Some (or ty x y) ≡ Some z → Ok v (number_word Or ty a b m).made → GainsValue v m ty (number_word Or ty a b m).bits z
  unfolding or
  ored sy e ok = let s = bit_by_bit_shows v given ty a b x y m sx.shows sy.shows in let g = s.ors ok in
      valued v m ty (number_word Or ty a b m).bits (or ty x y) z g.before g.shows (wrap_value ty _) (same_some (or ty x y) z e)

  xored : ShowsValue v ty b y → Some (xor ty x y) ≡ Some z → Ok v (number_word Xor ty a b m).made → GainsValue v m ty (number_word Xor ty a b m).bits z
  unfolding xor
  xored sy e ok = let s = bit_by_bit_shows v given ty a b x y m sx.shows sy.shows in let g = s.xors ok in
      valued v m ty (number_word Xor ty a b m).bits (xor ty x y) z g.before g.shows (wrap_value ty _) (same_some (xor ty x y) z e)

  equal : ShowsValue v ty b y → Gives v m (int_eq x y) (eq a b m)
  equal sy = let s = values_tell v ty a x sx in let t = values_tell v ty b y sy in equal_shows v given ty.signed ty.width a b x y m s.some s.fits t.fits s.shows t.shows

  different : ShowsValue v ty b y → Gives v m (not (int_eq x y)) (words.opposite (eq a b m))
  different sy = λ ok. let r = equal sy ok in record { before = r.before; is = negated_value v (eq a b m).bit ∙ ap not r.is }

  less : ShowsValue v ty b y → Gives v m (int_lt x y) (words.less ty.signed a b m)
  less sy = let s = values_tell v ty a x sx in let t = values_tell v ty b y sy in less_shows v given ty.signed ty.width a b x y m s.some s.fits t.fits s.shows t.shows

  less_equal : ShowsValue v ty b y → Gives v m (not (int_lt y x)) (words.less_equal ty.signed a b m)
  less_equal sy = let s = values_tell v ty a x sx in let t = values_tell v ty b y sy in less_equal_shows v given ty.signed ty.width a b x y m s.some s.fits t.fits s.shows t.shows

pub numbers_show : NumbersShow
numbers_show v given Add ty a b x y z m sx sy e ok = wrapped v m ty _ (x +ℤ y) z (sums_show v given ty.width a b x y m sx.shows sy.shows ok) e
numbers_show v given Sub ty a b x y z m sx sy e ok = wrapped v m ty _ (x -ℤ y) z (differences_show v given ty.width a b x y m sx.shows sy.shows ok) e
numbers_show v given Mul ty a b x y z m sx sy e ok = wrapped v m ty _ (x *ℤ y) z (products_show v given ty.width a b x y m sx.shows sy.shows ok) e
numbers_show v given Div ty a b x y z m sx sy e ok = divided v given ty a b x y z m sx sy e ok
numbers_show v given Rem ty a b x y z m sx sy e ok = left_over v given ty a b x y z m sx sy e ok
numbers_show v given Shl ty a b x y z m sx sy e ok = moved_up v given ty a b x y z m sx sy e ok
numbers_show v given Shr ty a b x y z m sx sy e ok = moved_down v given ty a b x y z m sx sy e ok
numbers_show v given And ty a b x y z m sx sy e ok = anded v given ty a b x y z m sx sy e ok
numbers_show v given Or ty a b x y z m sx sy e ok = ored v given ty a b x y z m sx sy e ok
numbers_show v given Xor ty a b x y z m sx sy e ok = xored v given ty a b x y z m sx sy e ok
numbers_show v given Eq ty a b x y z m sx sy e ok = truth_gains v given m (eq a b m) (int_eq x y) (int_eq x y) z (equal v given ty a b x y z m sx sy ok) refl e
numbers_show v given Ne ty a b x y z m sx sy e ok = truth_gains v given m (words.opposite (eq a b m)) (not (int_eq x y)) (not (int_eq x y)) z (different v given ty a b x y z m sx sy ok) refl e
numbers_show v given Lt ty a b x y z m sx sy e ok = truth_gains v given m (words.less ty.signed a b m) (int_lt x y) (int_lt x y) z (less v given ty a b x y z m sx sy ok) refl e
numbers_show v given Le ty a b x y z m sx sy e ok = truth_gains v given m (words.less_equal ty.signed a b m) (not (int_lt y x)) (int_le x y) z (less_equal v given ty a b x y z m sx sy ok) (at_most x y) e

pub converted_show : ConvertedShow
converted_show v given to signed n a x m s ok =
    let g = conversions_show v given to signed n a x m s ok in
    record { before = g.before; word = record { value = convert_value to x; shows = g.shows } }
