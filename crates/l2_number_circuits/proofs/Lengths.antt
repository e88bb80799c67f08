-- How long words are, in each model or in none.
use Rattle.std.proofs.Common.{◌≡◌, ℕ, suc, ◌+◌, ◌==◌, Bool, true, false, refl, sym, ap, ◌∙◌, List, [], ◌∷◌, length, drop}
use Rattle.std.specs.Prelude.{nat_lt, if◌then◌else◌}
use Rattle.std.proofs.lemmas.Bool.{eqb-true}
use Rattle.l2_code.specs.declared.action.Operator.TheVariants.{Add, Sub, Mul, Div, Rem, Shl, Shr, And, Or, Xor, Eq, Ne, Lt, Le}
use Rattle.l2_gates.specs.Gates.{Lit, T, F, Made, Bit, xor, number_of}
use Rattle.l2_circuits.specs.declared.columns.Kind.{Kind}
use Rattle.l2_circuits.specs.declared.columns.Kind.TheVariants as kind
use Rattle.l2_circuits.specs.declared.shifts.Direction.{Direction}
use Rattle.l2_circuits.specs.declared.shifts.Direction.TheVariants.{Up, Down}
use Rattle.l2_circuits.specs.Words.{known_word, columns, negated_word, zeros, top, resized, filling, extended, choose, where_true, sum, sub, opposite, less, less_equal, eq, to_bool}
use Rattle.l2_circuits.specs.Products.{behind, mul_from, divide_by, divide, turned, quotients}
use Rattle.l2_circuits.specs.Shifts.{moved, shift_from}
use Rattle.l2_circuit_laws.proofs.Products.{columns_size}
use Rattle.l2_circuit_laws.proofs.Shown.{same_of_length, length_of_same}
use Rattle.l2_operator_laws.proofs.Cut.{resized_length}
use Rattle.l2_number_circuits.specs.Numbers.{truth_of}
use Rattle.l2_number_circuits.specs.Law.{NumbersHaveLengths, ConvertedHaveLengths}

columns_length : (k : Kind) (a b : List Lit) (c : Lit) (m : Made) → length a ≡ length b → length (columns k a b c m).bits ≡ length a
columns_length k a b c m e = length_of_same (columns k a b c m).bits a (columns_size k a b c m (same_of_length a b e))

negated_length : (a : List Lit) → length (negated_word a) ≡ length a
negated_length [] = refl
negated_length (x ∷ a) = ap suc (negated_length a)

zeros_length : (a : List Lit) → length (zeros a) ≡ length a
zeros_length [] = refl
zeros_length (x ∷ a) = ap suc (zeros_length a)

behind_length : (x : Lit) (a : List Lit) → length (behind x a) ≡ length a
behind_length x [] = refl
behind_length x (y ∷ a) = ap suc (behind_length y a)

sub_length : (a b : List Lit) (m : Made) → length a ≡ length b → length (sub a b m).bits ≡ length a
sub_length a b m e = columns_length kind.Add a (negated_word b) T m (e ∙ sym (negated_length b))

choose_length : (c : Lit) (a b : List Lit) (m : Made) → length a ≡ length b → length (choose c a b m).bits ≡ length a
choose_length c a b m e = columns_length kind.Choose a b c m e

-- ---- products

mul_length : (a b p : List Lit) (m : Made) → length p ≡ length a → length (mul_from a b p m).bits ≡ length a
mul_length a [] p m e = e
mul_length a (b ∷ bs) p m e =
    let r = where_true a b m in
    let s = sum p r.bits F r.made in
    let lr = columns_length kind.Mask a a b m refl in
    let ls = columns_length kind.Add p r.bits F r.made (e ∙ sym lr) in
    mul_length (behind F a) bs s.bits s.made (ls ∙ e ∙ sym (behind_length F a)) ∙ behind_length F a

-- ---- quotients

divide_length : (a b : List Lit) (m : Made) → length (divide_by a b m).quotient ≡ length a
divide_length [] b m = refl
divide_length (x ∷ a) b m = ap suc (divide_length a b m)

turned_length : (c : Lit) (a : List Lit) (m : Made) → length (turned c a m).bits ≡ length a
turned_length c a m =
    let s = sub (zeros a) a m in
    let e = sub_length (zeros a) a m (zeros_length a) ∙ zeros_length a in
    choose_length c s.bits a s.made e ∙ e

quotient_length : (signed : Bool) (a b : List Lit) (m : Made) → length (quotients signed a b m).quotient ≡ length a
quotient_length true a b m =
    let x = turned (top a) a m in
    let y = turned (top b) b x.made in
    let d = divide x.bits y.bits y.made in
    let s = xor (top a) (top b) d.made in
    turned_length s.bit d.quotient s.made ∙ divide_length x.bits (resized (suc (length y.bits)) F y.bits) y.made ∙ turned_length (top a) a m
quotient_length false a b m = divide_length a (resized (suc (length b)) F b) m

rest_length : (signed : Bool) (a b : List Lit) (m : Made) → length (quotients signed a b m).rest ≡ length a
rest_length true a b m =
    let x = turned (top a) a m in
    let y = turned (top b) b x.made in
    let d = divide x.bits y.bits y.made in
    let s = xor (top a) (top b) d.made in
    let q = turned s.bit d.quotient s.made in
    turned_length (top a) d.rest q.made ∙ resized_length (length x.bits) F (divide_by x.bits (resized (suc (length y.bits)) F y.bits) y.made).rest ∙ turned_length (top a) a m
rest_length false a b m = resized_length (length a) F (divide_by a (resized (suc (length b)) F b) m).rest

-- ---- shifts

moved_length : (way : Direction) (k : ℕ) (a : List Lit) → length (moved way k a) ≡ length a
moved_length Up k a = resized_length (length a) F _
moved_length (Down fill) k a = resized_length (length a) _ (drop k a)

stage_length : (way : Direction) (k : ℕ) (a : List Lit) (b : Lit) (bs : List Lit) (m : Made) (t : Bool) → ((w : List Lit) (n : Made) → length (shift_from way (k + k) w bs n).bits ≡ length w)
    → length (if t then (let r = choose b (moved way k a) a m in shift_from way (k + k) r.bits bs r.made) else known_word a m).bits ≡ length a
stage_length way k a b bs m true next =
    let r = choose b (moved way k a) a m in
    next r.bits r.made ∙ choose_length b (moved way k a) a m (moved_length way k a) ∙ moved_length way k a
stage_length way k a b bs m false next = refl

shift_length : (way : Direction) (k : ℕ) (a b : List Lit) (m : Made) → length (shift_from way k a b m).bits ≡ length a
shift_length way k a [] m = refl
shift_length way k a (b ∷ bs) m = stage_length way k a b bs m (nat_lt k (length a)) (λ w n. shift_length way (k + k) w bs n)

-- ---- all operators

truth_length : (b : Bit) → length (truth_of b).bits ≡ 32
truth_length b = resized_length 32 F (b.bit ∷ [])

pub numbers_have_lengths : NumbersHaveLengths
numbers_have_lengths Add ty a b m e f = columns_length kind.Add a b F m (e ∙ sym f) ∙ e
numbers_have_lengths Sub ty a b m e f = sub_length a b m (e ∙ sym f) ∙ e
numbers_have_lengths Mul ty a b m e f = mul_length a b (zeros a) m (zeros_length a) ∙ e
numbers_have_lengths Div ty a b m e f = quotient_length ty.signed a b m ∙ e
numbers_have_lengths Rem ty a b m e f = rest_length ty.signed a b m ∙ e
numbers_have_lengths Shl ty a b m e f = shift_length Up 1 a b m ∙ e
numbers_have_lengths Shr ty a b m e f = shift_length (Down (number_of (filling ty.signed a))) 1 a b m ∙ e
numbers_have_lengths And ty a b m e f = columns_length kind.And a b F m (e ∙ sym f) ∙ e
numbers_have_lengths Or ty a b m e f = columns_length kind.Or a b F m (e ∙ sym f) ∙ e
numbers_have_lengths Xor ty a b m e f = columns_length kind.Xor a b F m (e ∙ sym f) ∙ e
numbers_have_lengths Eq ty a b m e f = truth_length (eq a b m)
numbers_have_lengths Ne ty a b m e f = truth_length (opposite (eq a b m))
numbers_have_lengths Lt ty a b m e f = truth_length (less ty.signed a b m)
numbers_have_lengths Le ty a b m e f = truth_length (less_equal ty.signed a b m)

pub converted_have_lengths : ConvertedHaveLengths
converted_have_lengths to signed a m = go (to.width == 1) refl
  where
    go : (t : Bool) → (to.width == 1) ≡ t → length (if t then to_bool a m else known_word (extended to.width signed a) m).bits ≡ to.width
    go true e = sym (eqb-true to.width 1 e)
    go false e = resized_length to.width (filling signed a) a
