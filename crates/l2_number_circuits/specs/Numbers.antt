-- Circuits of the code's operators on numbers, of conversions, and of the tests on numbers.
use Rattle.std.specs.Prelude.{ℕ, ◌+◌, Bool, if◌then◌else◌, ℤ, pos, negsuc, List, length}
use Rattle.l2_bits.specs.declared.types.Ty.{Ty}
use Rattle.l2_bits.specs.declared.operators.Op.{Op}
use Rattle.l2_bits.specs.declared.operators.Op.TheVariants as exact
use Rattle.l2_bits.specs.Types.{int_type}
use Rattle.l2_bits.specs.Values.{least}
use Rattle.l2_code.specs.declared.action.Operator.{Operator}
use Rattle.l2_code.specs.declared.action.Operator.TheVariants.{Add, Sub, Mul, Div, Rem, Shl, Shr, And, Or, Xor, Eq, Ne, Lt, Le}
use Rattle.l2_code.specs.WellFormed.{is_comparison}
use Rattle.l2_gates.specs.Gates.{Lit, negated, F, Made, Bit, and}
use Rattle.l2_circuits.specs.Words.{Word, known_word, word_of, opposite, top, resized, extended, constant, truth_word, ands, ors, xors, sum, sub, ltu, lts, less, less_equal, eq, convert}
use Rattle.l2_circuits.specs.Products.{mul, Divided, quotients}
use Rattle.l2_circuits.specs.Shifts.{shift_left, shift_right}

-- ---- operators

abbrev pub quotient_word : Divided → Word
quotient_word d = known_word d.quotient d.made

abbrev pub rest_word : Divided → Word
rest_word d = known_word d.rest d.made

-- a truth value as a word of 32 bits
abbrev pub truth_of : Bit → Word
truth_of b = known_word (truth_word b.bit) b.made

-- an operator on two words of a type; a shift's amount is a word of any length
abbrev pub number_word : Operator → Ty → List Lit → List Lit → Made → Word
number_word Add ty a b m = word_of (sum a b F m)
number_word Sub ty a b m = word_of (sub a b m)
number_word Mul ty a b m = mul a b m
number_word Div ty a b m = quotient_word (quotients ty.signed a b m)
number_word Rem ty a b m = rest_word (quotients ty.signed a b m)
number_word Shl ty a b m = shift_left a b m
number_word Shr ty a b m = shift_right ty.signed a b m
number_word And ty a b m = ands a b m
number_word Or ty a b m = ors a b m
number_word Xor ty a b m = xors a b m
number_word Eq ty a b m = truth_of (eq a b m)
number_word Ne ty a b m = truth_of (opposite (eq a b m))
number_word Lt ty a b m = truth_of (less ty.signed a b m)
number_word Le ty a b m = truth_of (less_equal ty.signed a b m)

-- the type of what an operator gives
abbrev pub result_type : Operator → Ty → Ty
result_type op ty = if is_comparison op then int_type else ty

-- a word that has a sign or not, as one of a type
abbrev pub convert_word : Ty → Bool → List Lit → Made → Word
convert_word to signed a m = convert to.width signed a m

-- ---- tests

-- of a type with a sign: the divisor isn't 0, and the least value isn't divided by -1
abbrev pub signed_division_bit : Ty → List Lit → List Lit → Made → Bit
signed_division_bit ty a b m =
    let z = eq b (constant ty.width (pos 0)) m in
    let l = eq a (constant ty.width (least ty)) z.made in
    let o = eq b (constant ty.width (negsuc 0)) l.made in
    let k = and l.bit o.bit o.made in
    and (negated z.bit) (negated k.bit) k.made

-- whether a quotient is a value of the type
abbrev pub division_bit : Ty → List Lit → List Lit → Made → Bit
division_bit ty a b m = if ty.signed then signed_division_bit ty a b m else opposite (eq b (constant ty.width (pos 0)) m)

-- whether a word of so many bits with a sign is from 0 to below an end
abbrev pub within_bit : ℕ → ℤ → List Lit → Made → Bit
within_bit n end a m =
    let low = lts a (constant n (pos 0)) m in
    let high = lts a (constant n end) low.made in
    and (negated low.bit) high.bit high.made

-- whether an amount, a word that has a sign or not, is from 0 to below a type's width
abbrev pub shift_bit : Ty → Bool → List Lit → Made → Bit
shift_bit ty signed a m = if signed then within_bit (length a) (pos ty.width) a m else ltu a (constant (length a) (pos ty.width)) m

-- whether an index, a word that has a sign or not, is from 0 to below an end
abbrev pub index_bit : ℤ → Bool → List Lit → Made → Bit
index_bit end signed a m = within_bit (length a + 2) end (extended (length a + 2) signed a) m

-- how many bits exact results are computed with
abbrev pub wide : Ty → ℕ
wide ty = ty.width + ty.width + 2

abbrev pub exact_word : Op → List Lit → List Lit → Made → Word
exact_word exact.Add a b m = word_of (sum a b F m)
exact_word exact.Sub a b m = word_of (sub a b m)
exact_word exact.Mul a b m = mul a b m
exact_word exact.Shl a b m = shift_left a b m

-- whether a wide word shows a value of the type
abbrev pub fits_bit : Ty → Word → Bit
fits_bit ty w = eq w.bits (extended (wide ty) ty.signed (resized ty.width F w.bits)) w.made

-- the left operand of a shift has to be 0 or more
abbrev pub shifts_no_negative : Op → List Lit → Bit → Bit
shifts_no_negative exact.Shl a r = and (negated (top a)) r.bit r.made
shifts_no_negative op a r = r

-- whether the exact result is a value of the type; the right operand is a word that has a sign or not
abbrev pub overflow_bit : Op → Ty → Bool → List Lit → List Lit → Made → Bit
overflow_bit op ty signed a b m =
    shifts_no_negative op a (fits_bit ty (exact_word op (extended (wide ty) ty.signed a) (extended (wide ty) signed b) m))
