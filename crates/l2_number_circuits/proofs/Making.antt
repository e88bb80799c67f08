-- Circuits on numbers are made.
use Rattle.std.proofs.Common.{ℕ, zero, suc, ◌+◌, Bool, true, false, ℤ, pos, negsuc, List, [], ◌∷◌, length, arith}
use Rattle.std.specs.Prelude.{if◌then◌else◌}
use Rattle.l2_bits.specs.declared.types.Ty.{Ty}
use Rattle.l2_bits.specs.declared.operators.Op.{Op}
use Rattle.l2_bits.specs.declared.operators.Op.TheVariants as exact
use Rattle.l2_bits.specs.Values.{least}
use Rattle.l2_code.specs.declared.action.Operator.{Operator}
use Rattle.l2_code.specs.declared.action.Operator.TheVariants.{Add, Sub, Mul, Div, Rem, Shl, Shr, And, Or, Xor, Eq, Ne, Lt, Le}
use Rattle.l2_gates.specs.Gates.{Lit, negated, F, Made, Bit, and}
use Rattle.l2_gates.specs.Models.{Below, AllBelow, Sound, Extends, Makes}
use Rattle.l2_gates.proofs.Made.{all_up, below_up, negated_below, ext_then, makes_and}
use Rattle.l2_circuits.specs.Words.{Word, Sum, opposite, top, resized, extended, constant, lts, eq}
use Rattle.l2_circuits.specs.Products.{Divided}
use Rattle.l2_circuit_laws.specs.Law.{MakesSum}
use Rattle.l2_circuit_laws.specs.Making.{MakesWord, MakesDivided, TwoWordsMake}
use Rattle.l2_circuit_laws.proofs.Makings.{circuits_make, constants_are_below, extensions_are_below}
use Rattle.l2_number_circuits.specs.Numbers.{quotient_word, rest_word, truth_of, number_word, signed_division_bit, division_bit, within_bit, shift_bit, index_bit, wide, exact_word, fits_bit, shifts_no_negative, overflow_bit}
use Rattle.l2_number_circuits.specs.Law.{NumbersAreMade}

later_word : (m m' : Made) (a : List Lit) → Extends m m' → AllBelow m.next a → AllBelow m'.next a
later_word m m' a x h = all_up m.next m'.next a x.grows h

later : (m m' : Made) (l : Lit) → Extends m m' → Below m.next l → Below m'.next l
later m m' l x h = below_up m.next m'.next l x.grows h

false_below : (m : Made) → Sound m → Below m.next F
false_below m s = let h = s.some in omega arith

word_of_sum : (m : Made) (s : Sum) → MakesSum m s → MakesWord m (record { bits = s.bits; made = s.made })
word_of_sum m s g = record { bits = g.bits; extends = g.extends }

quotient_made : (m : Made) (d : Divided) → MakesDivided m d → MakesWord m (quotient_word d)
quotient_made m d g = record { bits = g.quotient; extends = g.extends }

rest_made : (m : Made) (d : Divided) → MakesDivided m d → MakesWord m (rest_word d)
rest_made m d g = record { bits = g.rest; extends = g.extends }

opposite_made : (m : Made) (b : Bit) → Makes m b → Makes m (opposite b)
opposite_made m b g = record { bit = negated_below b.made.next b.bit g.bit; extends = g.extends }

resized_below : (n k : ℕ) (fill : Lit) (a : List Lit) → Below n fill → AllBelow n a → AllBelow n (resized k fill a)
resized_below n zero fill a f h = tt
resized_below n (suc k) fill [] f h = (f, resized_below n k fill [] f tt)
resized_below n (suc k) fill (x ∷ a) f (h, hs) = (h, resized_below n k fill a f hs)

truth_made : (m : Made) (b : Bit) → Makes m b → MakesWord m (truth_of b)
truth_made m b g = record { bits = resized_below b.made.next 32 F (b.bit ∷ []) (false_below b.made g.extends.sound) (g.bit, tt); extends = g.extends }

number_made : (m : Made) → Sound m → (op : Operator) (ty : Ty) (a b : List Lit) → AllBelow m.next a → AllBelow m.next b → MakesWord m (number_word op ty a b m)
number_made m s op ty a b x y = go op
  where
    made : TwoWordsMake m a b
    made = circuits_make m s a b x y

    go : (op : Operator) → MakesWord m (number_word op ty a b m)
    go Add = word_of_sum m _ (made.sums F (false_below m s))
    go Sub = word_of_sum m _ made.differences
    go Mul = made.products
    go Div = quotient_made m _ (made.quotients ty.signed)
    go Rem = rest_made m _ (made.quotients ty.signed)
    go Shl = made.shifts_left
    go Shr = made.shifts_right ty.signed
    go And = made.ands
    go Or = made.ors
    go Xor = made.xors
    go Eq = truth_made m _ made.equal
    go Ne = truth_made m _ (opposite_made m _ made.equal)
    go Lt = truth_made m _ (made.less ty.signed)
    go Le = truth_made m _ (made.less_equal ty.signed)

-- ---- tests

eq_made : (m : Made) → Sound m → (a : List Lit) (n : ℕ) (x : ℤ) → AllBelow m.next a → Makes m (eq a (constant n x) m)
eq_made m s a n x h = (circuits_make m s a (constant n x) h (constants_are_below m s n x)).equal

signed_division_made : (m : Made) → Sound m → (ty : Ty) (a b : List Lit) → AllBelow m.next a → AllBelow m.next b → Makes m (signed_division_bit ty a b m)
signed_division_made m s ty a b x y =
    let z = eq b (constant ty.width (pos 0)) m in
    let gz = eq_made m s b ty.width (pos 0) y in
    let l = eq a (constant ty.width (least ty)) z.made in
    let gl = eq_made z.made gz.extends.sound a ty.width (least ty) (later_word m z.made a gz.extends x) in
    let e2 = ext_then m z.made l.made gz.extends gl.extends in
    let o = eq b (constant ty.width (negsuc 0)) l.made in
    let go = eq_made l.made gl.extends.sound b ty.width (negsuc 0) (later_word m l.made b e2 y) in
    let k = and l.bit o.bit o.made in
    let gk = makes_and o.made go.extends.sound l.bit o.bit (later l.made o.made l.bit go.extends gl.bit) go.bit in
    let e4 = ext_then l.made o.made k.made go.extends gk.extends in
    let r = and (negated z.bit) (negated k.bit) k.made in
    let gr = makes_and k.made gk.extends.sound (negated z.bit) (negated k.bit)
    (negated_below k.made.next z.bit (later z.made k.made z.bit (ext_then z.made l.made k.made gl.extends e4) gz.bit)) (negated_below k.made.next k.bit gk.bit) in
    record { bit = gr.bit; extends = ext_then m k.made r.made (ext_then m l.made k.made e2 e4) gr.extends }

division_made : (m : Made) → Sound m → (ty : Ty) (a b : List Lit) → AllBelow m.next a → AllBelow m.next b → Makes m (division_bit ty a b m)
division_made m s ty a b x y = go ty.signed
  where
    go : (t : Bool) → Makes m (if t then signed_division_bit ty a b m else opposite (eq b (constant ty.width (pos 0)) m))
    go true = signed_division_made m s ty a b x y
    go false = opposite_made m (eq b (constant ty.width (pos 0)) m) (eq_made m s b ty.width (pos 0) y)

lts_made : (m : Made) → Sound m → (a : List Lit) (n : ℕ) (x : ℤ) → AllBelow m.next a → Makes m (lts a (constant n x) m)
lts_made m s a n x h = (circuits_make m s a (constant n x) h (constants_are_below m s n x)).less true

within_made : (m : Made) → Sound m → (n : ℕ) (end : ℤ) (a : List Lit) → AllBelow m.next a → Makes m (within_bit n end a m)
within_made m s n end a x =
    let low = lts a (constant n (pos 0)) m in
    let gl = lts_made m s a n (pos 0) x in
    let high = lts a (constant n end) low.made in
    let gh = lts_made low.made gl.extends.sound a n end (later_word m low.made a gl.extends x) in
    let r = and (negated low.bit) high.bit high.made in
    let gr = makes_and high.made gh.extends.sound (negated low.bit) high.bit (negated_below high.made.next low.bit (later low.made high.made low.bit gh.extends gl.bit)) gh.bit in
    record { bit = gr.bit; extends = ext_then m high.made r.made (ext_then m low.made high.made gl.extends gh.extends) gr.extends }

shift_made : (m : Made) → Sound m → (ty : Ty) (signed : Bool) (a : List Lit) → AllBelow m.next a → Makes m (shift_bit ty signed a m)
shift_made m s ty true a x = within_made m s (length a) (pos ty.width) a x
shift_made m s ty false a x = (circuits_make m s a (constant (length a) (pos ty.width)) x (constants_are_below m s (length a) (pos ty.width))).less false

index_made : (m : Made) → Sound m → (end : ℤ) (signed : Bool) (a : List Lit) → AllBelow m.next a → Makes m (index_bit end signed a m)
index_made m s end signed a x = within_made m s (length a + 2) end (extended (length a + 2) signed a) (extensions_are_below m s (length a + 2) signed a x)

exact_made : (m : Made) → Sound m → (op : Op) (a b : List Lit) → AllBelow m.next a → AllBelow m.next b → MakesWord m (exact_word op a b m)
exact_made m s op a b x y = go op
  where
    made : TwoWordsMake m a b
    made = circuits_make m s a b x y

    go : (op : Op) → MakesWord m (exact_word op a b m)
    go exact.Add = word_of_sum m _ (made.sums F (false_below m s))
    go exact.Sub = word_of_sum m _ made.differences
    go exact.Mul = made.products
    go exact.Shl = made.shifts_left

fits_made : (m : Made) (ty : Ty) (w : Word) → MakesWord m w → Makes m (fits_bit ty w)
fits_made m ty w g =
    let s = g.extends.sound in
    let low = resized ty.width F w.bits in
    let shown = extended (wide ty) ty.signed low in
    let below = extensions_are_below w.made s (wide ty) ty.signed low (resized_below w.made.next ty.width F w.bits (false_below w.made s) g.bits) in
    let e = (circuits_make w.made s w.bits shown g.bits below).equal in
    record { bit = e.bit; extends = ext_then m w.made (eq w.bits shown w.made).made g.extends e.extends }

top_below : (m : Made) → Sound m → (a : List Lit) → AllBelow m.next a → Below m.next (top a)
top_below m s [] h = false_below m s
top_below m s (x ∷ []) (h, hs) = h
top_below m s (x ∷ y ∷ rest) (h, hs) = top_below m s (y ∷ rest) hs

no_negative_made : (m : Made) (op : Op) (a : List Lit) (r : Bit) → AllBelow m.next a → Makes m r → Makes m (shifts_no_negative op a r)
no_negative_made m exact.Shl a r x g =
    let s = g.extends.sound in
    let k = makes_and r.made s (negated (top a)) r.bit (negated_below r.made.next (top a) (top_below r.made s a (later_word m r.made a g.extends x))) g.bit in
    record { bit = k.bit; extends = ext_then m r.made (and (negated (top a)) r.bit r.made).made g.extends k.extends }
no_negative_made m exact.Add a r x g = g
no_negative_made m exact.Sub a r x g = g
no_negative_made m exact.Mul a r x g = g

overflow_made : (m : Made) → Sound m → (op : Op) (ty : Ty) (signed : Bool) (a b : List Lit) → AllBelow m.next a → AllBelow m.next b → Makes m (overflow_bit op ty signed a b m)
overflow_made m s op ty signed a b x y =
    let left = extended (wide ty) ty.signed a in
    let right = extended (wide ty) signed b in
    let w = exact_word op left right m in
    let g = exact_made m s op left right (extensions_are_below m s (wide ty) ty.signed a x) (extensions_are_below m s (wide ty) signed b y) in
    no_negative_made m op a (fits_bit ty w) x (fits_made m ty w g)

pub numbers_are_made : NumbersAreMade
numbers_are_made m s = record {
  numbers = number_made m s;
  conversions = λ to signed a x. (circuits_make m s a a x x).conversions to.width signed;
  divisions = division_made m s;
  shifts = shift_made m s;
  indexes = index_made m s;
  overflows = overflow_made m s;
}
