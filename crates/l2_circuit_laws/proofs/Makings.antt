-- Circuits are made.
use Rattle.std.proofs.Common.{ℕ, zero, suc, ◌+◌, ◌%◌, ◌/◌, ◌==◌, ◌++◌, Bool, true, false, ℤ, pos, negsuc, List, [], ◌∷◌, length, drop, replicate, arith}
use Rattle.std.specs.Prelude.{nat_lt, if◌then◌else◌}
use Rattle.l2_gates.specs.Gates.{Lit, Pos, Neg, negated, T, F, Made, Bit, xor, literal_of, number_of}
use Rattle.l2_gates.specs.Models.{Below, AllBelow, Sound, Extends, Makes}
use Rattle.l2_gates.proofs.Made.{below_up, all_up, negated_below, ext_refl, ext_then, makes_xor}
use Rattle.l2_circuits.specs.declared.columns.Kind.TheVariants.{And, Or, Xor, Choose, Mask, Add, Equal}
use Rattle.l2_circuits.specs.declared.shifts.Direction.{Direction}
use Rattle.l2_circuits.specs.declared.shifts.Direction.TheVariants.{Up, Down}
use Rattle.l2_circuits.specs.Words.{Sum, columns, negated_word, top, top_negated, resized, filling, extended, literal_if, digits, constant, zeros, ltu, less, eq, choose, sum, sub, to_bool, convert}
use Rattle.l2_circuits.specs.Products.{behind, mul_from, divide_by, divide, turned, divide_signed, quotients}
use Rattle.l2_circuits.specs.Shifts.{moved, shift_from}
use Rattle.l2_circuit_laws.specs.Law.{MakesSum}
use Rattle.l2_circuit_laws.specs.Making.{MakesWord, MakesDivided, CircuitsMake, ConstantsAreBelow, ExtensionsAreBelow}
use Rattle.l2_circuit_laws.proofs.Made.{columns_made}

-- ---- words without gates

true_below : (m : Made) → Sound m → Below m.next T
true_below m s = let h = s.some in omega arith

false_below : (m : Made) → Sound m → Below m.next F
false_below m s = let h = s.some in omega arith

word_negated : (n : ℕ) (a : List Lit) → AllBelow n a → AllBelow n (negated_word a)
word_negated n [] h = tt
word_negated n (x ∷ a) (h, hs) = (negated_below n x h, word_negated n a hs)

top_below : (m : Made) → Sound m → (a : List Lit) → AllBelow m.next a → Below m.next (top a)
top_below m s [] h = false_below m s
top_below m s (x ∷ []) (h, hs) = h
top_below m s (x ∷ y ∷ rest) (h, hs) = top_below m s (y ∷ rest) hs

top_word : (n : ℕ) (a : List Lit) → AllBelow n a → AllBelow n (top_negated a)
top_word n [] h = tt
top_word n (x ∷ []) (h, hs) = (negated_below n x h, tt)
top_word n (x ∷ y ∷ rest) (h, hs) = (h, top_word n (y ∷ rest) hs)

word_resized : (n k : ℕ) (fill : Lit) (a : List Lit) → Below n fill → AllBelow n a → AllBelow n (resized k fill a)
word_resized n zero fill a f h = tt
word_resized n (suc k) fill [] f h = (f, word_resized n k fill [] f tt)
word_resized n (suc k) fill (x ∷ a) f (h, hs) = (h, word_resized n k fill a f hs)

filling_below : (m : Made) → Sound m → (signed : Bool) (a : List Lit) → AllBelow m.next a → Below m.next (filling signed a)
filling_below m s true a h = top_below m s a h
filling_below m s false a h = false_below m s

extended_below : (m : Made) → Sound m → (n : ℕ) (signed : Bool) (a : List Lit) → AllBelow m.next a → AllBelow m.next (extended n signed a)
extended_below m s n signed a h = word_resized m.next n (filling signed a) a (filling_below m s signed a h) h

digits_below : (m : Made) → Sound m → (n a : ℕ) → AllBelow m.next (digits n a)
digits_below m s zero a = tt
digits_below m s (suc n) a = (bit (a % 2 == 1), digits_below m s n (a / 2))
  where
    bit : (b : Bool) → Below m.next (literal_if b)
    bit true = true_below m s
    bit false = false_below m s

constant_below : (m : Made) → Sound m → (n : ℕ) (x : ℤ) → AllBelow m.next (constant n x)
constant_below m s n (pos a) = digits_below m s n a
constant_below m s n (negsuc a) = word_negated m.next (digits n a) (digits_below m s n a)

zeros_below : (m : Made) → Sound m → (a : List Lit) → AllBelow m.next (zeros a)
zeros_below m s [] = tt
zeros_below m s (x ∷ a) = (false_below m s, zeros_below m s a)

behind_below : (n : ℕ) (x : Lit) (a : List Lit) → Below n x → AllBelow n a → AllBelow n (behind x a)
behind_below n x [] h hs = tt
behind_below n x (y ∷ a) h (k, ks) = (h, behind_below n y a k ks)

falses_below : (m : Made) → Sound m → (k : ℕ) (a : List Lit) → AllBelow m.next a → AllBelow m.next (replicate k F ++ a)
falses_below m s zero a h = h
falses_below m s (suc k) a h = (false_below m s, falses_below m s k a h)

drop_below : (n k : ℕ) (a : List Lit) → AllBelow n a → AllBelow n (drop k a)
drop_below n zero a h = h
drop_below n (suc k) [] h = h
drop_below n (suc k) (x ∷ a) (h, hs) = drop_below n k a hs

-- ---- one after another

later : (m m' : Made) (l : Lit) → Extends m m' → Below m.next l → Below m'.next l
later m m' l x h = below_up m.next m'.next l x.grows h

later_word : (m m' : Made) (a : List Lit) → Extends m m' → AllBelow m.next a → AllBelow m'.next a
later_word m m' a x h = all_up m.next m'.next a x.grows h

word_of_sum : (m : Made) (s : Sum) → MakesSum m s → MakesWord m (record { bits = s.bits; made = s.made })
word_of_sum m s g = record { bits = g.bits; extends = g.extends }

bit_of_sum : (m : Made) (s : Sum) → MakesSum m s → Makes m (record { bit = s.carry; made = s.made })
bit_of_sum m s g = record { bit = g.carry; extends = g.extends }

opposite_made : (m : Made) (b : Bit) → Makes m b → Makes m (record { bit = negated b.bit; made = b.made })
opposite_made m b g = record { bit = negated_below b.made.next b.bit g.bit; extends = g.extends }

module _ (m : Made) (s : Sound m) where
  sum_made : (a b : List Lit) (c : Lit) → AllBelow m.next a → AllBelow m.next b → Below m.next c → MakesSum m (sum a b c m)
  sum_made a b c p q r = columns_made m s Add a b c p q r

  sub_made : (a b : List Lit) → AllBelow m.next a → AllBelow m.next b → MakesSum m (sub a b m)
  sub_made a b p q = columns_made m s Add a (negated_word b) T p (word_negated m.next b q) (true_below m s)

  ltu_made : (a b : List Lit) → AllBelow m.next a → AllBelow m.next b → Makes m (ltu a b m)
  ltu_made a b p q = opposite_made m (record { bit = (sub a b m).carry; made = (sub a b m).made }) (bit_of_sum m (sub a b m) (sub_made a b p q))

  less_made : (signed : Bool) (a b : List Lit) → AllBelow m.next a → AllBelow m.next b → Makes m (less signed a b m)
  less_made true a b p q = ltu_made (top_negated a) (top_negated b) (top_word m.next a p) (top_word m.next b q)
  less_made false a b p q = ltu_made a b p q

  eq_made : (a b : List Lit) → AllBelow m.next a → AllBelow m.next b → Makes m (eq a b m)
  eq_made a b p q = bit_of_sum m (columns Equal a b T m) (columns_made m s Equal a b T p q (true_below m s))

  choose_made : (c : Lit) (a b : List Lit) → Below m.next c → AllBelow m.next a → AllBelow m.next b → MakesWord m (choose c a b m)
  choose_made c a b r p q = word_of_sum m (columns Choose a b c m) (columns_made m s Choose a b c p q r)

  to_bool_made : (a : List Lit) → AllBelow m.next a → MakesWord m (to_bool a m)
  to_bool_made a p =
      let e = eq a (zeros a) m in
      let g = eq_made a (zeros a) p (zeros_below m s a) in
      record { bits = (negated_below e.made.next e.bit g.bit, tt); extends = g.extends }

  convert_made : (width : ℕ) (signed : Bool) (a : List Lit) → AllBelow m.next a → MakesWord m (convert width signed a m)
  convert_made width signed a p = go (width == 1)
    where
      go : (t : Bool) → MakesWord m (if t then to_bool a m else record { bits = extended width signed a; made = m })
      go true = to_bool_made a p
      go false = record { bits = extended_below m s width signed a p; extends = ext_refl m s }

  turned_made : (c : Lit) (a : List Lit) → Below m.next c → AllBelow m.next a → MakesWord m (turned c a m)
  turned_made c a r p =
      let d = sub (zeros a) a m in
      let g = sub_made (zeros a) a (zeros_below m s a) p in
      let k = columns_made d.made g.extends.sound Choose d.bits a c g.bits (later_word m d.made a g.extends p) (later m d.made c g.extends r) in
      record { bits = k.bits; extends = ext_then m d.made (columns Choose d.bits a c d.made).made g.extends k.extends }

-- ---- products

mul_from_made : (m : Made) → Sound m → (a b p : List Lit) → AllBelow m.next a → AllBelow m.next b → AllBelow m.next p → MakesWord m (mul_from a b p m)
mul_from_made m s a [] p x y z = record { bits = z; extends = ext_refl m s }
mul_from_made m s a (b ∷ bs) p x (y, ys) z =
    let r = columns Mask a a b m in
    let gr = columns_made m s Mask a a b x x y in
    let t = sum p r.bits F r.made in
    let gt = sum_made r.made gr.extends.sound p r.bits F (later_word m r.made p gr.extends z) gr.bits (false_below r.made gr.extends.sound) in
    let e = ext_then m r.made t.made gr.extends gt.extends in
    let g = mul_from_made t.made gt.extends.sound (behind F a) bs t.bits (behind_below t.made.next F a (false_below t.made gt.extends.sound) (later_word m t.made a e x)) (later_word m t.made bs e ys) gt.bits in
    record { bits = g.bits; extends = ext_then m t.made (mul_from (behind F a) bs t.bits t.made).made e g.extends }

-- ---- quotients

divide_by_made : (m : Made) → Sound m → (a b : List Lit) → AllBelow m.next a → AllBelow m.next b → MakesDivided m (divide_by a b m)
divide_by_made m s [] b x y = record { quotient = tt; rest = zeros_below m s b; extends = ext_refl m s }
divide_by_made m s (a ∷ as') b (x, xs) y =
    let d = divide_by as' b m in
    let g = divide_by_made m s as' b xs y in
    let r = behind a d.rest in
    let rb = behind_below d.made.next a d.rest (later m d.made a g.extends x) g.rest in
    let t = sub r b d.made in
    let gt = sub_made d.made g.extends.sound r b rb (later_word m d.made b g.extends y) in
    let c = columns Choose t.bits r t.carry t.made in
    let gc = columns_made t.made gt.extends.sound Choose t.bits r t.carry gt.bits (later_word d.made t.made r gt.extends rb) gt.carry in
    let e = ext_then d.made t.made c.made gt.extends gc.extends in
    record {
      quotient = (later t.made c.made t.carry gc.extends gt.carry, later_word d.made c.made d.quotient e g.quotient);
      rest = gc.bits;
      extends = ext_then m d.made c.made g.extends e;
    }

divide_made : (m : Made) → Sound m → (a b : List Lit) → AllBelow m.next a → AllBelow m.next b → MakesDivided m (divide a b m)
divide_made m s a b x y =
    let wide = resized (suc (length b)) F b in
    let d = divide_by a wide m in
    let g = divide_by_made m s a wide x (word_resized m.next (suc (length b)) F b (false_below m s) y) in
    record { quotient = g.quotient; rest = word_resized d.made.next (length a) F d.rest (false_below d.made g.extends.sound) g.rest; extends = g.extends }

divide_signed_made : (m : Made) → Sound m → (a b : List Lit) → AllBelow m.next a → AllBelow m.next b → MakesDivided m (divide_signed a b m)
divide_signed_made m s a b x y =
    let p = turned (top a) a m in
    let gp = turned_made m s (top a) a (top_below m s a x) x in
    let q = turned (top b) b p.made in
    let yb = later_word m p.made b gp.extends y in
    let gq = turned_made p.made gp.extends.sound (top b) b (top_below p.made gp.extends.sound b yb) yb in
    let e2 = ext_then m p.made q.made gp.extends gq.extends in
    let d = divide p.bits q.bits q.made in
    let gd = divide_made q.made gq.extends.sound p.bits q.bits (later_word p.made q.made p.bits gq.extends gp.bits) gq.bits in
    let e3 = ext_then m q.made d.made e2 gd.extends in
    let xa = later_word m d.made a e3 x in
    let t = xor (top a) (top b) d.made in
    let gt = makes_xor d.made gd.extends.sound (top a) (top b) (top_below d.made gd.extends.sound a xa) (top_below d.made gd.extends.sound b (later_word m d.made b e3 y)) in
    let u = turned t.bit d.quotient t.made in
    let gu = turned_made t.made gt.extends.sound t.bit d.quotient gt.bit (later_word d.made t.made d.quotient gt.extends gd.quotient) in
    let e5 = ext_then d.made t.made u.made gt.extends gu.extends in
    let r = turned (top a) d.rest u.made in
    let gr = turned_made u.made gu.extends.sound (top a) d.rest (top_below u.made gu.extends.sound a (later_word d.made u.made a e5 xa)) (later_word d.made u.made d.rest e5 gd.rest) in
    record {
      quotient = later_word u.made r.made u.bits gr.extends gu.bits;
      rest = gr.bits;
      extends = ext_then m d.made r.made e3 (ext_then d.made u.made r.made e5 gr.extends);
    }

quotients_made : (m : Made) → Sound m → (signed : Bool) (a b : List Lit) → AllBelow m.next a → AllBelow m.next b → MakesDivided m (quotients signed a b m)
quotients_made m s true a b x y = divide_signed_made m s a b x y
quotients_made m s false a b x y = divide_made m s a b x y

-- ---- shifts

-- the literal that fills a word that is moved is there
abbrev FillBelow : ℕ → Direction → Type 0
FillBelow n Up = Unit {0}
FillBelow n (Down fill) = Below n (literal_of fill)

fill_later : (m m' : Made) (way : Direction) → Extends m m' → FillBelow m.next way → FillBelow m'.next way
fill_later m m' Up x h = tt
fill_later m m' (Down fill) x h = later m m' (literal_of fill) x h

moved_below : (m : Made) → Sound m → (way : Direction) (k : ℕ) (a : List Lit) → FillBelow m.next way → AllBelow m.next a → AllBelow m.next (moved way k a)
moved_below m s Up k a f h = word_resized m.next (length a) F (replicate k F ++ a) (false_below m s) (falses_below m s k a h)
moved_below m s (Down fill) k a f h = word_resized m.next (length a) (literal_of fill) (drop k a) f (drop_below m.next k a h)

-- a stage, where it is below the width, and what follows it
stage_made : (m : Made) → Sound m → (way : Direction) (k : ℕ) (a : List Lit) (b : Lit) (bs : List Lit) (t : Bool) → FillBelow m.next way → AllBelow m.next a → Below m.next b → AllBelow m.next bs
    → ((m' : Made) (w : List Lit) → Sound m' → FillBelow m'.next way → AllBelow m'.next w → AllBelow m'.next bs → MakesWord m' (shift_from way (k + k) w bs m'))
    → MakesWord m (if t then (let r = choose b (moved way k a) a m in shift_from way (k + k) r.bits bs r.made) else record { bits = a; made = m })
stage_made m s way k a b bs true f x y ys next =
    let r = choose b (moved way k a) a m in
    let g = choose_made m s b (moved way k a) a y (moved_below m s way k a f x) x in
    let n = next r.made r.bits g.extends.sound (fill_later m r.made way g.extends f) g.bits (later_word m r.made bs g.extends ys) in
    record { bits = n.bits; extends = ext_then m r.made (shift_from way (k + k) r.bits bs r.made).made g.extends n.extends }
stage_made m s way k a b bs false f x y ys next = record { bits = x; extends = ext_refl m s }

shift_made : (m : Made) → Sound m → (way : Direction) (k : ℕ) (a b : List Lit) → FillBelow m.next way → AllBelow m.next a → AllBelow m.next b → MakesWord m (shift_from way k a b m)
shift_made m s way k a [] f x y = record { bits = x; extends = ext_refl m s }
shift_made m s way k a (b ∷ bs) f x (y, ys) =
    stage_made m s way k a b bs (nat_lt k (length a)) f x y ys (λ m' w s' f' x' y'. shift_made m' s' way (k + k) w bs f' x' y')

there_and_back : (n : ℕ) (l : Lit) → Below n l → Below n (literal_of (number_of l))
there_and_back n (Pos i) h = h
there_and_back n (Neg i) h = h

pub circuits_make : CircuitsMake
circuits_make m s a b x y = record {
  ands = word_of_sum m (columns And a b F m) (columns_made m s And a b F x y (false_below m s));
  ors = word_of_sum m (columns Or a b F m) (columns_made m s Or a b F x y (false_below m s));
  xors = word_of_sum m (columns Xor a b F m) (columns_made m s Xor a b F x y (false_below m s));
  choices = λ c r. choose_made m s c a b r x y;
  sums = λ c r. sum_made m s a b c x y r;
  differences = sub_made m s a b x y;
  less = λ signed. less_made m s signed a b x y;
  less_equal = λ signed. opposite_made m (less signed b a m) (less_made m s signed b a y x);
  equal = eq_made m s a b x y;
  products = mul_from_made m s a b (zeros a) x y (zeros_below m s a);
  quotients = λ signed. quotients_made m s signed a b x y;
  shifts_left = shift_made m s Up 1 a b tt x y;
  shifts_right = λ signed. shift_made m s (Down (number_of (filling signed a))) 1 a b (there_and_back m.next (filling signed a) (filling_below m s signed a x)) x y;
  conversions = λ width signed. convert_made m s width signed a x;
}

pub constants_are_below : ConstantsAreBelow
constants_are_below = constant_below

pub extensions_are_below : ExtensionsAreBelow
extensions_are_below = extended_below
