-- Circuits on words: lists of literals, bit 0 first. Gates are made in the order in which they stand here.
use Rattle.std.specs.Prelude.{ℕ, zero, suc, ◌%◌, ◌/◌, ◌==◌, Bool, if◌then◌else◌, ℤ, pos, negsuc, List, [], ◌∷◌, map}
use Rattle.l2_circuits.specs.declared.columns.Kind.{Kind}
use Rattle.l2_circuits.specs.declared.columns.Kind.TheVariants.{And, Or, Xor, Choose, Mask, Add, Equal}
use Rattle.l2_gates.specs.Gates.{Lit, negated, T, F, Made, Bit, known, and, or, xor, mux}

-- a word, and what is made then
pub record Word : Type 0 where
  pub bits : List Lit
  pub made : Made

-- a sum, its last carry, and what is made then
pub record Sum : Type 0 where
  pub bits : List Lit
  pub carry : Lit
  pub made : Made

abbrev pub known_word : List Lit → Made → Word
known_word a m = record { bits = a; made = m }

abbrev pub opposite : Bit → Bit
opposite b = record { bit = negated b.bit; made = b.made }

-- ---- words without a gate

abbrev pub negated_word : List Lit → List Lit
negated_word = map negated

-- the top bit; a word without bits has F
abbrev pub top : List Lit → Lit
top [] = F
top (a ∷ []) = a
top (a ∷ b ∷ rest) = top (b ∷ rest)

-- the word with its top bit negated
abbrev pub top_negated : List Lit → List Lit
top_negated [] = []
top_negated (a ∷ []) = negated a ∷ []
top_negated (a ∷ b ∷ rest) = a ∷ top_negated (b ∷ rest)

-- so many bits of a word, filled up with this literal
abbrev pub resized : ℕ → Lit → List Lit → List Lit
resized zero fill a = []
resized (suc n) fill [] = fill ∷ resized n fill []
resized (suc n) fill (a ∷ rest) = a ∷ resized n fill rest

-- the literal by which a word is extended
abbrev pub filling : Bool → List Lit → Lit
filling signed a = if signed then top a else F

-- so many bits of a word that has a sign or not
abbrev pub extended : ℕ → Bool → List Lit → List Lit
extended n signed a = resized n (filling signed a) a

abbrev pub literal_if : Bool → Lit
literal_if b = if b then T else F

-- the lowest bits of a number
abbrev pub digits : ℕ → ℕ → List Lit
digits zero a = []
digits (suc n) a = literal_if (a % 2 == 1) ∷ digits n (a / 2)

-- the lowest bits of a whole number in two's complement: those of -(a + 1) are those of a, negated
abbrev pub constant : ℕ → ℤ → List Lit
constant n (pos a) = digits n a
constant n (negsuc a) = negated_word (digits n a)

-- a truth value as a word
abbrev pub truth_word : Lit → List Lit
truth_word l = resized 32 F (l ∷ [])

-- ---- bit by bit

-- what two bits and the literal that is handed from bit to bit come to: a bit, and what is handed on
pub record Column : Type 0 where
  pub sum : Lit
  pub carry : Lit
  pub made : Made

abbrev pub handing_on : Lit → Bit → Column
handing_on c b = record { sum = b.bit; carry = c; made = b.made }

-- the sum and the carry of two bits and a carry
abbrev pub full_adder : Lit → Lit → Lit → Made → Column
full_adder x y c m =
    let d = xor x y m in
    let s = xor d.bit c d.made in
    let p = and x y s.made in
    let q = and d.bit c p.made in
    let k = or p.bit q.bit q.made in
    record { sum = s.bit; carry = k.bit; made = k.made }

-- whether the bits are equal, and all before them were
abbrev pub equal_so_far : Lit → Lit → Lit → Made → Column
equal_so_far x y e m =
    let d = xor x y m in
    let k = and e (negated d.bit) d.made in
    record { sum = d.bit; carry = k.bit; made = k.made }

abbrev pub column : Kind → Lit → Lit → Lit → Made → Column
column And x y c m = handing_on c (and x y m)
column Or x y c m = handing_on c (or x y m)
column Xor x y c m = handing_on c (xor x y m)
column Choose x y c m = handing_on c (mux c x y m)
column Mask x y c m = handing_on c (and x c m)
column Add x y c m = full_adder x y c m
column Equal x y c m = equal_so_far x y c m

abbrev pub behind_bit : Lit → Sum → Sum
behind_bit b s = record { bits = b ∷ s.bits; carry = s.carry; made = s.made }

-- goes through two words from bit 0 on
abbrev pub columns : Kind → List Lit → List Lit → Lit → Made → Sum
columns kind [] b c m = record { bits = []; carry = c; made = m }
columns kind (x ∷ a) [] c m = record { bits = []; carry = c; made = m }
columns kind (x ∷ a) (y ∷ b) c m = let k = column kind x y c m in behind_bit k.sum (columns kind a b k.carry k.made)

abbrev pub word_of : Sum → Word
word_of s = known_word s.bits s.made

abbrev pub bit_of : Sum → Bit
bit_of s = known s.carry s.made

abbrev pub ands : List Lit → List Lit → Made → Word
ands a b m = word_of (columns And a b F m)

abbrev pub ors : List Lit → List Lit → Made → Word
ors a b m = word_of (columns Or a b F m)

abbrev pub xors : List Lit → List Lit → Made → Word
xors a b m = word_of (columns Xor a b F m)

-- a where c is true, else b
abbrev pub choose : Lit → List Lit → List Lit → Made → Word
choose c a b m = word_of (columns Choose a b c m)

-- each bit of a, where c is true
abbrev pub where_true : List Lit → Lit → Made → Word
where_true a c m = word_of (columns Mask a a c m)

abbrev pub sum : List Lit → List Lit → Lit → Made → Sum
sum a b c m = columns Add a b c m

abbrev pub sub : List Lit → List Lit → Made → Sum
sub a b m = sum a (negated_word b) T m

-- ---- comparisons

-- less, without signs: where the difference has no carry
abbrev pub ltu : List Lit → List Lit → Made → Bit
ltu a b m = opposite (bit_of (sub a b m))

-- less, with signs
abbrev pub lts : List Lit → List Lit → Made → Bit
lts a b m = ltu (top_negated a) (top_negated b) m

abbrev pub less : Bool → List Lit → List Lit → Made → Bit
less signed a b m = if signed then lts a b m else ltu a b m

abbrev pub less_equal : Bool → List Lit → List Lit → Made → Bit
less_equal signed a b m = opposite (less signed b a m)

abbrev pub eq : List Lit → List Lit → Made → Bit
eq a b m = bit_of (columns Equal a b T m)

-- the word 0 of this length
abbrev pub zeros : List Lit → List Lit
zeros = map (λ x. F)

-- ---- conversion

-- a word of some type as one of another: to `_Bool` it is whether it isn't 0
abbrev pub to_bool : List Lit → Made → Word
to_bool a m = let e = eq a (zeros a) m in known_word (negated e.bit ∷ []) e.made

abbrev pub convert : ℕ → Bool → List Lit → Made → Word
convert width signed a m = if width == 1 then to_bool a m else known_word (extended width signed a) m
