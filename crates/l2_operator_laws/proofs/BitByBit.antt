-- Operators bit by bit of words that show values of a type.
use Rattle.std.proofs.Common.{◌≡◌, ℕ, zero, suc, ◌+◌, ◌*◌, ◌/◌, ◌%◌, ◌^◌, ◌<◌, min, max, Bool, true, false, ℤ, pos, bit_and, bit_or, bit_xor, refl, sym, ap, ◌∙◌, subst, List, [], ◌∷◌, length, arith}
use Rattle.std.specs.Int.{bit_at}
use Rattle.std.proofs.lemmas.Nat.{div-mul-add}
use Rattle.std.proofs.lemmas.Nat.Bits.{bit_at_lowest, bit_at-suc, bit_at_and, bit_at_or, bit_at_xor, same_from_bits}
use Rattle.std.proofs.Math.Nat.{mod-eq_of_lt, add-mul-mod_self_left}
use Rattle.l2_bits.specs.declared.types.Ty.{Ty}
use Rattle.l2_bits.specs.Values.{modulus, residue}
use Rattle.l2_bits.specs.Bits.{bitwise, and, or, xor}
use Rattle.l2_gates.specs.Gates.{Lit, F, Made}
use Rattle.l2_gates.specs.Models.{both, some_of, differ, value, Ok}
use Rattle.l2_circuits.specs.declared.columns.Kind.{Kind}
use Rattle.l2_circuits.specs.declared.columns.Kind.TheVariants.{And, Or, Xor}
use Rattle.l2_circuits.specs.Words.{columns}
use Rattle.l2_circuit_laws.specs.Values.{values, bit_number, number, SameSize, handed, column_value, column_values}
use Rattle.l2_circuit_laws.specs.Shows.{Shows, Gains}
use Rattle.l2_circuit_laws.proofs.Columns.{columns_add}
use Rattle.l2_circuit_laws.proofs.Numbers.{values_sizes}
use Rattle.l2_circuit_laws.proofs.Products.{columns_size}
use Rattle.l2_circuit_laws.proofs.Shown.{same_of_length, length_of_same}
use Rattle.l2_circuit_laws.proofs.Choices.{wraps_show}
use Rattle.l2_operator_laws.specs.Law.{BitByBitShows}
use Rattle.l2_operator_laws.proofs.Cut.{small_of}

-- ---- numbers by their lowest bit

low : (x : Bool) (n : ℕ) → bit_at (bit_number x + 2 * n) 0 ≡ bit_number x
low x n = bit_at_lowest (bit_number x + 2 * n) ∙ add-mul-mod_self_left (bit_number x) 2 n ∙ rest x
  where
    rest : (x : Bool) → bit_number x % 2 ≡ bit_number x
    rest true = refl
    rest false = refl

halved : (x : Bool) (n : ℕ) → (bit_number x + 2 * n) / 2 ≡ n
halved x n = ap (λ z. z / 2) (turned (bit_number x) n) ∙ div-mul-add n 2 (bit_number x) (small x)
  where
    turned : (b n : ℕ) → b + 2 * n ≡ n * 2 + b
    turned b n = grind arith

    small : (x : Bool) → bit_number x < 2
    small true = omega arith
    small false = omega arith

high : (x : Bool) (n i : ℕ) → bit_at (bit_number x + 2 * n) (suc i) ≡ bit_at n i
high x n i = bit_at-suc (bit_number x + 2 * n) i ∙ ap (λ z. bit_at z i) (halved x n)

-- an operation on numbers that is one on their bits
record Bitwise (f : ℕ → ℕ → ℕ) (g : Bool → Bool → Bool) (kind : Kind) : Type 0 where
  none : f 0 0 ≡ 0
  more : (x y : Bool) (n m : ℕ) → f (bit_number x + 2 * n) (bit_number y + 2 * m) ≡ bit_number (g x y) + 2 * f n m
  column : (x y c : Bool) → column_value kind x y c ≡ handed (g x y) c

one_more : (f h : ℕ → ℕ → ℕ) (g : Bool → Bool → Bool) → ((x y i : ℕ) → bit_at (f x y) i ≡ h (bit_at x i) (bit_at y i)) → ((x y : Bool) → h (bit_number x) (bit_number y) ≡ bit_number (g x y))
    → (x y : Bool) (n m : ℕ) → f (bit_number x + 2 * n) (bit_number y + 2 * m) ≡ bit_number (g x y) + 2 * f n m
one_more f h g each same x y n m = same_from_bits (f (bit_number x + 2 * n) (bit_number y + 2 * m)) (bit_number (g x y) + 2 * f n m) at
  where
    at : (i : ℕ) → bit_at (f (bit_number x + 2 * n) (bit_number y + 2 * m)) i ≡ bit_at (bit_number (g x y) + 2 * f n m) i
    at zero = each (bit_number x + 2 * n) (bit_number y + 2 * m) 0 ∙ (λ j. h (low x n j) (low y m j)) ∙ same x y ∙ sym (low (g x y) (f n m))
    at (suc i) = each (bit_number x + 2 * n) (bit_number y + 2 * m) (suc i) ∙ (λ j. h (high x n i j) (high y m i j)) ∙ sym (each n m i) ∙ sym (high (g x y) (f n m) i)

ands_are : Bitwise bit_and both And
ands_are = record { none = refl; more = one_more bit_and min both bit_at_and same; column = λ x y c. refl }
  where
    same : (x y : Bool) → min (bit_number x) (bit_number y) ≡ bit_number (both x y)
    same true true = refl
    same true false = refl
    same false true = refl
    same false false = refl

ors_are : Bitwise bit_or some_of Or
ors_are = record { none = refl; more = one_more bit_or max some_of bit_at_or same; column = λ x y c. refl }
  where
    same : (x y : Bool) → max (bit_number x) (bit_number y) ≡ bit_number (some_of x y)
    same true true = refl
    same true false = refl
    same false true = refl
    same false false = refl

xors_are : Bitwise bit_xor differ Xor
xors_are = record { none = refl; more = one_more bit_xor (λ x y. (x + y) % 2) differ bit_at_xor same; column = λ x y c. refl }
  where
    same : (x y : Bool) → (bit_number x + bit_number y) % 2 ≡ bit_number (differ x y)
    same true true = refl
    same true false = refl
    same false true = refl
    same false false = refl

-- ---- words

bits_number : (f : ℕ → ℕ → ℕ) (g : Bool → Bool → Bool) (kind : Kind) → Bitwise f g kind → (a b : List Bool) (c : Bool) → SameSize a b → number (column_values kind a b c).bits ≡ f (number a) (number b)
bits_number f g kind w [] [] c h = sym w.none
bits_number f g kind w [] (y ∷ b) c h = absurd h
bits_number f g kind w (x ∷ a) [] c h = absurd h
bits_number f g kind w (x ∷ a) (y ∷ b) c h =
    (λ i. bit_number (w.column x y c i).sum + 2 * number (column_values kind a b (w.column x y c i).carry).bits)
    ∙ ap (λ n. bit_number (g x y) + 2 * n) (bits_number f g kind w a b c h)
    ∙ sym (w.more x y (number a) (number b))

word_shows : (v : ℕ → Bool) → v 0 ≡ true → (f : ℕ → ℕ → ℕ) (g : Bool → Bool → Bool) (kind : Kind) → Bitwise f g kind → (ty : Ty) (a b : List Lit) (x y : ℤ) (m : Made)
    → Shows v ty.width a x → Shows v ty.width b y → Ok v (columns kind a b F m).made → Gains v m ty.width (columns kind a b F m).bits (bitwise f ty x y)
word_shows v truth f g kind w ty a b x y m s t ok =
    let h = same_of_length a b (s.size ∙ sym t.size) in
    let r = columns kind a b F m in
    let c = columns_add v truth kind a b F m ok in
    let rx = residue (modulus ty) x in
    let ry = residue (modulus ty) y in
    let size : length r.bits ≡ ty.width = length_of_same r.bits a (columns_size kind a b F m h) ∙ s.size in
    let e : number (values v r.bits) ≡ f rx ry = ap number c.bits ∙ bits_number f g kind w (values v a) (values v b) (value v F) (values_sizes v a b h) ∙ (λ i. f (s.number i) (t.number i)) in
    let l : f rx ry < 2 ^ ty.width = subst (λ z. z < 2 ^ ty.width) e (small_of v ty.width r.bits size) in
    record { before = c.before; shows = wraps_show v ty r.bits (pos (f rx ry)) (record { size = size; number = e ∙ sym (mod-eq_of_lt l) }) }

pub bit_by_bit_shows : BitByBitShows
unfolding and or xor
bit_by_bit_shows v truth ty a b x y m s t = record {
  ands = word_shows v truth bit_and both And ands_are ty a b x y m s t;
  ors = word_shows v truth bit_or some_of Or ors_are ty a b x y m s t;
  xors = word_shows v truth bit_xor differ Xor xors_are ty a b x y m s t;
}
