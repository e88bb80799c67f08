-- Constants, and words that are extended.
use Rattle.std.proofs.Common.{◌≡◌, ℕ, zero, suc, ◌+◌, ◌-◌, ◌*◌, ◌/◌, ◌%◌, ◌^◌, ◌==◌, ◌≤◌, ◌<◌, Bool, true, false, ℤ, pos, negsuc, neg_ℤ, ◌≤ℤ◌, ◌<ℤ◌, refl, sym, ap, ◌∙◌, subst, List, [], ◌∷◌, length, arith}
use Rattle.std.proofs.lemmas.Int.{ints}
use Rattle.std.proofs.lemmas.Nat.{pow_pos}
use Rattle.std.proofs.Math.Nat.{mod-eq_of_lt, mod-lt, mod-add-div}
use Rattle.l2_bits.specs.Values.{residue}
use Rattle.l2_gates.specs.Gates.{Lit, F}
use Rattle.l2_gates.specs.Models.{value}
use Rattle.l2_gates.proofs.Values.{value_F}
use Rattle.l2_circuits.specs.Words.{top, resized, extended, literal_if, digits, constant, negated_word}
use Rattle.l2_circuit_laws.specs.Values.{values, bit_number, number, power}
use Rattle.l2_circuit_laws.specs.Shows.{Shows, IsSigned, IsUnsigned, Fits, ConstantsShow, ExtensionsShow}
use Rattle.l2_circuit_laws.proofs.Numbers.{negated_values, not_number}
use Rattle.l2_circuit_laws.proofs.Shown.{power_is, only_rest}
use Rattle.l2_circuit_laws.proofs.Signed.{top_bit, turned_is, values_length}

-- ---- digits

digits_length : (n a : ℕ) → length (digits n a) ≡ n
digits_length zero a = refl
digits_length (suc n) a = ap suc (digits_length n (a / 2))

negated_length : (a : List Lit) → length (negated_word a) ≡ length a
negated_length [] = refl
negated_length (x ∷ a) = ap suc (negated_length a)

-- a remainder by twice as much, bit by bit
next_rest : (a P r q : ℕ) → 0 < P → r ≡ a % 2 → q ≡ (a / 2) % P → r + 2 * q ≡ a % (2 * P)
next_rest a P r q some e f =
    let d = mod-add-div a 2 in
    let h = mod-add-div (a / 2) P in
    let l : a % 2 < 2 = mod-lt a (omega arith) in
    let k : (a / 2) % P < P = mod-lt (a / 2) some in
    let s : r + 2 * q + ((a / 2) / P) * (2 * P) ≡ a = joined a P r q ((a / 2) / P) (a / 2) (ap (λ z. z + 2 * (a / 2)) e ∙ d) (ap (λ z. z + P * ((a / 2) / P)) f ∙ h) in
    only_rest (r + 2 * q) ((a / 2) / P) (2 * P) a s (omega arith)
  where
    joined : (a P r q t u : ℕ) → r + 2 * u ≡ a → q + P * t ≡ u → r + 2 * q + t * (2 * P) ≡ a
    joined a P r q t u e f = let k : P * t ≡ t * P = grind arith in let j : t * (2 * P) ≡ 2 * (t * P) = grind arith in omega arith

-- a larger exponent
pow_le : (n k : ℕ) → n ≤ k → 2 ^ n ≤ 2 ^ k
pow_le n zero h = let e : n ≡ 0 = omega arith in subst (λ z. 2 ^ z ≤ 2 ^ 0) (sym e) (omega arith)
pow_le zero (suc k) h = let p : 0 < 2 ^ suc k = pow_pos (suc k) in omega arith
pow_le (suc n) (suc k) h = let r = pow_le n k (omega arith) in let a : 2 ^ suc n ≡ 2 * 2 ^ n = grind arith in let b : 2 ^ suc k ≡ 2 * 2 ^ k = grind arith in omega arith

module _ (v : ℕ → Bool) (truth : v 0 ≡ true) where
  bit_value : (a : ℕ) → bit_number (value v (literal_if (a % 2 == 1))) ≡ a % 2
  bit_value a = go (a % 2) (mod-lt a (omega arith))
    where
      go : (r : ℕ) → r < 2 → bit_number (value v (literal_if (r == 1))) ≡ r
      go zero h = ap bit_number (value_F v truth)
      go (suc zero) h = ap bit_number truth
      go (suc (suc r)) h = absurd (omega arith)

  digits_number : (n a : ℕ) → number (values v (digits n a)) ≡ a % 2 ^ n
  digits_number zero a = only_rest 0 a 1 a (omega arith) (omega arith)
  digits_number (suc n) a =
      let some : 0 < 2 ^ n = pow_pos n in
      let two : 2 * 2 ^ n ≡ 2 ^ suc n = grind arith in
      next_rest a (2 ^ n) (bit_number (value v (literal_if (a % 2 == 1)))) (number (values v (digits n (a / 2)))) some (bit_value a) (digits_number n (a / 2)) ∙ ap (λ z. a % z) two

  constant_shows : (n : ℕ) (x : ℤ) → Shows v n (constant n x) x
  constant_shows n (pos a) = record { size = digits_length n a; number = digits_number n a }
  constant_shows n (negsuc a) =
      let d = digits n a in
      let e : number (values v (negated_word d)) + number (values v d) + 1 ≡ power (values v d) = ap (λ z. number z + number (values v d) + 1) (negated_values v d) ∙ not_number (values v d) in
      let p : power (values v d) ≡ 2 ^ n = power_is (values v d) ∙ ap (λ k. 2 ^ k) (values_length v d ∙ digits_length n a) in
      let q = digits_number n a in
      record { size = negated_length d ∙ digits_length n a; number = left (number (values v (negated_word d))) (number (values v d)) (power (values v d)) (2 ^ n) (a % 2 ^ n) e p q }
    where
      left : (x d p N r : ℕ) → x + d + 1 ≡ p → p ≡ N → d ≡ r → x ≡ N - 1 - r
      left x d p N r e f g = omega arith

  -- ---- extension

  resized_length : (k : ℕ) (fill : Lit) (a : List Lit) → length (resized k fill a) ≡ k
  resized_length zero fill a = refl
  resized_length (suc k) fill [] = ap suc (resized_length k fill [])
  resized_length (suc k) fill (x ∷ a) = ap suc (resized_length k fill a)

  -- a longer word has the literal in all further places
  resized_number : (k : ℕ) (fill : Lit) (a : List Lit) → length a ≤ k
      → number (values v (resized k fill a)) + bit_number (value v fill) * power a ≡ number (values v a) + bit_number (value v fill) * 2 ^ k
  resized_number zero fill [] h = refl
  resized_number zero fill (x ∷ a) h = absurd (omega arith)
  resized_number (suc k) fill [] h =
      let r = resized_number k fill [] (omega arith) in
      first_more (bit_number (value v fill)) (number (values v (resized k fill []))) (2 ^ k) (2 ^ suc k) (grind arith) r
    where
      first_more : (f n P Q : ℕ) → Q ≡ 2 * P → n + f * 1 ≡ 0 + f * P → f + 2 * n + f * 1 ≡ 0 + f * Q
      first_more f n P Q e r = let q : f * Q ≡ 2 * (f * P) = ap (λ z. f * z) e ∙ grind arith in omega arith
  resized_number (suc k) fill (x ∷ a) h =
      let r = resized_number k fill a (omega arith) in
      more (bit_number (value v x)) (bit_number (value v fill)) (number (values v (resized k fill a))) (number (values v a)) (power a) (2 ^ k) (2 ^ suc k) (grind arith) r
    where
      more : (x f n m p P Q : ℕ) → Q ≡ 2 * P → n + f * p ≡ m + f * P → x + 2 * n + f * (2 * p) ≡ x + 2 * m + f * Q
      more x f n m p P Q e r = let q : f * Q ≡ 2 * (f * P) = ap (λ z. f * z) e ∙ grind arith in let s : f * (2 * p) ≡ 2 * (f * p) = grind arith in omega arith

  top_value : (a : List Lit) → value v (top a) ≡ top_bit (values v a)
  top_value [] = value_F v truth
  top_value (x ∷ []) = refl
  top_value (x ∷ y ∷ rest) = top_value (y ∷ rest)

  -- a longer word of a number without a sign
  plain : (n k : ℕ) (a : List Lit) (x : ℤ) → n ≤ k → IsUnsigned n x → Shows v n a x → number (values v (resized k F a)) ≡ residue (2 ^ k) x
  plain n k a x h f s =
      let r = resized_number k F a (let e = s.size in omega arith) in
      let z : bit_number (value v F) ≡ 0 = ap bit_number (value_F v truth) in
      same_rest (number (values v (resized k F a))) (number (values v a)) (bit_number (value v F)) (power a) (2 ^ k) z r ∙ s.number ∙ grown (2 ^ n) (2 ^ k) x (pow_le n k h) f.from f.to
    where
      same_rest : (m n f p P : ℕ) → f ≡ 0 → m + f * p ≡ n + f * P → m ≡ n
      same_rest m n f p P e r = let q : m + 0 * p ≡ n + 0 * P = subst (λ z. m + z * p ≡ n + z * P) e r in omega arith

      grown : (N K : ℕ) (x : ℤ) → N ≤ K → pos 0 ≤ℤ x → x <ℤ pos N → residue N x ≡ residue K x
      grown N K (pos j) l f t = let p : j % N ≡ j = mod-eq_of_lt (omega (arith, ints)) in let q : j % K ≡ j = mod-eq_of_lt (omega (arith, ints)) in p ∙ sym q
      grown N K (negsuc j) l f t = absurd (omega (arith, ints))

  -- a longer word of a number with a sign
  longer_pos : (h N K j n m p : ℕ) (t : Bool) → N ≡ 2 * h → N ≤ K → pos j <ℤ pos h → n ≡ j % N → p ≡ N → (t ≡ true → h ≤ n) → m + bit_number t * p ≡ n + bit_number t * K → m ≡ j % K
  longer_pos h N K j n m p true e l f s q w r = let a : j % N ≡ j = mod-eq_of_lt (omega (arith, ints)) in let b : j < h = omega (arith, ints) in let c = w refl in absurd (omega arith)
  longer_pos h N K j n m p false e l f s q w r = let a : j % N ≡ j = mod-eq_of_lt (omega (arith, ints)) in let b : j % K ≡ j = mod-eq_of_lt (omega (arith, ints)) in omega arith

  longer_neg : (h N K j n m p : ℕ) (t : Bool) → N ≡ 2 * h → N ≤ K → neg_ℤ (pos h) ≤ℤ negsuc j → n ≡ N - 1 - j % N → p ≡ N → (t ≡ false → n < h) → m + bit_number t * p ≡ n + bit_number t * K → m ≡ K - 1 - j % K
  longer_neg h N K j n m p true e l f s q w r = let b : j < h = omega (arith, ints) in let a : j % N ≡ j = mod-eq_of_lt (omega arith) in let c : j % K ≡ j = mod-eq_of_lt (omega arith) in omega arith
  longer_neg h N K j n m p false e l f s q w r = let b : j < h = omega (arith, ints) in let a : j % N ≡ j = mod-eq_of_lt (omega arith) in let c = w refl in absurd (omega arith)

  longer : (h N K n m p : ℕ) (t : Bool) (x : ℤ) → N ≡ 2 * h → N ≤ K → neg_ℤ (pos h) ≤ℤ x → x <ℤ pos h → n ≡ residue N x → p ≡ N → (t ≡ true → h ≤ n) → (t ≡ false → n < h) → m + bit_number t * p ≡ n + bit_number t * K → m ≡ residue K x
  longer h N K n m p t (pos j) e l f g s q w u r = longer_pos h N K j n m p t e l g s q w r
  longer h N K n m p t (negsuc j) e l f g s q w u r = longer_neg h N K j n m p t e l f s q u r

  signed : (n k : ℕ) (a : List Lit) (x : ℤ) → 1 ≤ n → n ≤ k → IsSigned n x → Shows v n a x → number (values v (resized k (top a) a)) ≡ residue (2 ^ k) x
  signed n k [] x some h f s = absurd (let e = s.size in omega arith)
  signed zero k (b ∷ a) x some h f s = absurd (omega arith)
  signed (suc i) k (b ∷ a) x some h f s =
      let w = b ∷ a in
      let r = resized_number k (top w) w (let e = s.size in omega arith) in
      let t = turned_is (value v b) (values v a) in
      let size : length a ≡ i = let e = s.size in omega arith in
      let half : power (values v a) ≡ 2 ^ i = power_is (values v a) ∙ ap (λ j. 2 ^ j) (values_length v a ∙ size) in
      let minus : suc i - 1 ≡ i = omega arith in
      let from = subst (λ j. neg_ℤ (pos (2 ^ j)) ≤ℤ x) minus f.from in
      let to = subst (λ j. x <ℤ pos (2 ^ j)) minus f.to in
      longer (2 ^ i) (2 ^ suc i) (2 ^ k) (number (values v w)) (number (values v (resized k (top w) w))) (power w) (top_bit (values v w)) x (grind arith) (pow_le (suc i) k h) from to s.number
      (power_is w ∙ ap (λ j. 2 ^ j) s.size)
      (λ e. subst (λ z. z ≤ number (values v w)) half (let d = t.down e in omega arith))
      (λ e. subst (λ z. number (values v w) < z) half (t.low e))
      (subst (λ z. number (values v (resized k (top w) w)) + bit_number z * power w ≡ number (values v w) + bit_number z * 2 ^ k) (top_value w) r)

  extension_shows : (sign : Bool) (n k : ℕ) (a : List Lit) (x : ℤ) → 1 ≤ n → n ≤ k → Fits sign n x → Shows v n a x → Shows v k (extended k sign a) x
  extension_shows true n k a x some h f s = record { size = resized_length k (top a) a; number = signed n k a x some h f s }
  extension_shows false n k a x some h f s = record { size = resized_length k F a; number = plain n k a x h f s }

pub constants_show : ConstantsShow
constants_show = λ v truth n x. constant_shows v truth n x

pub extensions_show : ExtensionsShow
extensions_show = λ v truth sign n k a x some h f s. extension_shows v truth sign n k a x some h f s
