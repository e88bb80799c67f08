-- Comparisons of words that show numbers.
use Rattle.std.proofs.Common.{◌≡◌, ◌≢◌, ℕ, zero, suc, ◌+◌, ◌-◌, ◌*◌, ◌%◌, ◌^◌, ◌≤◌, ◌<◌, Bool, true, false, not, ℤ, pos, negsuc, neg_ℤ, ◌+ℤ◌, ◌≤ℤ◌, ◌<ℤ◌, int_lt, refl, sym, ap, ◌∙◌, subst, List, [], ◌∷◌, length, arith}
use Rattle.std.specs.Prelude.{nat_lt, nat_eq}
use Rattle.std.specs.Ordering.{int_eq}
use Rattle.std.proofs.lemmas.Int.{ints}
use Rattle.std.proofs.lemmas.Bool.Decides.{nat_tests}
use Rattle.std.proofs.Math.Nat.{mod-eq_of_lt}
use Rattle.l2_bits.specs.Values.{residue}
use Rattle.l2_gates.specs.Gates.{Lit, Made}
use Rattle.l2_gates.specs.Models.{value, Gives}
use Rattle.l2_gates.proofs.Values.{negated_value}
use Rattle.l2_circuits.specs.Words.{top_negated, ltu, lts, less, less_equal, eq}
use Rattle.l2_circuit_laws.specs.Values.{values, bit_number, number, power}
use Rattle.l2_circuit_laws.specs.Shows.{Shows, IsSigned, IsUnsigned, Fits, LessShows, LessEqualShows, EqualShows}
use Rattle.l2_circuit_laws.proofs.Numbers.{less_gives, equal_gives}
use Rattle.l2_circuit_laws.proofs.Shown.{same_of_length, power_is}

-- ---- the top bit

abbrev pub top_bit : List Bool → Bool
top_bit [] = false
top_bit (x ∷ []) = x
top_bit (x ∷ y ∷ rest) = top_bit (y ∷ rest)

abbrev pub top_turned : List Bool → List Bool
top_turned [] = []
top_turned (x ∷ []) = not x ∷ []
top_turned (x ∷ y ∷ rest) = x ∷ top_turned (y ∷ rest)

pub turned_values : (v : ℕ → Bool) (a : List Lit) → values v (top_negated a) ≡ top_turned (values v a)
turned_values v [] = refl
turned_values v (x ∷ []) = ap (λ z. z ∷ []) (negated_value v x)
turned_values v (x ∷ y ∷ rest) = ap (λ zs. value v x ∷ zs) (turned_values v (y ∷ rest))

small_bit : (x : Bool) → bit_number x ≤ 1
small_bit true = omega arith
small_bit false = omega arith

-- a word with its top bit turned, and what its top bit says of its number
pub record Turned (t : Bool) (w : List Bool) (half : ℕ) : Type 0 where
  pub down : t ≡ true → number (top_turned w) + half ≡ number w
  pub up : t ≡ false → number (top_turned w) ≡ number w + half
  pub low : t ≡ false → number w < half

pub turned_is : (x : Bool) (a : List Bool) → Turned (top_bit (x ∷ a)) (x ∷ a) (power a)
turned_is true [] = record { down = λ e. refl; up = λ e. cc; low = λ e. cc }
turned_is false [] = record { down = λ e. cc; up = λ e. refl; low = λ e. omega arith }
turned_is x (y ∷ rest) =
    let r = turned_is y rest in
    let b = small_bit x in
    record {
      down = λ e. (let h = r.down e in omega arith);
      up = λ e. (let h = r.up e in omega arith);
      low = λ e. (let h = r.low e in omega arith);
    }

-- ---- numbers with a sign

-- the number with its top bit turned is the number and half of all
offset_pos : (h N k tf n : ℕ) (t : Bool) → N ≡ 2 * h → pos k <ℤ pos h → n ≡ k % N
    → (t ≡ true → tf + h ≡ n) → (t ≡ false → tf ≡ n + h) → pos tf ≡ pos k +ℤ pos h
offset_pos h N k tf n true e l m d u =
    let q : k < h = omega (arith, ints) in
    let r : k % N ≡ k = mod-eq_of_lt (omega arith) in
    let s = d refl in
    absurd (omega arith)
offset_pos h N k tf n false e l m d u =
    let q : k < h = omega (arith, ints) in
    let r : k % N ≡ k = mod-eq_of_lt (omega arith) in
    let s = u refl in
    omega (arith, ints)

offset_neg : (h N k tf n : ℕ) (t : Bool) → N ≡ 2 * h → neg_ℤ (pos h) ≤ℤ negsuc k → n ≡ N - 1 - k % N
    → (t ≡ true → tf + h ≡ n) → (t ≡ false → n < h) → pos tf ≡ negsuc k +ℤ pos h
offset_neg h N k tf n true e l m d u =
    let q : k < h = omega (arith, ints) in
    let r : k % N ≡ k = mod-eq_of_lt (omega arith) in
    let s = d refl in
    omega (arith, ints)
offset_neg h N k tf n false e l m d u =
    let q : k < h = omega (arith, ints) in
    let r : k % N ≡ k = mod-eq_of_lt (omega arith) in
    let s = u refl in
    absurd (omega arith)

offset : (h N n tf : ℕ) (t : Bool) (x : ℤ) → N ≡ 2 * h → neg_ℤ (pos h) ≤ℤ x → x <ℤ pos h → n ≡ residue N x
    → (t ≡ true → tf + h ≡ n) → (t ≡ false → tf ≡ n + h) → (t ≡ false → n < h) → pos tf ≡ x +ℤ pos h
offset h N n tf t (pos k) e f l m d u w = offset_pos h N k tf n t e l m d u
offset h N n tf t (negsuc k) e f l m d u w = offset_neg h N k tf n t e f m d w

halves : (k : ℕ) → 2 ^ suc k ≡ 2 * 2 ^ k
halves k = grind arith

less_offset : (p q h : ℕ) (x y : ℤ) → pos p ≡ x +ℤ pos h → pos q ≡ y +ℤ pos h → nat_lt p q ≡ int_lt x y
less_offset p q h x y e f = go (nat_lt p q) refl
  where
    under : (a b : ℤ) → a <ℤ b → int_lt a b ≡ true
    under a b l = grind (arith, ints)

    from : (a b : ℤ) → b ≤ℤ a → int_lt a b ≡ false
    from a b l = grind (arith, ints)

    lt_is : (a b : ℕ) → nat_lt a b ≡ true → a < b
    lt_is a b g = grind (arith, nat_tests)

    ge_is : (a b : ℕ) → nat_lt a b ≡ false → b ≤ a
    ge_is a b g = grind (arith, nat_tests)

    go : (t : Bool) → nat_lt p q ≡ t → t ≡ int_lt x y
    go true g = sym (under x y (let l = lt_is p q g in omega (arith, ints)))
    go false g = sym (from x y (let l = ge_is p q g in omega (arith, ints)))

pub values_length : (v : ℕ → Bool) (a : List Lit) → length (values v a) ≡ length a
values_length v [] = refl
values_length v (x ∷ a) = ap suc (values_length v a)

turned_length : (a : List Lit) → length (top_negated a) ≡ length a
turned_length [] = refl
turned_length (x ∷ []) = refl
turned_length (x ∷ y ∷ rest) = ap suc (turned_length (y ∷ rest))

-- a number without a sign is that of its word
unsigned_number : (N n : ℕ) (x : ℤ) → pos 0 ≤ℤ x → x <ℤ pos N → n ≡ residue N x → pos n ≡ x
unsigned_number N n (pos k) f l e = let r : k % N ≡ k = mod-eq_of_lt (omega (arith, ints)) in ap pos (e ∙ r)
unsigned_number N n (negsuc k) f l e = absurd (omega (arith, ints))

less_unsigned : (p q : ℕ) (x y : ℤ) → pos p ≡ x → pos q ≡ y → nat_lt p q ≡ int_lt x y
less_unsigned p q x y e f = less_offset p q 0 x y (omega (arith, ints)) (omega (arith, ints))

-- equal residues of numbers that fit
equal_test : (p q : ℕ) (x y : ℤ) → (p ≡ q → x ≡ y) → (x ≡ y → p ≡ q) → nat_eq p q ≡ int_eq x y
equal_test p q x y f g = go (nat_eq p q) refl
  where
    eq_is : (a b : ℕ) → nat_eq a b ≡ true → a ≡ b
    eq_is a b h = grind (arith, nat_tests)

    ne_is : (a b : ℕ) → nat_eq a b ≡ false → a ≢ b
    ne_is a b h = grind (arith, nat_tests)

    same : (a b : ℤ) → a ≡ b → int_eq a b ≡ true
    same a b h = grind (arith, ints)

    apart : (a b : ℤ) → a ≢ b → int_eq a b ≡ false
    apart a b h = grind (arith, ints)

    go : (t : Bool) → nat_eq p q ≡ t → t ≡ int_eq x y
    go true h = sym (same x y (f (eq_is p q h)))
    go false h = sym (apart x y (λ e. ne_is p q h (g e)))

module _ (v : ℕ → Bool) (truth : v 0 ≡ true) where
  turned_number : (n : ℕ) (a : List Lit) (x : ℤ) → 1 ≤ n → IsSigned n x → Shows v n a x → pos (number (values v (top_negated a))) ≡ x +ℤ pos (2 ^ (n - 1))
  turned_number n [] x some f s = absurd (let e = s.size in omega arith)
  turned_number zero (b ∷ a) x some f s = absurd (omega arith)
  turned_number (suc k) (b ∷ a) x some f s =
      let w = values v (b ∷ a) in
      let r = turned_is (value v b) (values v a) in
      let size : length a ≡ k = let e = s.size in omega arith in
      let half : power (values v a) ≡ 2 ^ k = power_is (values v a) ∙ ap (λ i. 2 ^ i) (values_length v a ∙ size) in
      let minus : suc k - 1 ≡ k = omega arith in
      let from = subst (λ i. neg_ℤ (pos (2 ^ i)) ≤ℤ x) minus f.from in
      let to = subst (λ i. x <ℤ pos (2 ^ i)) minus f.to in
      ap (λ z. pos (number z)) (turned_values v (b ∷ a))
      ∙ offset (2 ^ k) (2 ^ suc k) (number w) (number (top_turned w)) (top_bit w) x (halves k) from to s.number
      (λ e. ap (λ h. number (top_turned w) + h) (sym half) ∙ r.down e)
      (λ e. r.up e ∙ ap (λ h. number w + h) half)
      (λ e. subst (λ h. number w < h) half (r.low e))
      ∙ ap (λ i. x +ℤ pos (2 ^ i)) (sym minus)

  less_signed : (n : ℕ) (a b : List Lit) (x y : ℤ) (m : Made) → 1 ≤ n → IsSigned n x → IsSigned n y → Shows v n a x → Shows v n b y → Gives v m (int_lt x y) (lts a b m)
  less_signed n a b x y m some f g s t = λ ok.
      let h = same_of_length (top_negated a) (top_negated b) (turned_length a ∙ s.size ∙ sym (turned_length b ∙ t.size)) in
      let r = less_gives v truth (top_negated a) (top_negated b) m h ok in
      record {
        before = r.before;
        is = r.is ∙ less_offset (number (values v (top_negated a))) (number (values v (top_negated b))) (2 ^ (n - 1)) x y (turned_number n a x some f s) (turned_number n b y some g t);
      }

  less_plain : (n : ℕ) (a b : List Lit) (x y : ℤ) (m : Made) → IsUnsigned n x → IsUnsigned n y → Shows v n a x → Shows v n b y → Gives v m (int_lt x y) (ltu a b m)
  less_plain n a b x y m f g s t = λ ok.
      let r = less_gives v truth a b m (same_of_length a b (s.size ∙ sym t.size)) ok in
      record {
        before = r.before;
        is = r.is ∙ less_unsigned (number (values v a)) (number (values v b)) x y (unsigned_number (2 ^ n) (number (values v a)) x f.from f.to s.number) (unsigned_number (2 ^ n) (number (values v b)) y g.from g.to t.number);
      }

  pub less_show : (signed : Bool) (n : ℕ) (a b : List Lit) (x y : ℤ) (m : Made) → 1 ≤ n → Fits signed n x → Fits signed n y → Shows v n a x → Shows v n b y → Gives v m (int_lt x y) (less signed a b m)
  less_show true n a b x y m some f g s t = less_signed n a b x y m some f g s t
  less_show false n a b x y m some f g s t = less_plain n a b x y m f g s t

  pub less_equal_show : (signed : Bool) (n : ℕ) (a b : List Lit) (x y : ℤ) (m : Made) → 1 ≤ n → Fits signed n x → Fits signed n y → Shows v n a x → Shows v n b y → Gives v m (not (int_lt y x)) (less_equal signed a b m)
  less_equal_show signed n a b x y m some f g s t = λ ok.
      let r = less_show signed n b a y x m some g f t s ok in
      record { before = r.before; is = negated_value v (less signed b a m).bit ∙ ap not r.is }

  -- a number that fits is told by its word
  told : (signed : Bool) (n : ℕ) (a b : List Lit) (x y : ℤ) → 1 ≤ n → Fits signed n x → Fits signed n y → Shows v n a x → Shows v n b y → number (values v a) ≡ number (values v b) → x ≡ y
  told true n a b x y some f g s t e = near (2 ^ (n - 1)) (2 ^ n) x y (doubled n some) f.from f.to g.from g.to (sym s.number ∙ e ∙ t.number)
    where
      doubled : (n : ℕ) → 1 ≤ n → 2 ^ n ≡ 2 * 2 ^ (n - 1)
      doubled zero h = absurd (omega arith)
      doubled (suc k) h = let q : suc k - 1 ≡ k = omega arith in halves k ∙ ap (λ i. 2 * 2 ^ i) (sym q)

      near : (h N : ℕ) (x y : ℤ) → N ≡ 2 * h → neg_ℤ (pos h) ≤ℤ x → x <ℤ pos h → neg_ℤ (pos h) ≤ℤ y → y <ℤ pos h → residue N x ≡ residue N y → x ≡ y
      near h N (pos j) (pos k) q a b c d e = let r : j % N ≡ j = mod-eq_of_lt (omega (arith, ints)) in let s : k % N ≡ k = mod-eq_of_lt (omega (arith, ints)) in ap pos (sym r ∙ e ∙ s)
      near h N (pos j) (negsuc k) q a b c d e =
          let r : j % N ≡ j = mod-eq_of_lt (omega (arith, ints)) in let l : k < h = omega (arith, ints) in let s : k % N ≡ k = mod-eq_of_lt (omega arith) in let u : j < h = omega (arith, ints) in
          absurd (omega arith)
      near h N (negsuc j) (pos k) q a b c d e =
          let r : k % N ≡ k = mod-eq_of_lt (omega (arith, ints)) in let l : j < h = omega (arith, ints) in let s : j % N ≡ j = mod-eq_of_lt (omega arith) in let u : k < h = omega (arith, ints) in
          absurd (omega arith)
      near h N (negsuc j) (negsuc k) q a b c d e =
          let l : j < h = omega (arith, ints) in let u : k < h = omega (arith, ints) in
          let r : j % N ≡ j = mod-eq_of_lt (omega arith) in let s : k % N ≡ k = mod-eq_of_lt (omega arith) in
          ap negsuc (omega arith)
  told false n a b x y some f g s t e =
      sym (unsigned_number (2 ^ n) (number (values v a)) x f.from f.to s.number) ∙ ap pos e ∙ unsigned_number (2 ^ n) (number (values v b)) y g.from g.to t.number

  pub equal_show : (signed : Bool) (n : ℕ) (a b : List Lit) (x y : ℤ) (m : Made) → 1 ≤ n → Fits signed n x → Fits signed n y → Shows v n a x → Shows v n b y → Gives v m (int_eq x y) (eq a b m)
  equal_show signed n a b x y m some f g s t = λ ok.
      let r = equal_gives v truth a b m (same_of_length a b (s.size ∙ sym t.size)) ok in
      record {
        before = r.before;
        is = r.is ∙ equal_test (number (values v a)) (number (values v b)) x y (told signed n a b x y some f g s t) (λ e. s.number ∙ ap (residue (2 ^ n)) e ∙ sym t.number);
      }

pub less_shows : LessShows
less_shows = λ v truth signed n a b x y m some f g s t. less_show v truth signed n a b x y m some f g s t

pub less_equal_shows : LessEqualShows
less_equal_shows = λ v truth signed n a b x y m some f g s t. less_equal_show v truth signed n a b x y m some f g s t

pub equal_shows : EqualShows
equal_shows = λ v truth signed n a b x y m some f g s t. equal_show v truth signed n a b x y m some f g s t
