-- The top bit of a word that shows a number with a sign, and words that are negated.
use Rattle.std.proofs.Common.{◌≡◌, ℕ, zero, suc, ◌-◌, ◌*◌, ◌%◌, ◌^◌, ◌≤◌, ◌<◌, Bool, true, false, ℤ, pos, negsuc, neg_ℤ, ◌-ℤ◌, ◌≤ℤ◌, ◌<ℤ◌, int_lt, unsigned_abs, refl, sym, ap, ◌∙◌, subst, List, [], ◌∷◌, length, arith}
use Rattle.std.proofs.lemmas.Int.{ints}
use Rattle.std.proofs.Math.Nat.{mod-eq_of_lt, zero-mod}
use Rattle.l2_bits.specs.Values.{residue}
use Rattle.l2_gates.specs.Gates.{Lit, Made}
use Rattle.l2_gates.specs.Models.{value, Ok}
use Rattle.l2_gates.proofs.Values.{value_F}
use Rattle.l2_circuits.specs.Words.{top, zeros, sub}
use Rattle.l2_circuits.specs.Products.{turned}
use Rattle.l2_circuit_laws.specs.Values.{values, number, power}
use Rattle.l2_circuit_laws.specs.Law.{picked}
use Rattle.l2_circuit_laws.specs.Shows.{Shows, Gains, IsSigned}
use Rattle.l2_circuit_laws.proofs.Products.{zeros_size, zeros_number}
use Rattle.l2_circuit_laws.proofs.Signed.{top_bit, turned_is, values_length}
use Rattle.l2_circuit_laws.proofs.Shown.{length_of_same, power_is, differences_show}
use Rattle.l2_circuit_laws.proofs.Choices.{choices_show}
use Rattle.l2_operator_laws.proofs.Cut.{doubled}
use Rattle.l2_operator_laws.proofs.Before.{choose_before}

-- ---- the top bit

pub top_value : (v : ℕ → Bool) → v 0 ≡ true → (a : List Lit) → value v (top a) ≡ top_bit (values v a)
top_value v truth [] = value_F v truth
top_value v truth (x ∷ []) = refl
top_value v truth (x ∷ y ∷ rest) = top_value v truth (y ∷ rest)

pub not_under : (j : ℕ) → int_lt (pos j) (pos 0) ≡ false
not_under j = grind (arith, ints)

sign_pos : (h N n j : ℕ) (t : Bool) → N ≡ 2 * h → pos j <ℤ pos h → n ≡ j % N → (t ≡ true → h ≤ n) → t ≡ false
sign_pos h N n j true e l f s = let q : j < h = omega (arith, ints) in let a : j % N ≡ j = mod-eq_of_lt (omega arith) in let c = s refl in absurd (omega arith)
sign_pos h N n j false e l f s = refl

sign_neg : (h N n j : ℕ) (t : Bool) → N ≡ 2 * h → neg_ℤ (pos h) ≤ℤ negsuc j → n ≡ N - 1 - j % N → (t ≡ false → n < h) → t ≡ true
sign_neg h N n j true e l f s = refl
sign_neg h N n j false e l f s = let q : j < h = omega (arith, ints) in let a : j % N ≡ j = mod-eq_of_lt (omega arith) in let c = s refl in absurd (omega arith)

sign_is : (h N n : ℕ) (t : Bool) (x : ℤ) → N ≡ 2 * h → neg_ℤ (pos h) ≤ℤ x → x <ℤ pos h → n ≡ residue N x → (t ≡ true → h ≤ n) → (t ≡ false → n < h) → t ≡ int_lt x (pos 0)
sign_is h N n t (pos j) e from to f up low = sign_pos h N n j t e to f up ∙ sym (not_under j)
sign_is h N n t (negsuc j) e from to f up low = sign_neg h N n j t e from f low

-- it says whether the number is negative
pub top_sign : (v : ℕ → Bool) → v 0 ≡ true → (n : ℕ) (a : List Lit) (x : ℤ) → 1 ≤ n → IsSigned n x → Shows v n a x → value v (top a) ≡ int_lt x (pos 0)
top_sign v truth n [] x some f s = absurd (let e = s.size in omega arith)
top_sign v truth zero (b ∷ a) x some f s = absurd (omega arith)
top_sign v truth (suc i) (b ∷ a) x some f s =
    let w = b ∷ a in
    let t = turned_is (value v b) (values v a) in
    let size : length a ≡ i = let e = s.size in omega arith in
    let half : power (values v a) ≡ 2 ^ i = power_is (values v a) ∙ ap (λ j. 2 ^ j) (values_length v a ∙ size) in
    let minus : suc i - 1 ≡ i = omega arith in
    let from = subst (λ j. neg_ℤ (pos (2 ^ j)) ≤ℤ x) minus f.from in
    let to = subst (λ j. x <ℤ pos (2 ^ j)) minus f.to in
    top_value v truth w
    ∙ sign_is (2 ^ i) (2 ^ suc i) (number (values v w)) (top_bit (values v w)) x (doubled i) from to s.number
    (λ e. subst (λ z. z ≤ number (values v w)) half (let d = t.down e in omega arith))
    (λ e. subst (λ z. number (values v w) < z) half (t.low e))

-- ---- negated words

pub zeros_show : (v : ℕ → Bool) → v 0 ≡ true → (n : ℕ) (a : List Lit) → length a ≡ n → Shows v n (zeros a) (pos 0)
zeros_show v truth n a e = record { size = length_of_same (zeros a) a (zeros_size a) ∙ e; number = zeros_number v truth a ∙ sym (zero-mod (2 ^ n)) }

pub turned_shows : (v : ℕ → Bool) → v 0 ≡ true → (n : ℕ) (c : Lit) (a : List Lit) (x : ℤ) (m : Made) → Shows v n a x → Ok v (turned c a m).made → Gains v m n (turned c a m).bits (picked (value v c) (pos 0 -ℤ x) x)
turned_shows v truth n c a x m s ok =
    let d = sub (zeros a) a m in
    let g = differences_show v truth n (zeros a) a (pos 0) x m (zeros_show v truth n a s.size) s (choose_before v truth c d.bits a d.made ok) in
    let h = choices_show v truth n c d.bits a (pos 0 -ℤ x) x d.made g.shows s ok in
    record { before = g.before; shows = h.shows }

-- the absolute value
pub absolute : (x : ℤ) → picked (int_lt x (pos 0)) (pos 0 -ℤ x) x ≡ pos (unsigned_abs x)
absolute (pos j) = ap (λ t. picked t (pos 0 -ℤ pos j) (pos j)) (not_under j)
absolute (negsuc j) = below j
  where
    below : (j : ℕ) → pos 0 -ℤ negsuc j ≡ pos (suc j)
    below j = omega (arith, ints)
