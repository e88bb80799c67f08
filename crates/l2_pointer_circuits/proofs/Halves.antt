-- Halves of pointers as numbers.
use Rattle.std.proofs.Common.{◌≡◌, ℕ, ◌+◌, ◌*◌, ◌^◌, ◌<◌, Bool, true, pos, refl, sym, ap, ◌∙◌, subst, List, [], ◌∷◌, ◌++◌, length, take, drop, arith}
use Rattle.std.specs.Prelude.{nat_eq}
use Rattle.std.proofs.lemmas.List.{take-append-drop, length-take-le, length-drop}
use Rattle.std.proofs.Math.Seq.{take-append_seam, drop-append_seam}
use Rattle.std.proofs.Math.Nat.{mod-eq_of_lt}
use Rattle.l2_gates.specs.Gates.{Lit, Made}
use Rattle.l2_gates.specs.Models.{value, Gives}
use Rattle.l2_circuit_laws.specs.Values.{values, bit_number, number, power}
use Rattle.l2_circuit_laws.specs.Shows.{Shows}
use Rattle.l2_circuit_laws.proofs.Numbers.{equal_gives}
use Rattle.l2_circuit_laws.proofs.Shown.{same_of_length, power_is, small_at}
use Rattle.l2_circuit_laws.proofs.Constants.{constants_show}
use Rattle.l2_pointer_circuits.specs.Words.{selector, offset, half, is_half}

-- ---- lists

pub values_append : (v : ℕ → Bool) (a b : List Lit) → values v (a ++ b) ≡ values v a ++ values v b
values_append v [] b = refl
values_append v (x ∷ a) b = ap (λ xs. value v x ∷ xs) (values_append v a b)

more_bits : (x n m p t : ℕ) → n ≡ m + p * t → x + 2 * n ≡ x + 2 * m + 2 * p * t
more_bits x n m p t e = grind arith

pub number_append : (a b : List Bool) → number (a ++ b) ≡ number a + power a * number b
number_append [] b = omega arith
number_append (x ∷ a) b = more_bits (bit_number x) (number (a ++ b)) (number a) (power a) (number b) (number_append a b)

pub selector_length : (a : List Lit) → length a ≡ 34 → length (selector a) ≡ 17
selector_length a e = length-take-le 17 a (omega arith)

pub offset_length : (a : List Lit) → length a ≡ 34 → length (offset a) ≡ 17
offset_length a e = length-drop 17 a ∙ omega arith

pub selector_of_halves : (s f : List Lit) → length s ≡ 17 → selector (s ++ f) ≡ s
selector_of_halves s f e = ap (λ n. take n (s ++ f)) (sym e) ∙ take-append_seam s f

pub offset_of_halves : (s f : List Lit) → length s ≡ 17 → offset (s ++ f) ≡ f
offset_of_halves s f e = ap (λ n. drop n (s ++ f)) (sym e) ∙ drop-append_seam s f

pub halves_of : (a : List Lit) → selector a ++ offset a ≡ a
halves_of a = take-append-drop 17 a

-- ---- numbers

pub under_half : (v : ℕ → Bool) (a : List Lit) → length a ≡ 17 → number (values v a) < 131072
under_half v a e = subst (λ p. number (values v a) < p) (power_is a ∙ ap (λ n. 2 ^ n) e) (small_at v a)

pub half_shown : (v : ℕ → Bool) (a : List Lit) (k : ℕ) → k < 131072 → Shows v 17 a (pos k) → number (values v a) ≡ k
half_shown v a k h s = s.number ∙ mod-eq_of_lt h

-- a half shows its number
pub half_shows : (v : ℕ → Bool) (a : List Lit) → length a ≡ 17 → Shows v 17 a (pos (number (values v a)))
half_shows v a e = record { size = e; number = sym (mod-eq_of_lt (under_half v a e)) }

module _ (v : ℕ → Bool) (truth : v 0 ≡ true) where
  pub half_length : (k : ℕ) → length (half k) ≡ 17
  unfolding half
  half_length k = (constants_show v truth 17 (pos k)).size

  pub half_number : (k : ℕ) → k < 131072 → number (values v (half k)) ≡ k
  unfolding half
  half_number k h = half_shown v (half k) k h (constants_show v truth 17 (pos k))

  pub half_gives : (k : ℕ) (a : List Lit) (m : Made) → k < 131072 → length a ≡ 17 → Gives v m (nat_eq (number (values v a)) k) (is_half k a m)
  half_gives k a m h e = λ ok.
      let r = equal_gives v truth a (half k) m (same_of_length a (half k) (e ∙ sym (half_length k))) ok in
      record { before = r.before; is = r.is ∙ ap (nat_eq (number (values v a))) (half_number k h) }
