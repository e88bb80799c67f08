-- Words that are made shorter or longer.
use Rattle.std.proofs.Common.{◌≡◌, ℕ, zero, suc, ◌+◌, ◌-◌, ◌*◌, ◌%◌, ◌^◌, ◌≤◌, ◌<◌, Bool, ℤ, pos, ◌+ℤ◌, refl, sym, ap, ◌∙◌, subst, List, [], ◌∷◌, length, ⊎_elim, arith}
use Rattle.std.proofs.lemmas.Bool.{cases_lt}
use Rattle.std.proofs.lemmas.Nat.{pow_pos, pow-add}
use Rattle.std.proofs.Math.Nat.{mod-lt}
use Rattle.l2_bits.specs.Values.{residue}
use Rattle.l2_bits.proofs.Congruences.{Meet, meet_trans}
use Rattle.l2_bits.proofs.Wraps.{residue-meet}
use Rattle.l2_bits.proofs.Residues.{residue_only}
use Rattle.l2_gates.specs.Gates.{Lit}
use Rattle.l2_gates.specs.Models.{value}
use Rattle.l2_circuits.specs.Words.{resized, filling, extended}
use Rattle.l2_circuit_laws.specs.Values.{values, bit_number, number}
use Rattle.l2_circuit_laws.specs.Shows.{Shows}
use Rattle.l2_circuit_laws.proofs.Shown.{power_is, small_at, only_rest}
use Rattle.l2_circuit_laws.proofs.Constants.{extensions_show}
use Rattle.l2_operator_laws.specs.Law.{ResizedShow}

pub resized_length : (k : ℕ) (fill : Lit) (a : List Lit) → length (resized k fill a) ≡ k
resized_length zero fill a = refl
resized_length (suc k) fill [] = ap suc (resized_length k fill [])
resized_length (suc k) fill (x ∷ a) = ap suc (resized_length k fill a)

pub doubled : (k : ℕ) → 2 ^ suc k ≡ 2 * 2 ^ k
doubled k = grind arith

pub no_times : (n : ℕ) → n * 2 ^ 0 ≡ n
no_times n = grind arith

pub none_times : (n : ℕ) → 0 + n * 2 ^ 0 ≡ n
none_times n = grind arith

cut_more : (x n t p q m : ℕ) → q ≡ 2 * p → n + t * p ≡ m → x + 2 * n + t * q ≡ x + 2 * m
cut_more x n t p q m e f = let g : t * q ≡ 2 * (t * p) = ap (λ z. t * z) e ∙ grind arith in omega arith

-- a shorter word, but for multiples
pub cut_is : (v : ℕ → Bool) (k : ℕ) (fill : Lit) (a : List Lit) → k ≤ length a → (t : ℕ) × (number (values v (resized k fill a)) + t * 2 ^ k ≡ number (values v a))
cut_is v zero fill a h = (number (values v a), none_times (number (values v a)))
cut_is v (suc k) fill [] h = absurd (omega arith)
cut_is v (suc k) fill (x ∷ a) h =
    let r = cut_is v k fill a (omega arith) in
    (r.0, cut_more (bit_number (value v x)) (number (values v (resized k fill a))) r.0 (2 ^ k) (2 ^ suc k) (number (values v a)) (doubled k) r.1)

pub small_of : (v : ℕ → Bool) (n : ℕ) (a : List Lit) → length a ≡ n → number (values v a) < 2 ^ n
small_of v n a e = subst (λ p. number (values v a) < p) (power_is a ∙ ap (λ k. 2 ^ k) e) (small_at v a)

pub cut_number : (v : ℕ → Bool) (k : ℕ) (fill : Lit) (a : List Lit) → k ≤ length a → number (values v (resized k fill a)) ≡ number (values v a) % 2 ^ k
cut_number v k fill a h =
    let r = cut_is v k fill a h in
    only_rest (number (values v (resized k fill a))) r.0 (2 ^ k) (number (values v a)) r.1 (small_of v k (resized k fill a) (resized_length k fill a))

-- ---- residues by a divisor

fewer : (K M : ℕ) (u x : ℤ) → Meet (M * K) u x → Meet K u x
fewer K M u x m = record {
  up_by = m.up_by * M;
  down_by = m.down_by * M;
  same = subst (λ z. u +ℤ pos z ≡ x +ℤ pos (m.down_by * M * K)) (times m.up_by) (subst (λ z. u +ℤ pos (m.up_by * (M * K)) ≡ x +ℤ pos z) (times m.down_by) m.same);
}
  where
    times : (j : ℕ) → j * (M * K) ≡ j * M * K
    times j = grind arith

pub residue_divisor : (K M : ℕ) (x : ℤ) → 0 < K → 0 < M * K → residue K x ≡ residue (M * K) x % K
residue_divisor K M x some all =
    let r = residue (M * K) x in
    residue_only K (r % K) x (mod-lt r some) (meet_trans K (pos (r % K)) (pos r) x (residue-meet K (pos r) some) (fewer K M (pos r) x (residue-meet (M * K) x all)))

split : (n k : ℕ) → k ≤ n → 2 ^ (n - k) * 2 ^ k ≡ 2 ^ n
split n k h = let e : n - k + k ≡ n = omega arith in sym (pow-add 2 (n - k) k) ∙ ap (λ j. 2 ^ j) e

pub residue_power : (n k : ℕ) (x : ℤ) → k ≤ n → residue (2 ^ k) x ≡ residue (2 ^ n) x % 2 ^ k
residue_power n k x h =
    let p = split n k h in
    residue_divisor (2 ^ k) (2 ^ (n - k)) x (pow_pos k) (subst (λ z. 0 < z) (sym p) (pow_pos n)) ∙ ap (λ z. residue z x % 2 ^ k) p

-- a shorter word shows the number too
pub cut_shows : (v : ℕ → Bool) (n k : ℕ) (fill : Lit) (a : List Lit) (x : ℤ) → k ≤ n → Shows v n a x → Shows v k (resized k fill a) x
cut_shows v n k fill a x h s = record {
  size = resized_length k fill a;
  number = cut_number v k fill a (let e = s.size in omega arith) ∙ ap (λ z. z % 2 ^ k) s.number ∙ sym (residue_power n k x h);
}

pub resized_show : ResizedShow
resized_show v truth signed n k a x s = ⊎_elim shorter longer (cases_lt k n)
  where
    shorter : k < n → Shows v k (extended k signed a) x
    shorter l = cut_shows v n k (filling signed a) a x (omega arith) s.shows

    longer : n ≤ k → Shows v k (extended k signed a) x
    longer l = extensions_show v truth signed n k a x s.some l s.fits s.shows
