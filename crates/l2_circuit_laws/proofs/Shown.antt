-- Sums, differences and products of words that show numbers.
use Rattle.std.proofs.Common.{◌≡◌, ℕ, suc, ◌+◌, ◌-◌, ◌*◌, ◌%◌, ◌^◌, ◌<◌, Bool, true, ℤ, pos, ◌+ℤ◌, ◌-ℤ◌, ◌*ℤ◌, refl, sym, ap, ◌∙◌, subst, List, [], ◌∷◌, length, arith}
use Rattle.std.proofs.lemmas.Nat.{pow_pos}
use Rattle.std.proofs.Math.Nat.{mod-lt, mod-eq_of_lt, add-mul-mod_self_right}
use Rattle.l2_bits.specs.Values.{residue}
use Rattle.l2_bits.proofs.Congruences.{meet_trans, meet_add, meet_sub}
use Rattle.l2_bits.proofs.Wraps.{residue-lt, residue-meet}
use Rattle.l2_bits.proofs.Residues.{residue_only}
use Rattle.l2_bits.proofs.Products.{residues-meet}
use Rattle.l2_gates.specs.Gates.{Lit, T, F, Made}
use Rattle.l2_gates.specs.Models.{value, Ok}
use Rattle.l2_circuits.specs.declared.columns.Kind.TheVariants.{Add}
use Rattle.l2_circuits.specs.Words.{sum, sub, negated_word}
use Rattle.l2_circuits.specs.Products.{mul}
use Rattle.l2_circuit_laws.specs.Values.{values, bit_number, number, power, SameSize}
use Rattle.l2_circuit_laws.specs.Shows.{Shows, Gains, SumsShow, DifferencesShow, ProductsShow}
use Rattle.l2_circuit_laws.proofs.Columns.{columns_add}
use Rattle.l2_circuit_laws.proofs.Numbers.{same_sym, same_trans, same_power, values_size, negated_size, number_small, sum_number, sub_number}
use Rattle.l2_circuit_laws.proofs.Products.{columns_size, zero_F, product_is}

-- ---- sizes as lengths

pub same_of_length : {X Y : Type 0} (a : List X) (b : List Y) → length a ≡ length b → SameSize a b
same_of_length [] [] e = tt
same_of_length [] (y ∷ b) e = absurd (omega arith)
same_of_length (x ∷ a) [] e = absurd (omega arith)
same_of_length (x ∷ a) (y ∷ b) e = same_of_length a b (omega arith)

pub length_of_same : {X Y : Type 0} (a : List X) (b : List Y) → SameSize a b → length a ≡ length b
length_of_same [] [] h = refl
length_of_same [] (y ∷ b) h = absurd h
length_of_same (x ∷ a) [] h = absurd h
length_of_same (x ∷ a) (y ∷ b) h = ap suc (length_of_same a b h)

pub power_is : {X : Type 0} (a : List X) → power a ≡ 2 ^ length a
power_is [] = refl
power_is (x ∷ a) = let h = power_is a in grind arith

pub small_at : (v : ℕ → Bool) (a : List Lit) → number (values v a) < power a
small_at v a = subst (λ p. number (values v a) < p) (same_power (values v a) a (values_size v a)) (number_small (values v a))

-- ---- residues

pub only_rest : (n t p x : ℕ) → n + t * p ≡ x → n < p → n ≡ x % p
only_rest n t p x e h = sym (mod-eq_of_lt h) ∙ sym (add-mul-mod_self_right n t p) ∙ ap (λ z. z % p) e

pub residue_sum : (n : ℕ) (x y : ℤ) → 0 < n → residue n (x +ℤ y) ≡ (residue n x + residue n y) % n
residue_sum n x y some =
    residue_only n ((residue n x + residue n y) % n) (x +ℤ y) (mod-lt (residue n x + residue n y) some)
    (meet_trans n (pos ((residue n x + residue n y) % n)) (pos (residue n x + residue n y)) (x +ℤ y)
    (residue-meet n (pos (residue n x + residue n y)) some)
    (meet_add n (pos (residue n x)) (pos (residue n y)) x y (residue-meet n x some) (residue-meet n y some)))

pub residue_difference : (n : ℕ) (x y : ℤ) → 0 < n → residue n (x -ℤ y) ≡ (residue n x + (n - residue n y)) % n
residue_difference n x y some =
    residue_only n ((residue n x + (n - residue n y)) % n) (x -ℤ y) (mod-lt (residue n x + (n - residue n y)) some)
    (meet_trans n (pos ((residue n x + (n - residue n y)) % n)) (pos (residue n x + (n - residue n y))) (x -ℤ y)
    (residue-meet n (pos (residue n x + (n - residue n y))) some)
    (meet_sub n (residue n x) (residue n y) x y (residue-lt n y some) (residue-meet n x some) (residue-meet n y some)))

pub residue_product : (n : ℕ) (x y : ℤ) → 0 < n → residue n (x *ℤ y) ≡ (residue n x * residue n y) % n
residue_product n x y some = residue_only n ((residue n x * residue n y) % n) (x *ℤ y) (mod-lt (residue n x * residue n y) some) (residues-meet n x y some)

-- a difference by the complement
complement : (n b p c a : ℕ) → n + b + p * c ≡ a + p → b < p → n + c * p ≡ a + (p - b)
complement n b p c a e h = let k : p * c ≡ c * p = grind arith in omega arith

module _ (v : ℕ → Bool) (truth : v 0 ≡ true) (n : ℕ) where
  power_at : (a : List Lit) (x : ℤ) → Shows v n a x → power a ≡ 2 ^ n
  power_at a x s = power_is a ∙ ap (λ k. 2 ^ k) s.size

  same_at : (a b : List Lit) (x y : ℤ) → Shows v n a x → Shows v n b y → SameSize a b
  same_at a b x y s t = same_of_length a b (s.size ∙ sym t.size)

  sum_shows : (a b : List Lit) (x y : ℤ) (m : Made) → Shows v n a x → Shows v n b y → Ok v (sum a b F m).made → Gains v m n (sum a b F m).bits (x +ℤ y)
  sum_shows a b x y m s t ok =
      let h = same_at a b x y s t in
      let r = sum a b F m in
      let z = columns_size Add a b F m h in
      let e : number (values v r.bits) + power a * bit_number (value v r.carry) ≡ number (values v a) + number (values v b) + 0 =
      sum_number v truth a b F m h ok ∙ ap (λ k. number (values v a) + number (values v b) + k) (zero_F v truth) in
      let p = power_at a x s in
      let small : number (values v r.bits) < 2 ^ n = subst (λ q. number (values v r.bits) < q) (same_power r.bits a z ∙ p) (small_at v r.bits) in
      let f : number (values v r.bits) + bit_number (value v r.carry) * 2 ^ n ≡ residue (2 ^ n) x + residue (2 ^ n) y =
      let q = s.number in let u = t.number in subst (λ k. number (values v r.bits) + bit_number (value v r.carry) * k ≡ residue (2 ^ n) x + residue (2 ^ n) y) p (grind arith) in
      record {
        before = (columns_add v truth Add a b F m ok).before;
        shows = record {
          size = length_of_same r.bits a z ∙ s.size;
          number = only_rest (number (values v r.bits)) (bit_number (value v r.carry)) (2 ^ n) (residue (2 ^ n) x + residue (2 ^ n) y) f small ∙ sym (residue_sum (2 ^ n) x y (pow_pos n));
        };
      }

  sub_shows : (a b : List Lit) (x y : ℤ) (m : Made) → Shows v n a x → Shows v n b y → Ok v (sub a b m).made → Gains v m n (sub a b m).bits (x -ℤ y)
  sub_shows a b x y m s t ok =
      let h = same_at a b x y s t in
      let r = sub a b m in
      let hn = same_trans a b (negated_word b) h (same_sym (negated_word b) b (negated_size b)) in
      let z = columns_size Add a (negated_word b) T m hn in
      let e = sub_number v truth a b m h ok in
      let p = power_at a x s in
      let small : number (values v r.bits) < 2 ^ n = subst (λ q. number (values v r.bits) < q) (same_power r.bits a z ∙ p) (small_at v r.bits) in
      let under : number (values v b) < 2 ^ n = subst (λ q. number (values v b) < q) (power_at b y t) (small_at v b) in
      let f : number (values v r.bits) + number (values v b) + 2 ^ n * bit_number (value v r.carry) ≡ number (values v a) + 2 ^ n =
      subst (λ k. number (values v r.bits) + number (values v b) + k * bit_number (value v r.carry) ≡ number (values v a) + k) p e in
      let g = complement (number (values v r.bits)) (number (values v b)) (2 ^ n) (bit_number (value v r.carry)) (number (values v a)) f under in
      record {
        before = (columns_add v truth Add a (negated_word b) T m ok).before;
        shows = record {
          size = length_of_same r.bits a z ∙ s.size;
          number = only_rest (number (values v r.bits)) (bit_number (value v r.carry)) (2 ^ n) (number (values v a) + (2 ^ n - number (values v b))) g small
              ∙ (λ i. (s.number i + (2 ^ n - t.number i)) % 2 ^ n) ∙ sym (residue_difference (2 ^ n) x y (pow_pos n));
        };
      }

  mul_shows : (a b : List Lit) (x y : ℤ) (m : Made) → Shows v n a x → Shows v n b y → Ok v (mul a b m).made → Gains v m n (mul a b m).bits (x *ℤ y)
  mul_shows a b x y m s t ok =
      let r = product_is v truth a b m ok in
      let w = mul a b m in
      let p = power_at a x s in
      let small : number (values v w.bits) < 2 ^ n = subst (λ q. number (values v w.bits) < q) (same_power w.bits a r.size ∙ p) (small_at v w.bits) in
      let e : number (values v w.bits) + r.times * 2 ^ n ≡ number (values v a) * number (values v b) = subst (λ k. number (values v w.bits) + r.times * k ≡ number (values v a) * number (values v b)) p r.is in
      record {
        before = r.before;
        shows = record {
          size = length_of_same w.bits a r.size ∙ s.size;
          number = only_rest (number (values v w.bits)) r.times (2 ^ n) (number (values v a) * number (values v b)) e small
              ∙ (λ i. (s.number i * t.number i) % 2 ^ n) ∙ sym (residue_product (2 ^ n) x y (pow_pos n));
        };
      }

pub sums_show : SumsShow
sums_show = λ v truth n a b x y m s t ok. sum_shows v truth n a b x y m s t ok

pub differences_show : DifferencesShow
differences_show = λ v truth n a b x y m s t ok. sub_shows v truth n a b x y m s t ok

pub products_show : ProductsShow
products_show = λ v truth n a b x y m s t ok. mul_shows v truth n a b x y m s t ok
