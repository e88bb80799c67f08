-- Quotients of words without signs, as numbers.
use Rattle.std.proofs.Common.{◌≡◌, ℕ, zero, suc, ◌+◌, ◌*◌, ◌≤◌, ◌<◌, Bool, true, false, refl, sym, ap, ◌∙◌, subst, List, [], ◌∷◌, length, arith}
use Rattle.l2_gates.specs.Gates.{Lit, T, F, Made}
use Rattle.l2_gates.specs.Models.{value, Ok}
use Rattle.l2_circuits.specs.declared.columns.Kind.TheVariants.{Choose, Add}
use Rattle.l2_circuits.specs.Words.{resized, choose, sub, negated_word}
use Rattle.l2_circuits.specs.Products.{behind, Divided, divide_bit, divide_by, divide}
use Rattle.l2_circuit_laws.specs.Values.{values, bit_number, number, power, SameSize}
use Rattle.l2_circuit_laws.specs.Law.{picked, Divides, QuotientsAre}
use Rattle.l2_circuit_laws.proofs.Columns.{columns_add}
use Rattle.l2_circuit_laws.proofs.Numbers.{same_sym, same_trans, same_power, values_size, negated_size, number_small, sub_number}
use Rattle.l2_circuit_laws.proofs.Products.{columns_size, behind_size, zeros_size, choose_gives, behind_is, zero_F, zeros_number}

bit_small : (b : Bool) → bit_number b ≤ 1
bit_small true = omega arith
bit_small false = omega arith

small_word : (v : ℕ → Bool) (a : List Lit) → number (values v a) < power a
small_word v a = subst (λ p. number (values v a) < p) (same_power (values v a) a (values_size v a)) (number_small (values v a))

-- ---- numbers

no_room : (t p n x : ℕ) → n + t * p ≡ x → x < p → t ≡ 0
no_room zero p n x e h = refl
no_room (suc t) p n x e h = absurd (let k : n + (p + t * p) ≡ x = grind arith in omega (arith, k, h))

shifted : (t p n x : ℕ) → n + t * p ≡ x → t ≡ 0 → n ≡ x
shifted t p n x e z = let k : n + 0 * p ≡ x = subst (λ z. n + z * p ≡ x) z e in omega (arith, k)

one_more : (q b r n a x : ℕ) → q * b + r ≡ n → x + b ≡ a + 2 * r → (1 + 2 * q) * b + x ≡ a + 2 * n
one_more q b r n a x e f = grind arith

none_more : (q b r n a x : ℕ) → q * b + r ≡ n → x ≡ a + 2 * r → (0 + 2 * q) * b + x ≡ a + 2 * n
none_more q b r n a x e f = grind arith

-- the difference where there is a carry, and where there is none
with_carry : (ns nb p c nr : ℕ) → c ≡ 1 → ns + nb + p * c ≡ nr + p → ns + nb ≡ nr
with_carry ns nb p c nr e f = let k : ns + nb + p * 1 ≡ nr + p = subst (λ z. ns + nb + p * z ≡ nr + p) e f in omega (arith, k)

without_carry : (ns nb p c nr : ℕ) → c ≡ 0 → ns + nb + p * c ≡ nr + p → ns < p → nr < nb
without_carry ns nb p c nr e f h = let k : ns + nb + p * 0 ≡ nr + p = subst (λ z. ns + nb + p * z ≡ nr + p) e f in omega (arith, k, h)

module _ (v : ℕ → Bool) (truth : v 0 ≡ true) where
  -- what is divided so far, where the divisor isn't 0 and its double has room
  record Right (n : ℕ) (b : List Lit) (d : Divided) (m : Made) : Type 0 where
    before : Ok v m
    size : SameSize d.rest b
    is : number (values v d.quotient) * number (values v b) + number (values v d.rest) ≡ n
    small : number (values v d.rest) < number (values v b)

  -- the rest is what the difference and its carry say
  by_carry : (na q nb r n x ns nr p : ℕ) (t : Bool) → q * nb + r ≡ n → r < nb → nr ≡ na + 2 * r → na ≤ 1
      → ns + nb + p * bit_number t ≡ nr + p → ns < p → x ≡ picked t ns nr
      → ((bit_number t + 2 * q) * nb + x ≡ na + 2 * n) × (x < nb)
  by_carry na q nb r n x ns nr p true e l f s g h i =
      let k = with_carry ns nb p 1 nr refl g in
      (one_more q nb r n na x e (ap (λ z. z + nb) i ∙ k ∙ f), omega arith)
  by_carry na q nb r n x ns nr p false e l f s g h i =
      let k = without_carry ns nb p 0 nr refl g h in
      (none_more q nb r n na x e (i ∙ f), omega arith)

  picked_number : (t : Bool) (a b : List Bool) → number (picked t a b) ≡ picked t (number a) (number b)
  picked_number true a b = refl
  picked_number false a b = refl

  bit_gives : (a : Lit) (b : List Lit) (d : Divided) (n : ℕ) (m : Made) → 2 * number (values v b) ≤ power b → SameSize d.rest b → (Ok v d.made → Right n b d m)
      → Ok v (divide_bit a b d).made → Right (bit_number (value v a) + 2 * n) b (divide_bit a b d) m
  bit_gives a b d n m room hd h ok =
      let r = behind a d.rest in
      let s = sub r b d.made in
      let hr = same_trans r d.rest b (behind_size a d.rest) hd in
      let hs = columns_size Add r (negated_word b) T d.made (same_trans r b (negated_word b) hr (same_sym (negated_word b) b (negated_size b))) in
      let q = choose_gives v truth s.carry s.bits r s.made hs ok in
      let g = columns_add v truth Add r (negated_word b) T d.made q.before in
      let sn = sub_number v truth r b d.made hr q.before in
      let p = h g.before in
      let t = behind_is v truth a d.rest in
      let sm = p.small in
      let ba = bit_small (value v a) in
      let fits : bit_number (value v a) + 2 * number (values v d.rest) < power d.rest = subst (λ z. bit_number (value v a) + 2 * number (values v d.rest) < z) (sym (same_power d.rest b hd)) (omega (arith, sm, ba, room)) in
      let z = no_room t.0 (power d.rest) (number (values v r)) (bit_number (value v a) + 2 * number (values v d.rest)) t.1 fits in
      let nr = shifted t.0 (power d.rest) (number (values v r)) (bit_number (value v a) + 2 * number (values v d.rest)) t.1 z in
      let sb : number (values v s.bits) < power r = subst (λ z. number (values v s.bits) < z) (same_power s.bits r hs) (small_word v s.bits) in
      let c = choose s.carry s.bits r s.made in
      let x : number (values v c.bits) ≡ picked (value v s.carry) (number (values v s.bits)) (number (values v r)) = ap number q.is ∙ picked_number (value v s.carry) (values v s.bits) (values v r) in
      let w = by_carry (bit_number (value v a)) (number (values v d.quotient)) (number (values v b)) (number (values v d.rest)) n (number (values v c.bits)) (number (values v s.bits)) (number (values v r)) (power r) (value v s.carry) p.is sm nr ba sn sb x in
      record {
        before = p.before;
        size = same_trans c.bits r b (same_trans c.bits s.bits r (columns_size Choose s.bits r s.carry s.made hs) hs) hr;
        is = w.0;
        small = w.1;
      }

divide_size : (a b : List Lit) (m : Made) → SameSize (divide_by a b m).rest b
divide_size [] b m = zeros_size b
divide_size (x ∷ a) b m =
    let d = divide_by a b m in
    let r = behind x d.rest in
    let hr = same_trans r d.rest b (behind_size x d.rest) (divide_size a b m) in
    let s = sub r b d.made in
    let hs = columns_size Add r (negated_word b) T d.made (same_trans r b (negated_word b) hr (same_sym (negated_word b) b (negated_size b))) in
    let c = choose s.carry s.bits r s.made in
    same_trans c.bits r b (same_trans c.bits s.bits r (columns_size Choose s.bits r s.carry s.made hs) hs) hr

quotient_size : (a b : List Lit) (m : Made) → SameSize (divide_by a b m).quotient a
quotient_size [] b m = tt
quotient_size (x ∷ a) b m = quotient_size a b m

-- ---- words that are made longer and shorter

suc_size : (a : List Lit) (x z : Lit) → SameSize (resized (suc (length a)) x a) (z ∷ a)
suc_size [] x z = tt
suc_size (y ∷ a) x z = suc_size a x y

resized_size : (a b : List Lit) (x : Lit) → SameSize (resized (length a) x b) a
resized_size [] b x = tt
resized_size (y ∷ a) [] x = resized_size a [] x
resized_size (y ∷ a) (z ∷ b) x = resized_size a b x

module _ (v : ℕ → Bool) (truth : v 0 ≡ true) where
  filled : (a : List Lit) → number (values v (resized (length a) F [])) ≡ 0
  filled [] = refl
  filled (x ∷ a) = let f = zero_F v truth in let h = filled a in omega arith

  widened : (a : List Lit) → number (values v (resized (suc (length a)) F a)) ≡ number (values v a)
  widened [] = let f = zero_F v truth in omega arith
  widened (x ∷ a) = let h = widened a in omega arith

  -- a word whose number fits is cut to its number
  cut : (a b : List Lit) → number (values v b) < power a → number (values v (resized (length a) F b)) ≡ number (values v b)
  cut [] [] h = refl
  cut [] (y ∷ b) h = omega arith
  cut (x ∷ a) [] h = filled (x ∷ a)
  cut (x ∷ a) (y ∷ b) h = let r = cut a b (omega arith) in omega arith

  by_gives : (a b : List Lit) (m : Made) → 2 * number (values v b) ≤ power b → 0 < number (values v b) → Ok v (divide_by a b m).made → Right v truth (number (values v a)) b (divide_by a b m) m
  by_gives [] b m room some ok =
      record { before = ok; size = zeros_size b; is = let z = zeros_number v truth b in omega (arith, z); small = let z = zeros_number v truth b in omega (arith, z, some) }
  by_gives (x ∷ a) b m room some ok = bit_gives v truth x b (divide_by a b m) (number (values v a)) m room (divide_size a b m) (λ ok. by_gives a b m room some ok) ok

  quotient_is : (a b : List Lit) (m : Made) → SameSize a b → 0 < number (values v b) → Ok v (divide a b m).made → Divides v m (divide a b m) a b
  quotient_is a b m h some ok =
      let wide = resized (suc (length b)) F b in
      let w = widened b in
      let room : 2 * number (values v wide) ≤ power wide = let p = same_power wide (F ∷ b) (suc_size b F F) in let n = small_word v b in omega (arith, w, p, n) in
      let r = by_gives a wide m room (omega (arith, w, some)) ok in
      let d = divide_by a wide m in
      let sm = r.small in
      let fits : number (values v d.rest) < power a = let p = same_power a b h in let n = small_word v b in omega (arith, w, p, n, sm) in
      let k = cut a d.rest fits in
      record {
        before = r.before;
        quotient_size = quotient_size a wide m;
        rest_size = resized_size a d.rest F;
        is = ap (λ z. number (values v d.quotient) * number (values v b) + z) k ∙ ap (λ z. number (values v d.quotient) * z + number (values v d.rest)) (sym w) ∙ r.is;
        small = omega (arith, k, w, sm);
      }

pub quotients_are : QuotientsAre
quotients_are = λ v truth a b m h some ok. quotient_is v truth a b m h some ok
