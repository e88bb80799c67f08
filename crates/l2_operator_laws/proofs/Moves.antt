-- Words that are moved up or down, once and stage by stage.
use Rattle.std.proofs.Common.{◌≡◌, ℕ, zero, suc, ◌+◌, ◌-◌, ◌*◌, ◌/◌, ◌%◌, ◌^◌, ◌≤◌, ◌<◌, Bool, true, false, ℤ, pos, negsuc, neg_ℤ, ◌*ℤ◌, ◌≤ℤ◌, ◌<ℤ◌, int_lt, refl, sym, ap, ◌∙◌, subst, List, [], ◌∷◌, ◌++◌, length, drop, replicate, arith}
use Rattle.std.specs.Prelude.{nat_lt, if◌then◌else◌}
use lib.IntN.{pos-*ℤ-pos, negsuc-*ℤ-pos, *ℤ-one}
use Rattle.std.proofs.lemmas.Int.{ints}
use Rattle.std.proofs.lemmas.Bool.{ltb-true, ltb-false}
use Rattle.std.proofs.lemmas.Nat.{pow_pos, pow-add, div-mul-add}
use Rattle.std.proofs.Math.Nat.{mod-lt, mod-eq_of_lt, div-le_self, div-div-eq-div-mul, div-one}
use Rattle.l2_bits.specs.Values.{residue}
use Rattle.l2_bits.specs.Operators.{floor_div}
use Rattle.l2_bits.proofs.Congruences.{Meet, meet_trans, meet_times}
use Rattle.l2_bits.proofs.Wraps.{residue-meet}
use Rattle.l2_bits.proofs.Residues.{residue_only}
use Rattle.l2_gates.specs.Gates.{Lit, Pos, Neg, F, Made, literal_of, number_of}
use Rattle.l2_gates.specs.Models.{value, Ok}
use Rattle.l2_gates.proofs.Values.{value_F}
use Rattle.l2_circuits.specs.declared.shifts.Direction.{Direction}
use Rattle.l2_circuits.specs.declared.shifts.Direction.TheVariants.{Up, Down}
use Rattle.l2_circuits.specs.Words.{known_word, top, resized, filling, choose}
use Rattle.l2_circuits.specs.Shifts.{up, down, moved, shift_from, shift_left, shift_right}
use Rattle.l2_circuit_laws.specs.Values.{values, bit_number, number, power}
use Rattle.l2_circuit_laws.specs.Law.{picked}
use Rattle.l2_circuit_laws.specs.Shows.{Shows}
use Rattle.l2_circuit_laws.proofs.Shown.{power_is, only_rest}
use Rattle.l2_circuit_laws.proofs.Choices.{choices_show}
use Rattle.l2_operator_laws.specs.Words.{Tells}
use Rattle.l2_operator_laws.specs.Law.{LeftShiftsShow, RightShiftsShow}
use Rattle.l2_operator_laws.proofs.Signs.{top_sign, not_under}
use Rattle.l2_operator_laws.proofs.Cut.{resized_length, doubled, no_times, none_times, small_of, cut_is}
use Rattle.l2_operator_laws.proofs.Before.{shift_before}

-- ---- up

falses_length : (k : ℕ) (a : List Lit) → length (replicate k F ++ a) ≡ k + length a
falses_length zero a = omega arith
falses_length (suc k) a = let h = falses_length k a in omega arith

falses_more : (f n m p q : ℕ) → f ≡ 0 → q ≡ 2 * p → n ≡ m * p → f + 2 * n ≡ m * q
falses_more f n m p q e g h = let k : m * q ≡ 2 * (m * p) = ap (λ z. m * z) g ∙ grind arith in omega arith

times_one : (n : ℕ) → n ≡ n * 2 ^ 0
times_one n = sym (no_times n)

falses_number : (v : ℕ → Bool) → v 0 ≡ true → (k : ℕ) (a : List Lit) → number (values v (replicate k F ++ a)) ≡ number (values v a) * 2 ^ k
falses_number v truth zero a = times_one (number (values v a))
falses_number v truth (suc k) a =
    falses_more (bit_number (value v F)) (number (values v (replicate k F ++ a))) (number (values v a)) (2 ^ k) (2 ^ suc k) (ap bit_number (value_F v truth)) (doubled k) (falses_number v truth k a)

residue_times : (N c : ℕ) (x : ℤ) → 0 < N → residue N (x *ℤ pos c) ≡ (residue N x * c) % N
residue_times N c x some =
    let r = residue N x in
    residue_only N ((r * c) % N) (x *ℤ pos c) (mod-lt (r * c) some)
    (meet_trans N (pos ((r * c) % N)) (pos (r * c)) (x *ℤ pos c) (residue-meet N (pos (r * c)) some)
    (subst (λ z. Meet N z (x *ℤ pos c)) (product r c) (meet_times N (pos r) x (pos c) (residue-meet N x some))))
  where
    product : (a b : ℕ) → pos a *ℤ pos b ≡ pos (a * b)
    product a b = omega (arith, ints)

up_shows : (v : ℕ → Bool) → v 0 ≡ true → (n k : ℕ) (a : List Lit) (x : ℤ) → Shows v n a x → Shows v n (up k a) (x *ℤ pos (2 ^ k))
up_shows v truth n k a x s =
    let long = replicate k F ++ a in
    let r = cut_is v (length a) F long (let e = falses_length k a in omega arith) in
    let size : length (up k a) ≡ n = resized_length (length a) F long ∙ s.size in
    let e : number (values v (up k a)) + r.0 * 2 ^ n ≡ number (values v a) * 2 ^ k = subst (λ j. number (values v (up k a)) + r.0 * 2 ^ j ≡ number (values v a) * 2 ^ k) s.size (r.1 ∙ falses_number v truth k a) in
    record {
      size = size;
      number = only_rest (number (values v (up k a))) r.0 (2 ^ n) (number (values v a) * 2 ^ k) e (small_of v n (up k a) size)
          ∙ ap (λ z. (z * 2 ^ k) % 2 ^ n) s.number ∙ sym (residue_times (2 ^ n) (2 ^ k) x (pow_pos n));
    }

-- ---- down

-- what is dropped, and what is left
record Dropped (v : ℕ → Bool) (k : ℕ) (a : List Lit) : Type 0 where
  low : ℕ
  small : low < 2 ^ k
  is : low + number (values v (drop k a)) * 2 ^ k ≡ number (values v a)

bit_small : (b : Bool) → bit_number b ≤ 1
bit_small true = omega arith
bit_small false = omega arith

drop_more : (x s n m p q : ℕ) → q ≡ 2 * p → s + n * p ≡ m → x + 2 * s + n * q ≡ x + 2 * m
drop_more x s n m p q e f = let g : n * q ≡ 2 * (n * p) = ap (λ z. n * z) e ∙ grind arith in omega arith

no_part : (q : ℕ) → 0 + 0 * q ≡ 0
no_part q = grind arith

dropped : (v : ℕ → Bool) (k : ℕ) (a : List Lit) → Dropped v k a
dropped v zero a = record { low = 0; small = pow_pos 0; is = none_times (number (values v a)) }
dropped v (suc k) [] = record { low = 0; small = pow_pos (suc k); is = no_part (2 ^ suc k) }
dropped v (suc k) (x ∷ a) =
    let r = dropped v k a in
    let b = bit_small (value v x) in
    let d = doubled k in
    let l = r.small in
    record {
      low = bit_number (value v x) + 2 * r.low;
      small = omega arith;
      is = drop_more (bit_number (value v x)) r.low (number (values v (drop k a))) (number (values v a)) (2 ^ k) (2 ^ suc k) d r.is;
    }

drop_power : (k : ℕ) (a : List Lit) → k ≤ length a → power (drop k a) * 2 ^ k ≡ power a
drop_power zero a h = no_times (power a)
drop_power (suc k) [] h = absurd (omega arith)
drop_power (suc k) (x ∷ a) h = halved (power (drop k a)) (2 ^ k) (2 ^ suc k) (power a) (doubled k) (drop_power k a (omega arith))
  where
    halved : (n p q m : ℕ) → q ≡ 2 * p → n * p ≡ m → n * q ≡ 2 * m
    halved n p q m e f = ap (λ z. n * z) e ∙ (let g : n * (2 * p) ≡ 2 * (n * p) = grind arith in omega arith)

drop_length : (k : ℕ) (a : List Lit) → length (drop k a) ≤ length a
drop_length zero a = omega arith
drop_length (suc k) [] = omega arith
drop_length (suc k) (x ∷ a) = let h = drop_length k a in omega arith

-- a longer word has the literal in all further places
longer_more : (x f n m p P Q : ℕ) → Q ≡ 2 * P → n + f * p ≡ m + f * P → x + 2 * n + f * (2 * p) ≡ x + 2 * m + f * Q
longer_more x f n m p P Q e r = let q : f * Q ≡ 2 * (f * P) = ap (λ z. f * z) e ∙ grind arith in let s : f * (2 * p) ≡ 2 * (f * p) = grind arith in omega arith

filled_more : (f n P Q : ℕ) → Q ≡ 2 * P → n + f * 1 ≡ 0 + f * P → f + 2 * n + f * 1 ≡ 0 + f * Q
filled_more f n P Q e r = let q : f * Q ≡ 2 * (f * P) = ap (λ z. f * z) e ∙ grind arith in omega arith

longer_number : (v : ℕ → Bool) (k : ℕ) (fill : Lit) (a : List Lit) → length a ≤ k
    → number (values v (resized k fill a)) + bit_number (value v fill) * power a ≡ number (values v a) + bit_number (value v fill) * 2 ^ k
longer_number v zero fill [] h = refl
longer_number v zero fill (x ∷ a) h = absurd (omega arith)
longer_number v (suc k) fill [] h =
    filled_more (bit_number (value v fill)) (number (values v (resized k fill []))) (2 ^ k) (2 ^ suc k) (doubled k) (longer_number v k fill [] (omega arith))
longer_number v (suc k) fill (x ∷ a) h =
    longer_more (bit_number (value v x)) (bit_number (value v fill)) (number (values v (resized k fill a))) (number (values v a)) (power a) (2 ^ k) (2 ^ suc k) (doubled k) (longer_number v k fill a (omega arith))

-- a number for which n bits have room, and its sign
abbrev pub Sided : Bool → ℕ → ℤ → Type 0
Sided f N (pos j) = (f ≡ false) × (j < N)
Sided f N (negsuc j) = (f ≡ true) × (j < N)

sided_down : (f : Bool) (N k : ℕ) (x : ℤ) → Sided f N x → Sided f N (floor_div x (2 ^ k))
sided_down f N k (pos j) (e, h) = (e, let l = div-le_self j (2 ^ k) in omega arith)
sided_down f N k (negsuc j) (e, h) = (e, let l = div-le_self j (2 ^ k) in omega arith)

quotient_is : (j q K s : ℕ) → s + q * K ≡ j → s < K → j / K ≡ q
quotient_is j q K s e l = let f : q * K + s ≡ j = omega arith in ap (λ z. z / K) (sym f) ∙ div-mul-add q K s l

-- the number of a word that is moved down, of a number that isn't negative, and of one that is
down_pos : (R d p K N s j : ℕ) → j < N → s < K → s + d * K ≡ j % N → R + 0 * p ≡ d + 0 * N → R ≡ (j / K) % N
down_pos R d p K N s j h l e f =
    let g : j % N ≡ j = mod-eq_of_lt h in
    let q = quotient_is j d K s (e ∙ g) l in
    let m = div-le_self j K in
    let r : (j / K) % N ≡ j / K = mod-eq_of_lt (omega arith) in
    omega arith

down_neg : (R d p K N s j : ℕ) → j < N → s < K → p * K ≡ N → d < p → s + d * K ≡ N - 1 - j % N → R + 1 * p ≡ d + 1 * N → R ≡ N - 1 - (j / K) % N
down_neg R d p K N s j h l w less e f =
    let g : j % N ≡ j = mod-eq_of_lt h in
    let t : p * K ≡ (p - d - 1) * K + d * K + K = (let u : p ≡ p - d - 1 + d + 1 = omega arith in ap (λ z. z * K) u ∙ spread (p - d - 1) d K) in
    let i : K - 1 - s + (p - d - 1) * K ≡ j = omega arith in
    let q = quotient_is j (p - d - 1) K (K - 1 - s) i (omega arith) in
    let m = div-le_self j K in
    let r : (j / K) % N ≡ j / K = mod-eq_of_lt (omega arith) in
    let b : p ≤ p * K = at_least p K (omega arith) in
    omega arith
  where
    spread : (a d K : ℕ) → (a + d + 1) * K ≡ a * K + d * K + K
    spread a d K = grind arith

    at_least : (p K : ℕ) → 0 < K → p ≤ p * K
    at_least p zero h = absurd (omega arith)
    at_least p (suc K) h = let e : p * suc K ≡ p + p * K = grind arith in omega arith

down_number : (f : Bool) (R d p K N s r : ℕ) (x : ℤ) → Sided f N x → s < K → p * K ≡ N → d < p → s + d * K ≡ r → r ≡ residue N x → R + bit_number f * p ≡ d + bit_number f * N → R ≡ residue N (floor_div x K)
down_number true R d p K N s r (pos j) (e, h) l w less g i t = absurd (cc)
down_number false R d p K N s r (pos j) (e, h) l w less g i t = down_pos R d p K N s j h l (g ∙ i) t
down_number true R d p K N s r (negsuc j) (e, h) l w less g i t = down_neg R d p K N s j h l w less (g ∙ i) t
down_number false R d p K N s r (negsuc j) (e, h) l w less g i t = absurd (cc)

down_shows : (v : ℕ → Bool) (n k : ℕ) (fill : Lit) (a : List Lit) (x : ℤ) → k ≤ n → Sided (value v fill) (2 ^ n) x → Shows v n a x → Shows v n (down fill k a) (floor_div x (2 ^ k))
down_shows v n k fill a x h side s =
    let rest = drop k a in
    let w = down fill k a in
    let size : length w ≡ n = resized_length (length a) fill rest ∙ s.size in
    let d = dropped v k a in
    let t : number (values v w) + bit_number (value v fill) * power rest ≡ number (values v rest) + bit_number (value v fill) * 2 ^ n =
    subst (λ j. number (values v w) + bit_number (value v fill) * power rest ≡ number (values v rest) + bit_number (value v fill) * 2 ^ j) s.size (longer_number v (length a) fill rest (drop_length k a)) in
    let p : power rest * 2 ^ k ≡ 2 ^ n = drop_power k a (let e = s.size in omega arith) ∙ power_is a ∙ ap (λ j. 2 ^ j) s.size in
    let less : number (values v rest) < power rest = subst (λ z. number (values v rest) < z) (sym (power_is rest)) (small_of v (length rest) rest refl) in
    record {
      size = size;
      number = down_number (value v fill) (number (values v w)) (number (values v rest)) (power rest) (2 ^ k) (2 ^ n) d.low (number (values v a)) x side d.small p less d.is s.number t;
    }

-- ---- stage by stage

-- what a direction does to a number that is of some kind
pub record Acts (v : ℕ → Bool) (way : Direction) (n : ℕ) (act : ℕ → ℤ → ℤ) (Kind : ℤ → Type 0) : Type 0 where
  pub none : (x : ℤ) → act 0 x ≡ x
  pub more : (k l : ℕ) (x : ℤ) → act (k + l) x ≡ act l (act k x)
  pub keeps : (k : ℕ) (x : ℤ) → Kind x → Kind (act k x)
  pub moves : (k : ℕ) (a : List Lit) (x : ℤ) → k < n → Kind x → Shows v n a x → Shows v n (moved way k a) (act k x)

no_more : (k j n : ℕ) → n ≤ k → k * j < n → j ≡ 0
no_more k zero n h l = refl
no_more k (suc j) n h l = absurd (let e : k * suc j ≡ k + k * j = grind arith in omega arith)

fewer_later : (k n b j : ℕ) → k * (b + 2 * j) < n → (k + k) * j < n
fewer_later k n b j h = let e : k * (b + 2 * j) ≡ k * b + (k + k) * j = grind arith in omega arith

kind_picked : (Kind : ℤ → Type 0) (t : Bool) (x y : ℤ) → Kind x → Kind y → Kind (picked t x y)
kind_picked Kind true x y h k = h
kind_picked Kind false x y h k = k

module _ (v : ℕ → Bool) (truth : v 0 ≡ true) (way : Direction) (n : ℕ) (act : ℕ → ℤ → ℤ) (Kind : ℤ → Type 0) (acts : Acts v way n act Kind) where
  one_more : (t : Bool) (k j : ℕ) (x : ℤ) → act ((k + k) * j) (picked t (act k x) x) ≡ act (k * (bit_number t + 2 * j)) x
  one_more true k j x = sym (acts.more k ((k + k) * j) x) ∙ ap (λ i. act i x) (sum k j)
    where
      sum : (k j : ℕ) → k + (k + k) * j ≡ k * (1 + 2 * j)
      sum k j = grind arith
  one_more false k j x = ap (λ i. act i x) (same k j)
    where
      same : (k j : ℕ) → (k + k) * j ≡ k * (0 + 2 * j)
      same k j = grind arith

  stage_shows : (k : ℕ) (a : List Lit) (b : Lit) (bs : List Lit) (x : ℤ) (m : Made) (t : Bool) → nat_lt k (length a) ≡ t
      → ((w : List Lit) (y : ℤ) (m' : Made) → (k + k) * number (values v bs) < n → Kind y → Shows v n w y → Ok v (shift_from way (k + k) w bs m').made → Shows v n (shift_from way (k + k) w bs m').bits (act ((k + k) * number (values v bs)) y))
      → k * number (values v (b ∷ bs)) < n → Kind x → Shows v n a x
      → Ok v (if t then (let r = choose b (moved way k a) a m in shift_from way (k + k) r.bits bs r.made) else known_word a m).made
      → Shows v n (if t then (let r = choose b (moved way k a) a m in shift_from way (k + k) r.bits bs r.made) else known_word a m).bits (act (k * number (values v (b ∷ bs))) x)
  stage_shows k a b bs x m true e next small kind s ok =
      let r = choose b (moved way k a) a m in
      let j = number (values v bs) in
      let inside : k < n = (let l = ltb-true k (length a) e in let z = s.size in omega arith) in
      let okr = shift_before v truth way (k + k) r.bits bs r.made ok in
      let there = acts.moves k a x inside kind s in
      let c = choices_show v truth n b (moved way k a) a (act k x) x m there s okr in
      let y = picked (value v b) (act k x) x in
      let d = next r.bits y r.made (fewer_later k n (bit_number (value v b)) j small) (kind_picked Kind (value v b) (act k x) x (acts.keeps k x kind) kind) c.shows ok in
      subst (λ z. Shows v n (shift_from way (k + k) r.bits bs r.made).bits z) (one_more (value v b) k j x) d
  stage_shows k a b bs x m false e next small kind s ok =
      let z : number (values v (b ∷ bs)) ≡ 0 = no_more k (number (values v (b ∷ bs))) n (let l = ltb-false k (length a) e in let q = s.size in omega arith) small in
      subst (λ y. Shows v n a y) (sym (ap (λ j. act (k * j) x) z ∙ ap (λ j. act j x) (times_none k) ∙ acts.none x)) s
    where
      times_none : (k : ℕ) → k * 0 ≡ 0
      times_none k = grind arith

  pub shift_shows : (k : ℕ) (a b : List Lit) (x : ℤ) (m : Made) → k * number (values v b) < n → Kind x → Shows v n a x → Ok v (shift_from way k a b m).made
      → Shows v n (shift_from way k a b m).bits (act (k * number (values v b)) x)
  shift_shows k a [] x m small kind s ok = subst (λ y. Shows v n a y) (sym (ap (λ j. act j x) (times_none k) ∙ acts.none x)) s
    where
      times_none : (k : ℕ) → k * 0 ≡ 0
      times_none k = grind arith
  shift_shows k a (b ∷ bs) x m small kind s ok =
      stage_shows k a b bs x m (nat_lt k (length a)) refl (λ w y m' small' kind' s' ok'. shift_shows (k + k) w bs y m' small' kind' s' ok') small kind s ok

-- ---- both directions

abbrev Any : ℤ → Type 0
Any x = Unit {0}

neg_times : (a b : ℕ) → neg_ℤ (pos a) *ℤ pos b ≡ neg_ℤ (pos (a * b))
neg_times zero b = pos-*ℤ-pos 0 b ∙ ap pos (none b) ∙ sym (ap (λ z. neg_ℤ (pos z)) (none b))
  where
    none : (b : ℕ) → 0 * b ≡ 0
    none b = grind arith
neg_times (suc a) b = negsuc-*ℤ-pos a b

times_assoc : (x : ℤ) (p q : ℕ) → x *ℤ pos (p * q) ≡ (x *ℤ pos p) *ℤ pos q
times_assoc (pos j) p q = pos-*ℤ-pos j (p * q) ∙ ap pos (assoc j p q) ∙ sym (ap (λ z. z *ℤ pos q) (pos-*ℤ-pos j p) ∙ pos-*ℤ-pos (j * p) q)
  where
    assoc : (j p q : ℕ) → j * (p * q) ≡ j * p * q
    assoc j p q = grind arith
times_assoc (negsuc j) p q = negsuc-*ℤ-pos j (p * q) ∙ ap (λ z. neg_ℤ (pos z)) (assoc (suc j) p q) ∙ sym (ap (λ z. z *ℤ pos q) (negsuc-*ℤ-pos j p) ∙ neg_times (suc j * p) q)
  where
    assoc : (j p q : ℕ) → j * (p * q) ≡ j * p * q
    assoc j p q = grind arith

times_once : (x : ℤ) → x *ℤ pos (2 ^ 0) ≡ x
unfolding lib.IntN.one
times_once x = *ℤ-one x

up_acts : (v : ℕ → Bool) → v 0 ≡ true → (n : ℕ) → Acts v Up n (λ k x. x *ℤ pos (2 ^ k)) Any
up_acts v truth n = record {
  none = times_once;
  more = λ k l x. ap (λ p. x *ℤ pos p) (pow-add 2 k l) ∙ times_assoc x (2 ^ k) (2 ^ l);
  keeps = λ k x h. tt;
  moves = λ k a x l h s. up_shows v truth n k a x s;
}

there_and_back : (l : Lit) → literal_of (number_of l) ≡ l
there_and_back (Pos i) = refl
there_and_back (Neg i) = refl

floor_once : (x : ℤ) → floor_div x (2 ^ 0) ≡ x
floor_once (pos j) = ap pos (div-one j)
floor_once (negsuc j) = ap negsuc (div-one j)

floor_twice : (x : ℤ) (p q : ℕ) → floor_div x (p * q) ≡ floor_div (floor_div x p) q
floor_twice (pos j) p q = ap pos (sym (div-div-eq-div-mul j p q))
floor_twice (negsuc j) p q = ap negsuc (sym (div-div-eq-div-mul j p q))

down_acts : (v : ℕ → Bool) (fill : Lit) (n : ℕ) → Acts v (Down (number_of fill)) n (λ k x. floor_div x (2 ^ k)) (Sided (value v fill) (2 ^ n))
down_acts v fill n = record {
  none = floor_once;
  more = λ k l x. ap (floor_div x) (pow-add 2 k l) ∙ floor_twice x (2 ^ k) (2 ^ l);
  keeps = λ k x h. sided_down (value v fill) (2 ^ n) k x h;
  moves = λ k a x l h s. subst (λ z. Shows v n (down z k a) (floor_div x (2 ^ k))) (sym (there_and_back fill)) (down_shows v n k fill a x (omega arith) h s);
}

once : (j k n : ℕ) → j ≡ k → k < n → 1 * j < n
once j k n e h = omega arith

pub left_shifts_show : LeftShiftsShow
left_shifts_show v truth n k a b x m s e h ok = record {
  before = shift_before v truth Up 1 a b m ok;
  shows = subst (λ j. Shows v n (shift_left a b m).bits (x *ℤ pos (2 ^ j))) (one_time (number (values v b)) ∙ e) (shift_shows v truth Up n (λ k x. x *ℤ pos (2 ^ k)) Any (up_acts v truth n) 1 a b x m (once (number (values v b)) k n e h) tt s ok);
}
  where
    one_time : (j : ℕ) → 1 * j ≡ j
    one_time j = omega arith

-- a number that fits has the sign of the literal by which its word is extended
side_of : (v : ℕ → Bool) → v 0 ≡ true → (signed : Bool) (n : ℕ) (a : List Lit) (x : ℤ) → Tells v signed n a x → Sided (value v (filling signed a)) (2 ^ n) x
side_of v truth true n a x s = signed_side (value v (top a)) (2 ^ n) x (top_sign v truth n a x s.some s.fits s.shows) (half_small n s.some) s.fits.from s.fits.to
  where
    half_small : (n : ℕ) → 1 ≤ n → 2 ^ (n - 1) ≤ 2 ^ n
    half_small zero h = absurd (omega arith)
    half_small (suc k) h = let e : suc k - 1 ≡ k = omega arith in let d = doubled k in subst (λ j. 2 ^ j ≤ 2 ^ suc k) (sym e) (omega arith)

    signed_side : (f : Bool) (N : ℕ) (x : ℤ) → f ≡ int_lt x (pos 0) → 2 ^ (n - 1) ≤ N → neg_ℤ (pos (2 ^ (n - 1))) ≤ℤ x → x <ℤ pos (2 ^ (n - 1)) → Sided f N x
    signed_side f N (pos j) e h from to = (e ∙ not_under j, omega (arith, ints))
    signed_side f N (negsuc j) e h from to = (e, omega (arith, ints))
side_of v truth false n a x s = plain_side (value v F) (2 ^ n) x (value_F v truth) s.fits.from s.fits.to
  where
    plain_side : (f : Bool) (N : ℕ) (x : ℤ) → f ≡ false → pos 0 ≤ℤ x → x <ℤ pos N → Sided f N x
    plain_side f N (pos j) e from to = (e, omega (arith, ints))
    plain_side f N (negsuc j) e from to = absurd (omega (arith, ints))

pub right_shifts_show : RightShiftsShow
right_shifts_show v truth signed n k a b x m s e h ok =
    let fill = filling signed a in
    let way = Down (number_of fill) in
    record {
      before = shift_before v truth way 1 a b m ok;
      shows = subst (λ j. Shows v n (shift_right signed a b m).bits (floor_div x (2 ^ j))) (one_time (number (values v b)) ∙ e)
          (shift_shows v truth way n (λ k x. floor_div x (2 ^ k)) (Sided (value v fill) (2 ^ n)) (down_acts v fill n) 1 a b x m (once (number (values v b)) k n e h) (side_of v truth signed n a x s) s.shows ok);
    }
  where
    one_time : (j : ℕ) → 1 * j ≡ j
    one_time j = omega arith
