-- Sums, differences and comparisons of words, as numbers.
use Rattle.std.proofs.Common.{◌≡◌, ℕ, ◌+◌, ◌*◌, ◌<◌, ◌≤◌, Bool, true, false, not, refl, sym, ap, ◌∙◌, subst, List, [], ◌∷◌, map, arith}
use Rattle.std.specs.Prelude.{nat_lt, nat_eq}
use Rattle.std.proofs.lemmas.Bool.Decides.{nat_tests}
use Rattle.l2_gates.specs.Gates.{Lit, T, Made}
use Rattle.l2_gates.specs.Models.{both, some_of, differ, value, Ok, Gives}
use Rattle.l2_gates.proofs.Values.{negated_value}
use Rattle.l2_circuits.specs.declared.columns.Kind.TheVariants.{Add, Equal}
use Rattle.l2_circuits.specs.Words.{sum, sub, ltu, eq, negated_word}
use Rattle.l2_circuit_laws.specs.Values.{values, bit_number, number, power, SameSize, column_value, column_values}
use Rattle.l2_circuit_laws.specs.Law.{SumsAre, DifferencesAre, LessIs, EqualIs}
use Rattle.l2_circuit_laws.proofs.Columns.{columns_add}

-- ---- sizes

pub same_sym : {X Y : Type 0} (xs : List X) (ys : List Y) → SameSize xs ys → SameSize ys xs
same_sym [] [] h = tt
same_sym [] (y ∷ ys) h = h
same_sym (x ∷ xs) [] h = h
same_sym (x ∷ xs) (y ∷ ys) h = same_sym xs ys h

pub same_trans : {X Y Z : Type 0} (xs : List X) (ys : List Y) (zs : List Z) → SameSize xs ys → SameSize ys zs → SameSize xs zs
same_trans [] [] zs h k = k
same_trans [] (y ∷ ys) zs h k = absurd h
same_trans (x ∷ xs) [] zs h k = absurd h
same_trans (x ∷ xs) (y ∷ ys) [] h k = k
same_trans (x ∷ xs) (y ∷ ys) (z ∷ zs) h k = same_trans xs ys zs h k

pub same_power : {X Y : Type 0} (xs : List X) (ys : List Y) → SameSize xs ys → power xs ≡ power ys
same_power [] [] h = refl
same_power [] (y ∷ ys) h = absurd h
same_power (x ∷ xs) [] h = absurd h
same_power (x ∷ xs) (y ∷ ys) h = ap (λ n. 2 * n) (same_power xs ys h)

pub values_size : (v : ℕ → Bool) (a : List Lit) → SameSize (values v a) a
values_size v [] = tt
values_size v (x ∷ a) = values_size v a

pub values_sizes : (v : ℕ → Bool) (a b : List Lit) → SameSize a b → SameSize (values v a) (values v b)
values_sizes v [] [] h = tt
values_sizes v [] (y ∷ b) h = h
values_sizes v (x ∷ a) [] h = h
values_sizes v (x ∷ a) (y ∷ b) h = values_sizes v a b h

pub not_size : (b : List Bool) → SameSize (map not b) b
not_size [] = tt
not_size (x ∷ b) = not_size b

pub negated_size : (b : List Lit) → SameSize (negated_word b) b
negated_size [] = tt
negated_size (x ∷ b) = negated_size b

pub negated_values : (v : ℕ → Bool) (b : List Lit) → values v (negated_word b) ≡ map not (values v b)
negated_values v [] = refl
negated_values v (x ∷ b) = ap (λ z. z ∷ values v (negated_word b)) (negated_value v x) ∙ ap (λ zs. not (value v x) ∷ zs) (negated_values v b)

-- ---- numbers

bit_small : (b : Bool) → bit_number b ≤ 1
bit_small true = omega arith
bit_small false = omega arith

pub number_small : (a : List Bool) → number a < power a
number_small [] = omega arith
number_small (x ∷ xs) = let h = number_small xs in let b = bit_small x in omega arith

flip : (b : Bool) → bit_number (not b) + bit_number b ≡ 1
flip true = refl
flip false = refl

pub not_number : (a : List Bool) → number (map not a) + number a + 1 ≡ power a
not_number [] = refl
not_number (x ∷ xs) = let h = not_number xs in let f = flip x in omega arith

column : (a b c : Bool) → bit_number (differ (differ a b) c) + 2 * bit_number (some_of (both a b) (both (differ a b) c)) ≡ bit_number a + bit_number b + bit_number c
column true true true = refl
column true true false = refl
column true false true = refl
column true false false = refl
column false true true = refl
column false true false = refl
column false false true = refl
column false false false = refl

-- one column more
more : (s k n1 n2 n3 p c a b x : ℕ) → n1 + p * c ≡ n2 + n3 + k → s + 2 * k ≡ a + b + x → s + 2 * n1 + 2 * p * c ≡ a + 2 * n2 + (b + 2 * n3) + x
more s k n1 n2 n3 p c a b x e f = grind arith

pub add_is : (a b : List Bool) (c : Bool) → SameSize a b
    → number (column_values Add a b c).bits + power a * bit_number (column_values Add a b c).carry ≡ number a + number b + bit_number c
add_is [] [] c h = omega arith
add_is [] (y ∷ b) c h = absurd h
add_is (x ∷ a) [] c h = absurd h
add_is (x ∷ a) (y ∷ b) c h =
    let k = column_value Add x y c in
    let r = column_values Add a b k.carry in
    more (bit_number k.sum) (bit_number k.carry) (number r.bits) (number a) (number b) (power a) (bit_number r.carry) (bit_number x) (bit_number y) (bit_number c)
    (add_is a b k.carry h) (column x y c)

pub add_size : (a b : List Bool) (c : Bool) → SameSize a b → SameSize (column_values Add a b c).bits a
add_size [] [] c h = tt
add_size [] (y ∷ b) c h = absurd h
add_size (x ∷ a) [] c h = absurd h
add_size (x ∷ a) (y ∷ b) c h = add_size a b _ h

pub sub_is : (a b : List Bool) → SameSize a b
    → number (column_values Add a (map not b) true).bits + number b + power a * bit_number (column_values Add a (map not b) true).carry ≡ number a + power a
sub_is a b h =
    let n = same_trans a b (map not b) h (same_sym (map not b) b (not_size b)) in
    let s = add_is a (map not b) true n in
    let f = not_number b in
    let p = same_power a b h in
    omega arith

-- less: the carry is missing
missing : (n p c a b : ℕ) → (t : Bool) → c ≡ bit_number t → n + b + p * c ≡ a + p → n < p → not t ≡ nat_lt a b
missing n p c a b true e s h = let k : n + b + p * 1 ≡ a + p = subst (λ z. n + b + p * z ≡ a + p) e s in let l : b ≤ a = omega arith in grind (arith, nat_tests)
missing n p c a b false e s h = let k : n + b + p * 0 ≡ a + p = subst (λ z. n + b + p * z ≡ a + p) e s in let l : a < b = omega arith in grind (arith, nat_tests)

pub less_is : (a b : List Bool) → SameSize a b → not (column_values Add a (map not b) true).carry ≡ nat_lt (number a) (number b)
less_is a b h =
    let n = same_trans a b (map not b) h (same_sym (map not b) b (not_size b)) in
    let t = column_values Add a (map not b) true in
    let small = subst (λ p. number t.bits < p) (same_power t.bits a (add_size a (map not b) true n)) (number_small t.bits) in
    missing (number t.bits) (power a) (bit_number t.carry) (number a) (number b) t.carry refl (sub_is a b h) small

-- equal
twice : (n m : ℕ) → nat_eq (1 + 2 * n) (1 + 2 * m) ≡ nat_eq n m
twice n m = grind (arith, nat_tests)

twice_even : (n m : ℕ) → nat_eq (0 + 2 * n) (0 + 2 * m) ≡ nat_eq n m
twice_even n m = grind (arith, nat_tests)

odd_even : (n m : ℕ) → nat_eq (1 + 2 * n) (0 + 2 * m) ≡ false
odd_even n m = grind (arith, nat_tests)

even_odd : (n m : ℕ) → nat_eq (0 + 2 * n) (1 + 2 * m) ≡ false
even_odd n m = grind (arith, nat_tests)

both_none : (c : Bool) → both c false ≡ false
both_none true = refl
both_none false = refl

both_all : (c : Bool) → both c true ≡ c
both_all true = refl
both_all false = refl

equal_column : (x y c : Bool) (n m : ℕ) → both (both c (not (differ x y))) (nat_eq n m) ≡ both c (nat_eq (bit_number x + 2 * n) (bit_number y + 2 * m))
equal_column true true c n m = ap (λ z. both z (nat_eq n m)) (both_all c) ∙ ap (both c) (sym (twice n m))
equal_column false false c n m = ap (λ z. both z (nat_eq n m)) (both_all c) ∙ ap (both c) (sym (twice_even n m))
equal_column true false c n m = ap (λ z. both z (nat_eq n m)) (both_none c) ∙ sym (ap (both c) (odd_even n m) ∙ both_none c)
equal_column false true c n m = ap (λ z. both z (nat_eq n m)) (both_none c) ∙ sym (ap (both c) (even_odd n m) ∙ both_none c)

pub equal_is : (a b : List Bool) (c : Bool) → SameSize a b → (column_values Equal a b c).carry ≡ both c (nat_eq (number a) (number b))
equal_is [] [] c h = sym (both_all c)
equal_is [] (y ∷ b) c h = absurd h
equal_is (x ∷ a) [] c h = absurd h
equal_is (x ∷ a) (y ∷ b) c h = equal_is a b (both c (not (differ x y))) h ∙ equal_column x y c (number a) (number b)

-- ---- circuits

module _ (v : ℕ → Bool) (truth : v 0 ≡ true) where
  pub sum_number : (a b : List Lit) (c : Lit) (m : Made) → SameSize a b → Ok v (sum a b c m).made
      → number (values v (sum a b c m).bits) + power a * bit_number (value v (sum a b c m).carry) ≡ number (values v a) + number (values v b) + bit_number (value v c)
  sum_number a b c m h ok =
      let r = columns_add v truth Add a b c m ok in
      let e = add_is (values v a) (values v b) (value v c) (values_sizes v a b h) in
      (λ i. number (r.bits i) + power a * bit_number (r.carry i))
      ∙ ap (λ p. number (column_values Add (values v a) (values v b) (value v c)).bits + p * bit_number (column_values Add (values v a) (values v b) (value v c)).carry) (sym (same_power (values v a) a (values_size v a)))
      ∙ e

  -- what a difference computes
  sub_adds : (a b : List Lit) (m : Made) → Ok v (sub a b m).made → (values v (sub a b m).bits ≡ (column_values Add (values v a) (map not (values v b)) true).bits) × (value v (sub a b m).carry ≡ (column_values Add (values v a) (map not (values v b)) true).carry)
  sub_adds a b m ok =
      let r = columns_add v truth Add a (negated_word b) T m ok in
      (r.bits ∙ (λ i. (column_values Add (values v a) (negated_values v b i) (truth i)).bits), r.carry ∙ (λ i. (column_values Add (values v a) (negated_values v b i) (truth i)).carry))

  pub sub_number : (a b : List Lit) (m : Made) → SameSize a b → Ok v (sub a b m).made
      → number (values v (sub a b m).bits) + number (values v b) + power a * bit_number (value v (sub a b m).carry) ≡ number (values v a) + power a
  sub_number a b m h ok =
      let r = sub_adds a b m ok in
      let e = sub_is (values v a) (values v b) (values_sizes v a b h) in
      (λ i. number (r.0 i) + number (values v b) + power a * bit_number (r.1 i))
      ∙ subst (λ p. number (column_values Add (values v a) (map not (values v b)) true).bits + number (values v b) + p * bit_number (column_values Add (values v a) (map not (values v b)) true).carry ≡ number (values v a) + p) (same_power (values v a) a (values_size v a)) e

  pub less_gives : (a b : List Lit) (m : Made) → SameSize a b → Gives v m (nat_lt (number (values v a)) (number (values v b))) (ltu a b m)
  less_gives a b m h = λ ok. record {
    before = (columns_add v truth Add a (negated_word b) T m ok).before;
    is = negated_value v (sub a b m).carry ∙ ap not ((sub_adds a b m ok).1) ∙ less_is (values v a) (values v b) (values_sizes v a b h);
  }

  pub equal_gives : (a b : List Lit) (m : Made) → SameSize a b → Gives v m (nat_eq (number (values v a)) (number (values v b))) (eq a b m)
  equal_gives a b m h = λ ok.
      let r = columns_add v truth Equal a b T m ok in
      record {
        before = r.before;
        is = r.carry ∙ (λ i. (column_values Equal (values v a) (values v b) (truth i)).carry) ∙ equal_is (values v a) (values v b) true (values_sizes v a b h);
      }

pub sums_are : SumsAre
sums_are = λ v truth a b c m h ok. sum_number v truth a b c m h ok

pub differences_are : DifferencesAre
differences_are = λ v truth a b m h ok. sub_number v truth a b m h ok

pub less_is_so : LessIs
less_is_so = λ v truth a b m h. less_gives v truth a b m h

pub equal_is_so : EqualIs
equal_is_so = λ v truth a b m h. equal_gives v truth a b m h
