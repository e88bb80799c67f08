-- Choices and products of words, as numbers.
use Rattle.std.proofs.Common.{◌≡◌, ℕ, ◌+◌, ◌*◌, Bool, true, false, refl, sym, ap, ◌∙◌, subst, List, [], ◌∷◌, arith}
use Rattle.l2_gates.specs.Gates.{Lit, F, Made}
use Rattle.l2_gates.specs.Models.{both, value, Ok}
use Rattle.l2_gates.proofs.Values.{value_F}
use Rattle.l2_circuits.specs.declared.columns.Kind.{Kind}
use Rattle.l2_circuits.specs.declared.columns.Kind.TheVariants.{Choose, Mask, Add}
use Rattle.l2_circuits.specs.Words.{Word, column, columns, choose, where_true, sum, zeros}
use Rattle.l2_circuits.specs.Products.{behind, mul_from, mul}
use Rattle.l2_circuit_laws.specs.Values.{values, bit_number, number, power, SameSize, column_values}
use Rattle.l2_circuit_laws.specs.Law.{picked, Chooses, ChoicesAre, Multiplies, ProductsAre}
use Rattle.l2_circuit_laws.proofs.Columns.{columns_add}
use Rattle.l2_circuit_laws.proofs.Numbers.{same_sym, same_trans, same_power, values_sizes, sum_number}

-- ---- sizes

pub columns_size : (kind : Kind) (a b : List Lit) (c : Lit) (m : Made) → SameSize a b → SameSize (columns kind a b c m).bits a
columns_size kind [] b c m h = tt
columns_size kind (x ∷ a) [] c m h = absurd h
columns_size kind (x ∷ a) (y ∷ b) c m h = let k = column kind x y c m in columns_size kind a b k.carry k.made h

pub same_itself : {X : Type 0} (a : List X) → SameSize a a
same_itself [] = tt
same_itself (x ∷ a) = same_itself a

pub behind_size : (x : Lit) (a : List Lit) → SameSize (behind x a) a
behind_size x [] = tt
behind_size x (y ∷ a) = behind_size y a

pub zeros_size : (a : List Lit) → SameSize (zeros a) a
zeros_size [] = tt
zeros_size (x ∷ a) = zeros_size a

-- ---- choices

pub choose_values : (a b : List Bool) (c : Bool) → SameSize a b → (column_values Choose a b c).bits ≡ picked c a b
choose_values [] [] true h = refl
choose_values [] [] false h = refl
choose_values [] (y ∷ b) c h = absurd h
choose_values (x ∷ a) [] c h = absurd h
choose_values (x ∷ a) (y ∷ b) true h = ap (λ zs. x ∷ zs) (choose_values a b true h)
choose_values (x ∷ a) (y ∷ b) false h = ap (λ zs. y ∷ zs) (choose_values a b false h)

one_bit : (a b : Bool) → bit_number (both a b) ≡ bit_number b * bit_number a
one_bit true true = refl
one_bit true false = refl
one_bit false true = refl
one_bit false false = refl

and_more : (x r b a n : ℕ) → x ≡ b * a → r ≡ b * n → x + 2 * r ≡ b * (a + 2 * n)
and_more x r b a n e f = grind arith

pub mask_number : (a : List Bool) (c : Bool) → number (column_values Mask a a c).bits ≡ bit_number c * number a
mask_number [] c = grind arith
mask_number (x ∷ a) c = and_more (bit_number (both x c)) (number (column_values Mask a a c).bits) (bit_number c) (bit_number x) (number a) (one_bit x c) (mask_number a c)

module _ (v : ℕ → Bool) (truth : v 0 ≡ true) where
  pub choose_gives : (c : Lit) (a b : List Lit) (m : Made) → SameSize a b → Ok v (choose c a b m).made → Chooses v m (choose c a b m) (picked (value v c) (values v a) (values v b))
  choose_gives c a b m h ok =
      let r = columns_add v truth Choose a b c m ok in
      record { before = r.before; is = r.bits ∙ choose_values (values v a) (values v b) (value v c) (values_sizes v a b h) }

  -- ---- products

  -- a word that is shifted by one
  behind_more : (x y n t p a : ℕ) → n + t * p ≡ y + 2 * a → x + 2 * n + t * (2 * p) ≡ x + 2 * (y + 2 * a)
  behind_more x y n t p a e = grind arith

  pub behind_is : (x : Lit) (a : List Lit) → (t : ℕ) × (number (values v (behind x a)) + t * power a ≡ bit_number (value v x) + 2 * number (values v a))
  behind_is x [] = (bit_number (value v x), grind arith)
  behind_is x (y ∷ a) =
      let r = behind_is y a in
      (r.0, behind_more (bit_number (value v x)) (bit_number (value v y)) (number (values v (behind y a))) r.0 (power a) (number (values v a)) r.1)

  pub zero_F : bit_number (value v F) ≡ 0
  zero_F = ap bit_number (value_F v truth)

  pub zeros_number : (a : List Lit) → number (values v (zeros a)) ≡ 0
  zeros_number [] = refl
  zeros_number (x ∷ a) = (λ i. bit_number (value_F v truth i) + 2 * zeros_number a i)

  record Multiplied (a b p : List Lit) (r : Word) (m : Made) : Type 0 where
    before : Ok v m
    size : SameSize r.bits p
    times : ℕ
    is : number (values v r.bits) + times * power p ≡ number (values v p) + number (values v a) * number (values v b)

  mul_more : (n q p ns na' nb c np nr b na t : ℕ) → n + q * p ≡ ns + na' * nb → ns + p * c ≡ np + nr + 0 → nr ≡ b * na → na' + t * p ≡ 0 + 2 * na → n + (q + c + t * nb) * p ≡ np + na * (b + 2 * nb)
  mul_more n q p ns na' nb c np nr b na t e f g h =
      let k : (na' + t * p) * nb ≡ (0 + 2 * na) * nb = ap (λ z. z * nb) h in
      grind arith

  mul_gives : (a b p : List Lit) (m : Made) → SameSize p a → Ok v (mul_from a b p m).made → Multiplied a b p (mul_from a b p m) m
  mul_gives a [] p m h ok = record { before = ok; size = same_itself p; times = 0; is = grind arith }
  mul_gives a (b ∷ bs) p m h ok =
      let r = where_true a b m in
      let s = sum p r.bits F r.made in
      let ra = columns_size Mask a a b m (same_itself a) in
      let pr = same_trans p a r.bits h (same_sym r.bits a ra) in
      let ss = columns_size Add p r.bits F r.made pr in
      let hs = same_trans s.bits p (behind F a) ss (same_trans p a (behind F a) h (same_sym (behind F a) a (behind_size F a))) in
      let q = mul_gives (behind F a) bs s.bits s.made hs ok in
      let gs = columns_add v truth Add p r.bits F r.made q.before in
      let sn = sum_number v truth p r.bits F r.made pr q.before in
      let gr = columns_add v truth Mask a a b m gs.before in
      let rn : number (values v r.bits) ≡ bit_number (value v b) * number (values v a) = ap number gr.bits ∙ mask_number (values v a) (value v b) in
      let t = behind_is F a in
      let last = mul_from (behind F a) bs s.bits s.made in
      record {
        before = gr.before;
        size = same_trans last.bits s.bits p q.size ss;
        times = q.times + bit_number (value v s.carry) + t.0 * number (values v bs);
        is = mul_more (number (values v last.bits)) q.times (power p) (number (values v s.bits)) (number (values v (behind F a))) (number (values v bs)) (bit_number (value v s.carry)) (number (values v p)) (number (values v r.bits)) (bit_number (value v b)) (number (values v a)) t.0
            (subst (λ z. number (values v last.bits) + q.times * z ≡ number (values v s.bits) + number (values v (behind F a)) * number (values v bs)) (same_power s.bits p ss) q.is)
            (sn ∙ ap (λ z. number (values v p) + number (values v r.bits) + z) zero_F)
            rn
            (subst (λ z. number (values v (behind F a)) + t.0 * z ≡ 0 + 2 * number (values v a)) (sym (same_power p a h)) (t.1 ∙ ap (λ z. z + 2 * number (values v a)) zero_F));
      }

  pub product_is : (a b : List Lit) (m : Made) → Ok v (mul a b m).made → Multiplies v m (mul a b m) a b
  product_is a b m ok =
      let r = mul_gives a b (zeros a) m (zeros_size a) ok in
      record {
        before = r.before;
        size = same_trans (mul a b m).bits (zeros a) a r.size (zeros_size a);
        times = r.times;
        is = subst (λ z. number (values v (mul a b m).bits) + r.times * z ≡ number (values v a) * number (values v b)) (same_power (zeros a) a (zeros_size a))
            (r.is ∙ ap (λ z. z + number (values v a) * number (values v b)) (zeros_number a) ∙ grind arith);
      }

pub choices_are : ChoicesAre
choices_are = λ v truth c a b m h ok. choose_gives v truth c a b m h ok

pub products_are : ProductsAre
products_are = λ v truth a b m ok. product_is v truth a b m ok
