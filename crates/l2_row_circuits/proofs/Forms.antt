-- The values of forms, rows and rankings.
use Rattle.std.proofs.Common.{◌≡◌, ℕ, suc, ◌^◌, ◌==◌, ◌≤◌, Bool, true, false, not, if◌then◌else◌, ℤ, pos, neg_ℤ, ◌+ℤ◌, ◌-ℤ◌, int_lt, int_le, Option, Some, None, refl, sym, ap, ◌∙◌, subst, List, [], ◌∷◌, length, arith}
use Rattle.std.specs.Ordering.{int_eq}
use Rattle.std.proofs.lemmas.Int.{ints}
use Rattle.std.proofs.lemmas.Bool.{eqb-true, eqb-false}
use Rattle.std.proofs.Math.Nat.{zero-mod}
use Rattle.l2_gates.specs.Gates.{Lit, T, F, Made, and}
use Rattle.l2_gates.specs.Models.{both, value, Ok, Gives}
use Rattle.l2_gates.proofs.Values.{negated_value, value_F, and_gives, or_gives}
use Rattle.l2_templates.specs.declared.form.Form.{Form}
use Rattle.l2_templates.specs.Forms.{row_value, variable, signed, IsNumber, is_within, lower_than}
use Rattle.l2_circuits.specs.declared.columns.Kind.TheVariants.{Add, Equal}
use Rattle.l2_circuits.specs.Words.{Word, sub, lts, eq, zeros, constant, top_negated, negated_word}
use Rattle.l2_circuit_laws.specs.Shows.{Shows, Gains, IsSigned}
use Rattle.l2_circuit_laws.proofs.Columns.{columns_add}
use Rattle.l2_circuit_laws.proofs.Products.{zeros_number}
use Rattle.l2_circuit_laws.proofs.Shown.{sums_show, differences_show}
use Rattle.l2_circuit_laws.proofs.Signed.{less_shows, equal_shows}
use Rattle.l2_circuit_laws.proofs.Constants.{constants_show}
use Rattle.l2_row_circuits.specs.Rows.{wide, variable_word, signed_word, two_words, form_word, bound_bit, component_bit, lower_bit}
use Rattle.l2_row_circuits.specs.Law.{AreShown, IsProper, FormsShow, IsBound, RowsAre, AreProper, RanksAre}

zeros_length : (a : List Lit) → length (zeros a) ≡ length a
zeros_length [] = refl
zeros_length (x ∷ a) = ap suc (zeros_length a)

minus : (x : ℤ) → pos 0 -ℤ x ≡ neg_ℤ x
minus x = omega (arith, ints)

plus_none : (x : ℤ) → x ≡ x +ℤ pos 0
plus_none x = omega (arith, ints)

-- a form's value has 66 bits
inside : (p q : Bool) (x y : ℤ) → IsNumber x → IsNumber y → IsSigned wide (signed p x +ℤ signed q y)
inside true true x y a b = let c = a.least in let d = a.most in let e = b.least in let f = b.most in record { from = omega (arith, ints); to = omega (arith, ints) }
inside true false x y a b = let c = a.least in let d = a.most in let e = b.least in let f = b.most in record { from = omega (arith, ints); to = omega (arith, ints) }
inside false true x y a b = let c = a.least in let d = a.most in let e = b.least in let f = b.most in record { from = omega (arith, ints); to = omega (arith, ints) }
inside false false x y a b = let c = a.least in let d = a.most in let e = b.least in let f = b.most in record { from = omega (arith, ints); to = omega (arith, ints) }

value_inside : (v : ℕ → Bool) (f : Form) (words : List (List Lit)) (xs : List ℤ) → AreShown v words xs → IsProper (length xs) f → IsSigned wide (row_value f xs)
value_inside v f words xs s p = inside f.plus f.second_plus (variable xs f.first) (variable xs f.second) (s.numbers f.first p.over.first_within) (s.numbers f.second p.over.second_within)

not_above : (b x : ℤ) → not (int_lt b x) ≡ int_le x b
not_above b x = go (int_lt b x) refl
  where
    above : (b x : ℤ) → int_lt b x ≡ true → int_le x b ≡ false
    above b x e = grind (arith, ints)

    under : (b x : ℤ) → int_lt b x ≡ false → int_le x b ≡ true
    under b x e = grind (arith, ints)

    go : (t : Bool) → int_lt b x ≡ t → not t ≡ int_le x b
    go true e = sym (above b x e)
    go false e = sym (under b x e)

-- less, or equal and lower behind
lower_case : (x y : ℤ) (low : Bool) → not (both (not (int_lt x y)) (not (both (int_eq x y) low))) ≡ (if int_eq x y then low else int_lt x y)
lower_case x y low = go (int_eq x y) refl (int_lt x y) refl low
  where
    never : (x y : ℤ) → int_eq x y ≡ true → int_lt x y ≡ true → ⊥
    never x y e f = absurd (let n : int_lt x y ≡ false = grind (arith, ints) in let c : true ≡ false = sym f ∙ n in cc)

    go : (e : Bool) → int_eq x y ≡ e → (l : Bool) → int_lt x y ≡ l → (low : Bool) → not (both (not l) (not (both e low))) ≡ (if e then low else l)
    go true p true q low = absurd (never x y p q)
    go true p false q true = refl
    go true p false q false = refl
    go false p true q low = refl
    go false p false q low = refl

module _ (v : ℕ → Bool) (truth : v 0 ≡ true) where
  zeros_show : (n : ℕ) (a : List Lit) → length a ≡ n → Shows v n (zeros a) (pos 0)
  zeros_show n a e = record { size = zeros_length a ∙ e; number = zeros_number v truth a ∙ sym (zero-mod (2 ^ n)) }

  -- a word that shows a number shows whatever is equal to it
  as_equal : (m : Made) (n : ℕ) (a : List Lit) (x y : ℤ) → x ≡ y → Gains v m n a x → Gains v m n a y
  as_equal m n a x y e g = subst (Gains v m n a) e g

  signed_gains : (plus : Bool) (a : List Lit) (x : ℤ) (m : Made) → Shows v wide a x → Ok v (signed_word plus a m).made → Gains v m wide (signed_word plus a m).bits (signed plus x)
  signed_gains true a x m s ok = record { before = ok; shows = s }
  signed_gains false a x m s ok = as_equal m wide (sub (zeros a) a m).bits (pos 0 -ℤ x) (neg_ℤ x) (minus x) (differences_show v truth wide (zeros a) a (pos 0) x m (zeros_show wide a s.size) s ok)

  form_gains : (f : Form) (words : List (List Lit)) (xs : List ℤ) (m : Made) → AreShown v words xs → IsProper (length xs) f → Ok v (form_word f words m).made → Gains v m wide (form_word f words m).bits (row_value f xs)
  form_gains f words xs m s p = go (f.second == 0) refl
    where
      first : Word
      first = signed_word f.plus (variable_word words f.first) m

      go : (t : Bool) → (f.second == 0) ≡ t → Ok v (if t then first else two_words f words first).made → Gains v m wide (if t then first else two_words f words first).bits (row_value f xs)
      go true e ok =
          let z = eqb-true f.second 0 e in
          let g = signed_gains f.plus (variable_word words f.first) (variable xs f.first) m (s.shows f.first p.over.some p.over.first_within) ok in
          as_equal m wide first.bits (signed f.plus (variable xs f.first)) (row_value f xs)
          (plus_none (signed f.plus (variable xs f.first))
          ∙ ap (λ y. signed f.plus (variable xs f.first) +ℤ signed true (variable xs y)) (sym z)
          ∙ ap (λ q. signed f.plus (variable xs f.first) +ℤ signed q (variable xs f.second)) (sym (p.plain z))) g
      go false e ok =
          let z = eqb-false f.second 0 e in
          let some : 1 ≤ f.second = omega arith in
          let second = signed_word f.second_plus (variable_word words f.second) first.made in
          let r = columns_add v truth Add first.bits second.bits F second.made ok in
          let gs = signed_gains f.second_plus (variable_word words f.second) (variable xs f.second) first.made (s.shows f.second some p.over.second_within) r.before in
          let gf = signed_gains f.plus (variable_word words f.first) (variable xs f.first) m (s.shows f.first p.over.some p.over.first_within) gs.before in
          let g = sums_show v truth wide first.bits second.bits (signed f.plus (variable xs f.first)) (signed f.second_plus (variable xs f.second)) second.made gf.shows gs.shows ok in
          record { before = gf.before; shows = g.shows }

  -- ---- rows

  lts_before : (a b : List Lit) (m : Made) → Ok v (lts a b m).made → Ok v m
  lts_before a b m ok = (columns_add v truth Add (top_negated a) (negated_word (top_negated b)) T m ok).before

  eq_before : (a b : List Lit) (m : Made) → Ok v (eq a b m).made → Ok v m
  eq_before a b m ok = (columns_add v truth Equal a b T m ok).before

  bound_gives : (o : Option ℤ) → IsBound o → (f : Form) (words : List (List Lit)) (xs : List ℤ) (m : Made) → AreShown v words xs → IsProper (length xs) f
      → Gives v m (is_within o (row_value f xs)) (bound_bit o (form_word f words m))
  bound_gives None h f words xs m s p = λ ok. record { before = (form_gains f words xs m s p ok).before; is = truth }
  bound_gives (Some b) (from, to) f words xs m s p = λ ok.
      let w = form_word f words m in
      let g = form_gains f words xs m s p (lts_before (constant wide b) w.bits w.made ok) in
      let r = less_shows v truth true wide (constant wide b) w.bits b (row_value f xs) w.made (omega arith) (record { from = omega (arith, ints); to = omega (arith, ints) }) (value_inside v f words xs s p) (constants_show v truth wide b) g.shows ok in
      record { before = g.before; is = negated_value v (lts (constant wide b) w.bits w.made).bit ∙ ap not r.is ∙ not_above b (row_value f xs) }

  -- ---- rankings

  component_gives : (f : Form) (before after : List (List Lit)) (old new : List ℤ) (low : Lit) (m : Made) → AreShown v before old → AreShown v after new → IsProper (length old) f → IsProper (length new) f
      → Gives v m (if int_eq (row_value f new) (row_value f old) then value v low else int_lt (row_value f new) (row_value f old)) (component_bit f before after low m)
  component_gives f before after old new low m so sn po pn = λ ok.
      let x = form_word f after m in
      let y = form_word f before x.made in
      let l = lts x.bits y.bits y.made in
      let e = eq x.bits y.bits l.made in
      let k = and e.bit low e.made in
      let gk = or_gives v truth l.bit k.bit k.made ok in
      let ge = and_gives v truth e.bit low e.made gk.before in
      let okl = eq_before x.bits y.bits l.made ge.before in
      let oky = lts_before x.bits y.bits y.made okl in
      let gy = form_gains f before old x.made so po oky in
      let gx = form_gains f after new m sn pn gy.before in
      let X = row_value f new in
      let Y = row_value f old in
      let fx = value_inside v f after new sn pn in
      let fy = value_inside v f before old so po in
      let rl = less_shows v truth true wide x.bits y.bits X Y y.made (omega arith) fx fy gx.shows gy.shows okl in
      let re = equal_shows v truth true wide x.bits y.bits X Y l.made (omega arith) fx fy gx.shows gy.shows ge.before in
      record {
        before = gx.before;
        is = gk.is ∙ ap (λ z. not (both (not z) (not (value v k.bit)))) rl.is ∙ ap (λ z. not (both (not (int_lt X Y)) (not z))) (ge.is ∙ ap (λ z. both z (value v low)) re.is) ∙ lower_case X Y (value v low);
      }

  lower_gives : (fs : List Form) (before after : List (List Lit)) (old new : List ℤ) (m : Made) → AreShown v before old → AreShown v after new → AreProper (length old) fs → AreProper (length new) fs
      → Gives v m (lower_than fs old new) (lower_bit fs before after m)
  lower_gives [] before after old new m so sn po pn = λ ok. record { before = ok; is = value_F v truth }
  lower_gives (f ∷ fs) before after old new m so sn (po, pos') (pn, pns) = λ ok.
      let rest = lower_bit fs before after m in
      let g = component_gives f before after old new rest.bit rest.made so sn po pn ok in
      let r = lower_gives fs before after old new m so sn pos' pns g.before in
      record { before = r.before; is = g.is ∙ ap (λ z. if int_eq (row_value f new) (row_value f old) then z else int_lt (row_value f new) (row_value f old)) r.is }

pub forms_show : FormsShow
forms_show = λ v truth f words xs m s p ok. form_gains v truth f words xs m s p ok

pub rows_are : RowsAre
rows_are = λ v truth r words xs m s p b. bound_gives v truth r.bound b r.form words xs m s p

pub ranks_are : RanksAre
ranks_are = λ v truth fs before after old new m so sn po pn. lower_gives v truth fs before after old new m so sn po pn
