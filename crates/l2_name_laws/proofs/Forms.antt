-- The forms of a loop's variables stand in order, and each is one of the loop.
use Rattle.std.proofs.Common.{◌≡◌, ℕ, suc, ◌≤◌, ◌<◌, Bool, true, false, not, List, [], ◌∷◌, ◌++◌, map, Some, refl, sym, ap, ◌∙◌, subst, if◌then◌else◌, arith}
use Rattle.std.specs.Prelude.{◌==◌, ◌&&◌, ◌||◌}
use Rattle.std.specs.Bool.{beq}
use Rattle.std.specs.List.{filter, flat_map, list_all, list_any}
use Rattle.l2_program.specs.declared.program.LoopInfo.{LoopInfo}
use Rattle.l2_meaning.specs.Rising.{Rise}
use Rattle.l2_templates.specs.declared.form.Form.{Form}
use Rattle.l2_templates.specs.declared.families.Family.{Family}
use Rattle.l2_templates.specs.declared.families.Family.TheVariants.{NoRows, Equalities, Intervals, Zones, Octagons}
use Rattle.l2_templates.specs.Forms.{stands_before}
use Rattle.l2_templates.specs.Domains.{one_signs, two_signs, single, pair, of_one, of_two, singles, with_later, pairs, forms, is_in, marked, row_list}
use Rattle.l2_fitting.specs.Fitting.{is_form_of}
use Rattle.l2_name_laws.proofs.Orders.{not_zero, is_itself, single_first, single_second, pair_first, pair_second, by_signs, Each, each_append, each_map, each_so, each_take, Ordered, AllBefore, all_before, ordered_append, ordered_take}

-- ---- forms of numbers that pass, one after another

abbrev picked : (ℕ → Bool) → (ℕ → List Form) → List ℕ → List Form
picked p h [] = []
picked p h (x ∷ xs) = if p x then h x ++ picked p h xs else picked p h xs

abbrev one : Family → ℕ → List Form
one family x = map (single x) (one_signs family)

abbrev two : Family → ℕ → ℕ → List Form
two family x y = map (pair x y) (two_signs family)

module _ (family : Family) (mods : List ℕ) where
  abbrev all_singles : List ℕ → List Form
  all_singles xs = picked (is_in mods) (one family) xs

  abbrev all_later : ℕ → List ℕ → List Form
  all_later x ys = picked (λ y. is_in mods x || is_in mods y) (two family x) ys

  abbrev all_pairs : List ℕ → List Form
  all_pairs [] = []
  all_pairs (x ∷ xs) = all_later x xs ++ all_pairs xs

  singles_same : (xs : List ℕ) → singles family (marked xs mods) ≡ all_singles xs
  singles_same [] = refl
  singles_same (x ∷ xs) = go (is_in mods x) (singles_same xs)
    where
      go : (b : Bool) → singles family (marked xs mods) ≡ all_singles xs
          → flat_map (of_one family) (if b then record { number = x; modified = is_in mods x } ∷ filter (λ v. v.modified) (marked xs mods) else filter (λ v. v.modified) (marked xs mods)) ≡ (if b then one family x ++ all_singles xs else all_singles xs)
      go true e = ap (λ ys. one family x ++ ys) e
      go false e = e

  later_same : (x : ℕ) (ys : List ℕ) → with_later family (record { number = x; modified = is_in mods x }) (marked ys mods) ≡ all_later x ys
  later_same x [] = refl
  later_same x (y ∷ ys) = go (is_in mods x || is_in mods y) (later_same x ys)
    where
      go : (b : Bool) → with_later family (record { number = x; modified = is_in mods x }) (marked ys mods) ≡ all_later x ys
          → flat_map (of_two family (record { number = x; modified = is_in mods x })) (if b then record { number = y; modified = is_in mods y } ∷ filter (λ w. is_in mods x || w.modified) (marked ys mods) else filter (λ w. is_in mods x || w.modified) (marked ys mods))
          ≡ (if b then two family x y ++ all_later x ys else all_later x ys)
      go true e = ap (λ zs. two family x y ++ zs) e
      go false e = e

  pairs_same : (xs : List ℕ) → pairs family (marked xs mods) ≡ all_pairs xs
  pairs_same [] = refl
  pairs_same (x ∷ xs) = λ i. later_same x xs i ++ pairs_same xs i

  forms_same : (xs : List ℕ) → forms family (marked xs mods) ≡ all_singles xs ++ all_pairs xs
  forms_same xs = λ i. singles_same xs i ++ pairs_same xs i

-- ---- rising numbers

-- from this number on
abbrev Up : ℕ → List ℕ → Type 0
Up n [] = Unit {0}
Up n (x ∷ xs) = (n ≤ x) × Up (suc x) xs

up_down : (n m : ℕ) (xs : List ℕ) → m ≤ n → Up n xs → Up m xs
up_down n m [] l h = tt
up_down n m (x ∷ xs) l h = (omega (arith, l, h.0), h.1)

up_later : (n x : ℕ) (xs : List ℕ) → n ≤ x → Up (suc x) xs → Up n xs
up_later n x xs l h = up_down (suc x) n xs (omega (arith, l)) h

above : (n : ℕ) (xs : List ℕ) → Up n xs → Each (λ x. n ≤ x) xs
above n [] h = tt
above n (x ∷ xs) h = (h.0, above n xs (up_later n x xs h.0 h.1))

-- ---- what holds of those that pass

each_picked : (P : Form → Type 0) (Q : ℕ → Type 0) (h : ℕ → List Form) (p : ℕ → Bool) (xs : List ℕ) → ((x : ℕ) → Q x → p x ≡ true → Each P (h x)) → Each Q xs → Each P (picked p h xs)
each_picked P Q h p [] f q = tt
each_picked P Q h p (x ∷ xs) f q = go (p x) refl (each_picked P Q h p xs f q.1)
  where
    go : (b : Bool) → p x ≡ b → Each P (picked p h xs) → Each P (if b then h x ++ picked p h xs else picked p h xs)
    go true e k = each_append P (h x) (picked p h xs) (f x q.0 e) k
    go false e k = k

ordered_picked : (h : ℕ → List Form) (p : ℕ → Bool) (n : ℕ) (xs : List ℕ) → ((x : ℕ) → n ≤ x → Ordered (h x))
    → ((x : ℕ) (rest : List ℕ) → n ≤ x → Up (suc x) rest → AllBefore (h x) (picked p h rest)) → Up n xs → Ordered (picked p h xs)
ordered_picked h p n [] o b u = tt
ordered_picked h p n (x ∷ xs) o b u = go (p x) (ordered_picked h p n xs o b (up_later n x xs u.0 u.1))
  where
    go : (t : Bool) → Ordered (picked p h xs) → Ordered (if t then h x ++ picked p h xs else picked p h xs)
    go true k = ordered_append (h x) (picked p h xs) (o x u.0) k (b x xs u.0 u.1)
    go false k = k

-- ---- forms of one variable

abbrev IsSingle : ℕ → Form → Type 0
IsSingle n f = (n ≤ f.first) × (f.second ≡ 0)

abbrev IsOnly : ℕ → Form → Type 0
IsOnly n f = (f.first ≡ n) × (f.second ≡ 0)

plus_first : (x : ℕ) → stands_before (single x true) (single x false) ≡ true
plus_first x = by_signs (single x true) (single x false) true refl refl refl refl refl

ordered_one : (family : Family) (x : ℕ) → Ordered (one family x)
ordered_one NoRows x = tt
ordered_one Equalities x = tt
ordered_one Intervals x = ((plus_first x, tt), (tt, tt))
ordered_one Zones x = ((plus_first x, tt), (tt, tt))
ordered_one Octagons x = ((plus_first x, tt), (tt, tt))

-- ---- forms of two

abbrev IsWith : ℕ → ℕ → Form → Type 0
IsWith x n f = (f.first ≡ x) × (n ≤ f.second)

abbrev IsBoth : ℕ → ℕ → Form → Type 0
IsBoth x y f = (f.first ≡ x) × (f.second ≡ y)

abbrev IsPair : ℕ → Form → Type 0
IsPair n f = (n ≤ f.first) × (0 < f.second)

module _ (x y : ℕ) (l : 0 < y) where
  sign : (s t : Bool × Bool) → (if not (beq s.0 t.0) then s.0 else s.1 && not t.1) ≡ true → stands_before (pair x y s) (pair x y t) ≡ true
  sign s t e = by_signs (pair x y s) (pair x y t) false (not_zero y l) (not_zero y l) refl refl e

  ordered_two : (family : Family) → Ordered (two family x y)
  ordered_two NoRows = tt
  ordered_two Equalities = ((sign (true, false) (false, true) refl, tt), (tt, tt))
  ordered_two Intervals = tt
  ordered_two Zones = ((sign (true, false) (false, true) refl, tt), (tt, tt))
  ordered_two Octagons = (
    (sign (true, true) (true, false) refl, (sign (true, true) (false, true) refl, (sign (true, true) (false, false) refl, tt))),
    ((sign (true, false) (false, true) refl, (sign (true, false) (false, false) refl, tt)), ((sign (false, true) (false, false) refl, tt), (tt, tt))),
  )

-- ---- all in order

module _ (family : Family) (mods : List ℕ) where
  singles_are : (n : ℕ) (xs : List ℕ) → Up n xs → Each (IsSingle n) (all_singles family mods xs)
  singles_are n xs u = each_picked (IsSingle n) (λ x. n ≤ x) (one family) (is_in mods) xs (λ x l e. each_map (IsSingle n) (single x) (one_signs family) (λ a. (l, refl))) (above n xs u)

  ordered_singles : (n : ℕ) (xs : List ℕ) → Up n xs → Ordered (all_singles family mods xs)
  ordered_singles n xs u =
      ordered_picked (one family) (is_in mods) n xs (λ x l. ordered_one family x)
      (λ x rest l k. all_before (IsOnly x) (IsSingle (suc x)) (one family x) (all_singles family mods rest) (λ f g a b. single_first f g a.1 b.1 (omega (arith, a.0, b.0)))
      (each_map (IsOnly x) (single x) (one_signs family) (λ a. (refl, refl))) (singles_are (suc x) rest k)) u

  later_are : (x n : ℕ) (ys : List ℕ) → Up n ys → Each (IsWith x n) (all_later family mods x ys)
  later_are x n ys u =
      each_picked (IsWith x n) (λ y. n ≤ y) (two family x) (λ y. is_in mods x || is_in mods y) ys (λ y l e. each_map (IsWith x n) (pair x y) (two_signs family) (λ s. (refl, l))) (above n ys u)

  ordered_later : (x n : ℕ) (ys : List ℕ) → Up (suc n) ys → Ordered (all_later family mods x ys)
  ordered_later x n ys u =
      ordered_picked (two family x) (λ y. is_in mods x || is_in mods y) (suc n) ys (λ y l. ordered_two x y (omega (arith, l)) family)
      (λ y rest l k. all_before (IsBoth x y) (IsWith x (suc y)) (two family x y) (all_later family mods x rest)
      (λ f g a b. pair_second f g (omega (arith, a.1, l)) (a.0 ∙ sym b.0) (omega (arith, a.1, b.1)))
      (each_map (IsBoth x y) (pair x y) (two_signs family) (λ s. (refl, refl))) (later_are x (suc y) rest k)) u

  pairs_are : (n : ℕ) (xs : List ℕ) → Up n xs → Each (IsPair n) (all_pairs family mods xs)
  pairs_are n [] u = tt
  pairs_are n (x ∷ xs) u =
      each_append (IsPair n) (all_later family mods x xs) (all_pairs family mods xs)
      (each_so (IsWith x (suc x)) (IsPair n) (all_later family mods x xs) (λ f a. (omega (arith, a.0, u.0), omega (arith, a.1))) (later_are x (suc x) xs u.1))
      (pairs_are n xs (up_later n x xs u.0 u.1))

  ordered_pairs : (n : ℕ) (xs : List ℕ) → Up n xs → Ordered (all_pairs family mods xs)
  ordered_pairs n [] u = tt
  ordered_pairs n (x ∷ xs) u =
      ordered_append (all_later family mods x xs) (all_pairs family mods xs) (ordered_later x x xs u.1) (ordered_pairs (suc x) xs u.1)
      (all_before (IsWith x (suc x)) (IsPair (suc x)) (all_later family mods x xs) (all_pairs family mods xs) (λ f g a b. pair_first f g (omega (arith, a.1)) b.1 (omega (arith, a.0, b.0)))
      (later_are x (suc x) xs u.1) (pairs_are (suc x) xs u.1))

  ordered_forms : (n : ℕ) (xs : List ℕ) → Up n xs → Ordered (all_singles family mods xs ++ all_pairs family mods xs)
  ordered_forms n xs u =
      ordered_append (all_singles family mods xs) (all_pairs family mods xs) (ordered_singles n xs u) (ordered_pairs n xs u)
      (all_before (IsSingle n) (IsPair n) (all_singles family mods xs) (all_pairs family mods xs) (λ f g a b. single_second f g a.1 b.1) (singles_are n xs u) (pairs_are n xs u))

-- ---- they are of the loop

or_true : (b : Bool) → (b || true) ≡ true
or_true true = refl
or_true false = refl

or_last : (a b : Bool) → (a || b) ≡ true → (a || (b || false)) ≡ true
or_last true b e = refl
or_last false true e = refl
or_last false false e = e

each_both : {A : Type 0} (P Q : A → Type 0) (xs : List A) → Each P xs → Each Q xs → Each (λ x. P x × Q x) xs
each_both P Q [] h k = tt
each_both P Q (x ∷ xs) h k = ((h.0, k.0), each_both P Q xs h.1 k.1)

module _ (loop : LoopInfo) where
  abbrev Known : ℕ → Type 0
  Known x = is_in loop.vars x ≡ true

  known_all : (xs : List ℕ) → ((n : ℕ) → is_in xs n ≡ true → is_in loop.vars n ≡ true) → Each Known xs
  known_all [] f = tt
  known_all (x ∷ xs) f = (f x (ap (λ b. b || is_in xs x) (is_itself x)), known_all xs (λ n e. f n (ap (λ t. (x == n) || t) e ∙ or_true (x == n))))

  abbrev Of : Form → Type 0
  Of f = is_form_of (Some loop) f ≡ true

  single_of : (x : ℕ) → Known x → is_in loop.mods x ≡ true → (a : Bool) → Of (single x a)
  single_of x k m a = (λ i. (k i && true) && (m i || false))

  pair_of : (x y : ℕ) → Known x → Known y → 0 < y → (is_in loop.mods x || is_in loop.mods y) ≡ true → (s : Bool × Bool) → Of (pair x y s)
  pair_of x y k j l e s =
      let m = or_last (is_in loop.mods x) (is_in loop.mods y) e in
      ap (λ b. list_all (is_in loop.vars) (if b then x ∷ [] else x ∷ y ∷ []) && list_any (is_in loop.mods) (if b then x ∷ [] else x ∷ y ∷ [])) (not_zero y l)
      ∙ (λ i. (k i && (j i && true)) && m i)

  pairs_of : (family : Family) (n : ℕ) (xs : List ℕ) → Up n xs → Each Known xs → Each Of (all_pairs family loop.mods xs)
  pairs_of family n [] u k = tt
  pairs_of family n (x ∷ xs) u k =
      each_append Of (all_later family loop.mods x xs) (all_pairs family loop.mods xs)
      (each_picked Of (λ y. (suc x ≤ y) × Known y) (two family x) (λ y. is_in loop.mods x || is_in loop.mods y) xs
      (λ y q e. each_map Of (pair x y) (two_signs family) (λ s. pair_of x y k.0 q.1 (omega (arith, q.0)) e s))
      (each_both (λ y. suc x ≤ y) Known xs (above (suc x) xs u.1) k.1))
      (pairs_of family (suc x) xs u.1 k.1)

  forms_of : (family : Family) (n : ℕ) (xs : List ℕ) → Up n xs → Each Known xs → Each Of (all_singles family loop.mods xs ++ all_pairs family loop.mods xs)
  forms_of family n xs u k =
      each_append Of (all_singles family loop.mods xs) (all_pairs family loop.mods xs)
      (each_picked Of Known (one family) (is_in loop.mods) xs (λ x q e. each_map Of (single x) (one_signs family) (λ a. single_of x q e a)) k)
      (pairs_of family n xs u k)

  -- ---- the rows of a loop whose variables rise

  abbrev First : ℕ → List ℕ → Type 0
  First n [] = Unit {0}
  First n (x ∷ xs) = n ≤ x

  rise_up : (n : ℕ) (xs : List ℕ) → Rise xs → First n xs → Up n xs
  rise_up n [] r f = tt
  rise_up n (x ∷ []) r f = (f, tt)
  rise_up n (x ∷ y ∷ rest) r f = (f, rise_up (suc x) (y ∷ rest) r.1 (omega (arith, r.0)))

  first_0 : (xs : List ℕ) → First 0 xs
  first_0 [] = tt
  first_0 (x ∷ xs) = omega arith

  pub rows_ordered : (family : Family) → Rise loop.vars → Ordered (row_list family loop.vars loop.mods)
  rows_ordered family r =
      ordered_take 1024 (forms family (marked loop.vars loop.mods)) (subst Ordered (sym (forms_same family loop.mods loop.vars)) (ordered_forms family loop.mods 0 loop.vars (rise_up 0 loop.vars r (first_0 loop.vars))))

  pub rows_of_loop : (family : Family) → Rise loop.vars → Each Of (row_list family loop.vars loop.mods)
  rows_of_loop family r =
      each_take Of 1024 (forms family (marked loop.vars loop.mods))
      (subst (Each Of) (sym (forms_same family loop.mods loop.vars)) (forms_of family 0 loop.vars (rise_up 0 loop.vars r (first_0 loop.vars)) (known_all loop.vars (λ n e. e))))
