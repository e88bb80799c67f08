-- A supply's choices as values of names, and that they match the supply.
use Rattle.std.proofs.Common.{◌≡◌, ℕ, zero, suc, ◌<◌, ◌≤◌, Bool, true, false, not, ◌==◌, if◌then◌else◌, ℤ, pos, negsuc, nat_abs, nat_le, List, [], ◌∷◌, length, Option, Some, None, IfSome, refl, sym, ap, ◌∙◌, subst, arith, slice_index_or}
use Rattle.std.specs.Ordering.{int_eq}
use Rattle.std.proofs.lemmas.Int.{ints}
use Rattle.std.proofs.lemmas.Bool.Decides.{nat_tests}
use Rattle.l2_bits.specs.Values.{IsValue, wrap}
use Rattle.l2_bits.proofs.Wraps.{wrap_value}
use Rattle.l2_meaning.proofs.Numbers.{zero_value}
use Rattle.l2_runs.specs.declared.cells.CellValue.{CellValue}
use Rattle.l2_runs.specs.declared.cells.CellValue.TheVariants.{Number, Null, Invalid, At}
use Rattle.l2_runs.specs.Fits.{Layout}
use Rattle.l2_runs.specs.Back.{pointer_of, where_so}
use Rattle.l2_code.specs.Modes.{types_of}
use Rattle.l2_supply.specs.Supply.{Supply, left, right, number_of}
use Rattle.l2_ssa.specs.Steps.{Step, Choose, Take, Half, Point, Among, Compute, Alive, Pick, Row, Lower, Apart, Both, But, Either, Merge, Names, bit, number_in}
use Rattle.l2_ssa.specs.Walks as walks
use Rattle.l2_ssa.specs.Walks.{Kind, Given, nothing, entering, chosen, taken, halves, pair, past, F}
use Rattle.l2_ssa.specs.Law.{setting_of, first_walk, ssa, Matches}
use Rattle.l2_blast_laws.specs.Law.{IsChosen, AreChosen, IsMet, AreMet}
use Rattle.l2_given_steps.specs.Law as law
use Rattle.l2_ssa_laws.specs.Entering.{HasCells, Enters}
use Rattle.l2_given_steps.specs.Law.{IsFew}
use Rattle.l2_given_steps.proofs.Givens.{AreAt, Stands, nodes_fine}

-- ---- halves of pointers

-- a number, or another one where there is no pointer
abbrev half_of : Option CellValue → ℤ → ℕ → ℕ
half_of None z d = d
half_of (Some v) z d = nat_abs z

zero_is : (z : ℤ) → int_eq z (pos 0) ≡ true → z ≡ pos 0
zero_is z e = grind (arith, ints)

module _ (cells : Layout) (few : IsFew cells) where
  record Fits (o : Option CellValue) (sel off : ℤ) : Type 0 where
    pub same : pointer_of cells (pos (half_of o sel 0)) (pos (half_of o off 1)) ≡ o
    pub first : half_of o sel 0 < 131072
    pub second : half_of o off 1 < 131072

  none_fits : (sel off : ℤ) → Fits None sel off
  none_fits sel off = record { same = refl; first = omega arith; second = omega arith }

  fits : (sel off : ℤ) → IfSome (pointer_of cells sel off) (HasCells cells) → Fits (pointer_of cells sel off) sel off
  fits (pos zero) off h = go (int_eq off (pos 0)) refl
    where
      go : (b : Bool) → int_eq off (pos 0) ≡ b → Fits (where_so Null b) (pos 0) off
      go true e = subst (λ z. Fits (Some Null) (pos 0) z) (sym (zero_is off e)) (record { same = refl; first = omega arith; second = omega arith })
      go false e = none_fits (pos 0) off
  fits (pos (suc zero)) off h = go (int_eq off (pos 0)) refl
    where
      go : (b : Bool) → int_eq off (pos 0) ≡ b → Fits (where_so Invalid b) (pos 1) off
      go true e = subst (λ z. Fits (Some Invalid) (pos 1) z) (sym (zero_is off e)) (record { same = refl; first = omega arith; second = omega arith })
      go false e = none_fits (pos 1) off
  fits (pos (suc (suc n))) (pos f) h = go (nat_le f (length (cells (suc n)))) refl h
    where
      go : (b : Bool) → nat_le f (length (cells (suc n))) ≡ b → IfSome (where_so (At (suc n) f) b) (HasCells cells) → Fits (where_so (At (suc n) f) b) (pos (suc (suc n))) (pos f)
      go true e k =
          let some : 0 < length (cells (suc n)) = k (suc n) f refl in
          let least : suc n ≤ 131070 = few.few (suc n) some in
          let short : length (cells (suc n)) ≤ 65536 = few.short (suc n) in
          let low : f ≤ length (cells (suc n)) = grind (arith, nat_tests) in
          record { same = ap (where_so (At (suc n) f)) e; first = omega (arith, least); second = omega (arith, short, low) }
      go false e k = none_fits (pos (suc (suc n))) (pos f)
  fits (pos (suc (suc n))) (negsuc f) h = none_fits (pos (suc (suc n))) (negsuc f)
  fits (negsuc n) off h = none_fits (negsuc n) off

  abbrev named : Supply → Option CellValue
  named u = pointer_of cells (number_of (left u)) (number_of (left (right u)))

  abbrev sel_of : Supply → ℕ
  sel_of u = half_of (named u) (number_of (left u)) 0

  abbrev off_of : Supply → ℕ
  off_of u = half_of (named u) (number_of (left (right u))) 1

  -- ---- values of names

  abbrev or_else : Option CellValue → Option CellValue → Option CellValue
  or_else None y = y
  or_else (Some v) y = Some v

  abbrev look : Given → Supply → ℕ → Option CellValue
  look nothing u i = None
  look entering u i = None
  look (chosen g n) u i = if i == n then Some (bit (not (int_eq (number_of u) (pos 0)))) else None
  look (taken g n ty) u i = if i == n then Some (Number (wrap ty (number_of u))) else None
  look (halves g n) u i = if i == n then Some (Number (pos (sel_of u))) else (if i == suc n then Some (Number (pos (off_of u))) else None)
  look (pair x y) u i = or_else (look x (left u) i) (look y (right u) i)

  abbrev or_zero : Option CellValue → CellValue
  or_zero None = Number (pos 0)
  or_zero (Some v) = v

  -- what a choice may be, by its step
  abbrev Chosen : Step → CellValue → Type 0
  Chosen (Choose g) v = (b : Bool) × (v ≡ bit b)
  Chosen (Take g ty) v = (z : ℤ) × (v ≡ Number z) × IsValue ty z
  Chosen (Half g) v = (k : ℕ) × (v ≡ Number (pos k)) × (k < 131072)
  Chosen x v = Unit {0}

  zero_chosen : (x : Step) → Chosen x (Number (pos 0))
  zero_chosen (Choose g) = (false, refl)
  zero_chosen (Take g ty) = (pos 0, refl, zero_value ty)
  zero_chosen (Half g) = (0, refl, omega arith)
  zero_chosen (Point g a b) = tt
  zero_chosen (Among g a b set) = tt
  zero_chosen (Compute g c set) = tt
  zero_chosen (Alive g a fs) = tt
  zero_chosen (Pick g a o f ty x y) = tt
  zero_chosen (Row g l i vs) = tt
  zero_chosen (Lower g l a b) = tt
  zero_chosen (Apart g a b) = tt
  zero_chosen (Both a b) = tt
  zero_chosen (But a b) = tt
  zero_chosen (Either a b) = tt
  zero_chosen (Merge g h ty x y) = tt

  is_chosen : (s : Names) (n : ℕ) (x : Step) → Chosen x (s n) → IsChosen s n x
  is_chosen s n (Choose g) h = h
  is_chosen s n (Take g ty) h = h
  is_chosen s n (Half g) h = h
  is_chosen s n (Point g a b) h = tt
  is_chosen s n (Among g a b set) h = tt
  is_chosen s n (Compute g c set) h = tt
  is_chosen s n (Alive g a fs) h = tt
  is_chosen s n (Pick g a o f ty x y) h = tt
  is_chosen s n (Row g l i vs) h = tt
  is_chosen s n (Lower g l a b) h = tt
  is_chosen s n (Apart g a b) h = tt
  is_chosen s n (Both a b) h = tt
  is_chosen s n (But a b) h = tt
  is_chosen s n (Either a b) h = tt
  is_chosen s n (Merge g h ty x y) k = tt

  equal_is : (i n : ℕ) → (i == n) ≡ true → i ≡ n
  equal_is i n e = grind (arith, nat_tests)

  self : (n : ℕ) → (n == n) ≡ true
  self n = grind (arith, nat_tests)

  next_apart : (n : ℕ) → (suc n == n) ≡ false
  next_apart n = grind (arith, nat_tests)

  some_is : (v w : CellValue) → Some v ≡ Some w → v ≡ w
  some_is v w e = cc

  none_some : (w : CellValue) → None ≡ Some w → ⊥
  none_some w e = cc

  module _ (at : ℕ → Step) where
    -- a name that is found is one of these, and its value may be its choice
    record Found (lo hi i : ℕ) (v : CellValue) : Type 0 where
      pub chosen_is : Chosen (at i) v
      pub low : lo ≤ i
      pub high : i < hi

    one_found : (lo hi n i : ℕ) (x : Step) (v w : CellValue) → lo ≤ n → n < hi → at n ≡ x → Chosen x v → i ≡ n → v ≡ w → Found lo hi i w
    one_found lo hi n i x v w l h e k is same = record {
      chosen_is = subst (λ y. Chosen y w) (sym (ap at is ∙ e)) (subst (Chosen x) same k);
      low = omega (arith, l, is);
      high = omega (arith, h, is);
    }

    found : (lo hi : ℕ) (x : Given) (u : Supply) → Stands at lo hi x → Enters cells x u → (i : ℕ) (v : CellValue) → look x u i ≡ Some v → Found lo hi i v
    found lo hi nothing u s h i v e = absurd (none_some v e)
    found lo hi entering u s h i v e = absurd (none_some v e)
    found lo hi (chosen g n) u (l, k, is) h i v e = go (i == n) refl e
      where
        go : (b : Bool) → (i == n) ≡ b → (if b then Some (bit (not (int_eq (number_of u) (pos 0)))) else None) ≡ Some v → Found lo hi i v
        go true t e = one_found lo hi n i (Choose g) (bit (not (int_eq (number_of u) (pos 0)))) v l k is (not (int_eq (number_of u) (pos 0)), refl) (equal_is i n t) (some_is (bit (not (int_eq (number_of u) (pos 0)))) v e)
        go false t e = absurd (none_some v e)
    found lo hi (taken g n ty) u (l, k, is) h i v e = go (i == n) refl e
      where
        go : (b : Bool) → (i == n) ≡ b → (if b then Some (Number (wrap ty (number_of u))) else None) ≡ Some v → Found lo hi i v
        go true t e = one_found lo hi n i (Take g ty) (Number (wrap ty (number_of u))) v l k is (wrap ty (number_of u), refl, wrap_value ty (number_of u)) (equal_is i n t) (some_is (Number (wrap ty (number_of u))) v e)
        go false t e = absurd (none_some v e)
    found lo hi (halves g n) u (l, k, is, it) h i v e = go (i == n) (i == suc n) refl refl e
      where
        fit : Fits (named u) (number_of (left u)) (number_of (left (right u)))
        fit = fits (number_of (left u)) (number_of (left (right u))) h

        go : (b d : Bool) → (i == n) ≡ b → (i == suc n) ≡ d → (if b then Some (Number (pos (sel_of u))) else (if d then Some (Number (pos (off_of u))) else None)) ≡ Some v → Found lo hi i v
        go true d t r e = one_found lo hi n i (Half g) (Number (pos (sel_of u))) v l (omega (arith, k)) is (sel_of u, refl, fit.first) (equal_is i n t) (some_is (Number (pos (sel_of u))) v e)
        go false true t r e = one_found lo hi (suc n) i (Half g) (Number (pos (off_of u))) v (omega (arith, l)) k it (off_of u, refl, fit.second) (equal_is i (suc n) r) (some_is (Number (pos (off_of u))) v e)
        go false false t r e = absurd (none_some v e)
    found lo hi (pair x y) u (mid, l, k, p, q) h i v e = go (look x (left u) i) refl e (found lo mid x (left u) p h.0 i) (found mid hi y (right u) q h.1 i v)
      where
        go : (o : Option CellValue) → look x (left u) i ≡ o → or_else o (look y (right u) i) ≡ Some v → ((w : CellValue) → look x (left u) i ≡ Some w → Found lo mid i w) → (look y (right u) i ≡ Some v → Found mid hi i v) → Found lo hi i v
        go None a e first second = let r = second e in let low = r.low in record { chosen_is = r.chosen_is; low = omega (arith, l, low); high = r.high }
        go (Some w) a e first second =
            let r = first w a in
            let high = r.high in
            record { chosen_is = subst (Chosen (at i)) (some_is w v e) r.chosen_is; low = r.low; high = omega (arith, k, high) }

    -- ---- matching

    met_at : (choices s : Names) (xs : List Step) (n : ℕ) → AreAt at n xs → AreMet choices s n xs → (i : ℕ) → n ≤ i → i < past n xs → IsMet choices s i (at i)
    met_at choices s [] n h m i l k = absurd (omega (arith, l, k))
    met_at choices s (x ∷ xs) n h m i l k = go (i == n) refl (λ a. met_at choices s xs (suc n) h.1 m.1 i a k)
      where
        go : (b : Bool) → (i == n) ≡ b → (suc n ≤ i → IsMet choices s i (at i)) → IsMet choices s i (at i)
        go true t rest = subst (λ j. IsMet choices s j (at j)) (sym (equal_is i n t)) (subst (IsMet choices s n) (sym h.0) m.0)
        go false t rest = rest (grind (arith, nat_tests))

    module _ (choices s : Names) where
      matches : (x : Given) (u : Supply) (lo hi : ℕ) → Stands at lo hi x → Enters cells x u → ((i : ℕ) (v : CellValue) → lo ≤ i → i < hi → look x u i ≡ Some v → choices i ≡ v) → ((i : ℕ) → lo ≤ i → i < hi → IsMet choices s i (at i)) → Matches cells s x u
      matches nothing u lo hi st h agrees met = tt
      matches entering u lo hi st h agrees met = h
      matches (chosen g n) u lo hi (l, k, is) h agrees met = λ path.
          let v = bit (not (int_eq (number_of u) (pos 0))) in
          subst (IsMet choices s n) is (met n l k) path ∙ agrees n v l k (ap (λ b. if b then Some v else None) (self n))
      matches (taken g n ty) u lo hi (l, k, is) h agrees met = λ path.
          let v = Number (wrap ty (number_of u)) in
          subst (IsMet choices s n) is (met n l k) path ∙ agrees n v l k (ap (λ b. if b then Some v else None) (self n))
      matches (halves g n) u lo hi (l, k, is, it) h agrees met = λ path.
          let a = Number (pos (sel_of u)) in
          let z = Number (pos (off_of u)) in
          let first : s n ≡ a = subst (IsMet choices s n) is (met n l (omega (arith, k))) path ∙ agrees n a l (omega (arith, k)) (ap (λ b. if b then Some a else (if n == suc n then Some z else None)) (self n)) in
          let second : s (suc n) ≡ z = subst (IsMet choices s (suc n)) it (met (suc n) (omega (arith, l)) k) path ∙ agrees (suc n) z (omega (arith, l)) k (ap (λ b. if b then Some a else (if suc n == suc n then Some z else None)) (next_apart n) ∙ ap (λ b. if b then Some z else None) (self (suc n))) in
          ap (λ v. pointer_of cells (number_in v) (number_in (s (suc n)))) first ∙ ap (λ v. pointer_of cells (pos (sel_of u)) (number_in v)) second ∙ (fits (number_of (left u)) (number_of (left (right u))) h).same
      matches (pair x y) u lo hi (mid, l, k, p, q) h agrees met = (
        matches x (left u) lo mid p h.0 (λ i v a b e. agrees i v a (omega (arith, b, k)) (ap (λ o. or_else o (look y (right u) i)) e)) (λ i a b. met i a (omega (arith, b, k))),
        matches y (right u) mid hi q h.1 (λ i v a b e. agrees i v (omega (arith, a, l)) b (behind i v a e (look x (left u) i) refl (found lo mid x (left u) p h.0 i))) (λ i a b. met i (omega (arith, a, l)) b),
      )
        where
          -- what is found in the second part isn't in the first
          behind : (i : ℕ) (v : CellValue) → mid ≤ i → look y (right u) i ≡ Some v → (o : Option CellValue) → look x (left u) i ≡ o → ((w : CellValue) → look x (left u) i ≡ Some w → Found lo mid i w) → or_else (look x (left u) i) (look y (right u) i) ≡ Some v
          behind i v a e None is first = ap (λ o. or_else o (look y (right u) i)) is ∙ e
          behind i v a e (Some w) is first = let r = first w is in let high = r.high in absurd (omega (arith, a, high))

    all_chosen : (choices : Names) → ((i : ℕ) → Chosen (at i) (choices i)) → (xs : List Step) (n : ℕ) → AreAt at n xs → AreChosen choices n xs
    all_chosen choices h [] n a = tt
    all_chosen choices h (x ∷ xs) n a = (is_chosen choices n x (subst (λ y. Chosen y (choices n)) a.0 (h n)), all_chosen choices h xs (suc n) a.1)

    at_name : (x : Given) (u : Supply) (hi : ℕ) → Stands at 0 hi x → Enters cells x u → (i : ℕ) (o : Option CellValue) → look x u i ≡ o → Chosen (at i) (or_zero o)
    at_name x u hi s h i None e = zero_chosen (at i)
    at_name x u hi s h i (Some v) e = (found 0 hi x u s h i v e).chosen_is

-- ---- the law

abbrev plus : ℕ → ℕ → ℕ
plus o zero = o
plus o (suc i) = plus (suc o) i

plus_suc : (o i : ℕ) → plus (suc o) i ≡ suc (plus o i)
plus_suc o zero = refl
plus_suc o (suc i) = plus_suc (suc o) i

plus_zero : (i : ℕ) → plus 0 i ≡ i
plus_zero zero = refl
plus_zero (suc i) = plus_suc 0 i ∙ ap suc (plus_zero i)

all_at : (at : ℕ → Step) (xs : List Step) (n : ℕ) → ((i : ℕ) → at (plus n i) ≡ slice_index_or xs i (Choose F)) → AreAt at n xs
all_at at [] n h = tt
all_at at (x ∷ xs) n h = (h 0, all_at at xs (suc n) (λ i. h (suc i)))

pub choices_match : law.ChoicesMatch
choices_match c f few k kind ranks u enters =
    let o = ssa c f k kind ranks in
    let cells = (types_of c).objects in
    let at : ℕ → Step = λ i. slice_index_or o.steps i (Choose F) in
    let there = all_at at o.steps 0 (λ i. ap at (plus_zero i)) in
    let stands = nodes_fine at (setting_of c f k kind ranks) c.body [] walks.T 0 (first_walk c) there in
    let choices : Names = λ i. or_zero cells few (look cells few o.given u i) in
    let each : (i : ℕ) (x : Option CellValue) → look cells few o.given u i ≡ x → Chosen cells few (at i) (or_zero cells few x) = λ i x e. at_name cells few at o.given u (past 0 o.steps) stands enters i x e in (
      choices,
      all_chosen cells few at choices (λ i. each i (look cells few o.given u i) refl) o.steps 0 there,
      λ s met. matches cells few at choices s o.given u 0 (past 0 o.steps) stands enters (λ i v a b e. ap (or_zero cells few) e) (met_at cells few at choices s o.steps 0 there met),
    )
