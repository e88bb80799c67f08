-- The items of a list in rising order: the one list that rises and has them.
use Rattle.std.proofs.Common.{◌≡◌, ℕ, List, [], ◌∷◌, ◌⊎◌, inl, inr, refl, ap, sym, ◌∙◌, subst, arith, true}
use Rattle.std.specs.Prelude.{Bool, IsPermutation, IsSorted, Contains, zero, suc, ◌<◌}
use Rattle.std.specs.List.{AllByRecursion, dedup}
use Rattle.std.specs.List.Sorted.{IsStrictlySortedBy}
use Rattle.std.specs.Cmp.{IsTotalOrder, IsEquivalence, tied_itself, nat_cmp_total, ranks}
use Rattle.std.specs.Ordering.{ordering_reverse, eq_by_cmp, nat_cmp, MatchOrdering}
use Rattle.std.specs.declared.cmp.Ordering.{Ordering}
use Rattle.std.specs.declared.cmp.Ordering.TheVariants.{Less, Equal, Greater}
use Rattle.std.proofs.lemmas.List.Kept.{IsStrictlySortedBy-dedup, Contains-dedup, Contains-from_dedup}
use Rattle.std.proofs.lemmas.List.Sorted.{Contains-permutation, IsPermutation-sym}
use Rattle.l2_meaning.specs.Rising.{placed, with_item, in_order, rising}
use Rattle.l2_meaning.specs.Lawful.{IsIn}

abbrev pub In : {A : Type 0} → A → List A → Type 0
In z [] = ⊥
In z (x ∷ xs) = (z ≡ x) ⊎ In z xs

pub in_from_contains : {A : Type 0} (xs : List A) (z : A) → Contains xs z → In z xs
in_from_contains [] z (k, low, is) = absurd (omega arith)
in_from_contains (x ∷ xs) z (zero, low, is) = inl (sym is)
in_from_contains (x ∷ xs) z (suc k, low, is) = inr (in_from_contains xs z (k, omega arith, is))

pub contains_from_in : {A : Type 0} (xs : List A) (z : A) → In z xs → Contains xs z
contains_from_in [] z h = absurd h
contains_from_in (x ∷ xs) z (inl e) = (zero, omega arith, sym e)
contains_from_in (x ∷ xs) z (inr h) = let (k, low, is) = contains_from_in xs z h in (suc k, omega arith, is)

module _ {A : Type 0} (R : A → A → Ordering) (o : IsTotalOrder R) (equal : (x y : A) → R x y ≡ Equal → x ≡ y) where
  -- ---- the list rises

  pub all_with : (P : A → Type 0) (x : A) (ys : List A) → P x → AllByRecursion P ys → AllByRecursion P (with_item R x ys)
  all_with P x [] h all = (h, tt)
  all_with P x (y ∷ ys) h (first, rest) = go (R x y) (all_with P x ys h rest) where
    go : (r : Ordering) → AllByRecursion P (with_item R x ys) → AllByRecursion P (placed x y ys (with_item R x ys) r)
    go Less more = (h, (first, rest))
    go Equal more = (first, rest)
    go Greater more = (first, more)

  all_above : (x y : A) (ys : List A) → R x y ≡ Less → AllByRecursion (λ z. R y z ≡ Less) ys → AllByRecursion (λ z. R x z ≡ Less) ys
  all_above x y [] e all = tt
  all_above x y (z ∷ ys) e (first, rest) = (o.trans x y z e first, all_above x y ys e rest)

  strict_with : (x : A) (ys : List A) → IsStrictlySortedBy R ys → IsStrictlySortedBy R (with_item R x ys)
  unfolding IsStrictlySortedBy
  strict_with x [] h = (tt, tt)
  strict_with x (y ∷ ys) h = go (R x y) refl (strict_with x ys h.1) where
    go : (r : Ordering) → R x y ≡ r → IsStrictlySortedBy R (with_item R x ys) → IsStrictlySortedBy R (placed x y ys (with_item R x ys) r)
    go Less e more = ((e, all_above x y ys e h.0), h)
    go Equal e more = h
    go Greater e more = (all_with (λ z. R y z ≡ Less) x ys (o.antisymm y x ∙ ap ordering_reverse e) h.0, more)

  pub strict_in_order : (xs : List A) → IsStrictlySortedBy R (in_order R xs)
  unfolding IsStrictlySortedBy
  strict_in_order [] = tt
  strict_in_order (x ∷ xs) = strict_with x (in_order R xs) (strict_in_order xs)

  -- ---- it has the items

  in_with : (z x : A) (ys : List A) → (z ≡ x) ⊎ In z ys → In z (with_item R x ys)
  in_with z x [] h = h
  in_with z x (y ∷ ys) h = go (R x y) refl (in_with z x ys) h where
    go : (r : Ordering) → R x y ≡ r → ((z ≡ x) ⊎ In z ys → In z (with_item R x ys)) → (z ≡ x) ⊎ In z (y ∷ ys) → In z (placed x y ys (with_item R x ys) r)
    go Less e more h = h
    go Equal e more (inl s) = inl (s ∙ equal x y e)
    go Equal e more (inr h) = h
    go Greater e more (inl s) = inr (more (inl s))
    go Greater e more (inr (inl s)) = inl s
    go Greater e more (inr (inr h)) = inr (more (inr h))

  with_has : (z x : A) (ys : List A) → In z (with_item R x ys) → (z ≡ x) ⊎ In z ys
  with_has z x [] h = h
  with_has z x (y ∷ ys) h = go (R x y) (with_has z x ys) h where
    later : (z ≡ x) ⊎ In z ys → (z ≡ x) ⊎ In z (y ∷ ys)
    later (inl s) = inl s
    later (inr h) = inr (inr h)

    go : (r : Ordering) → (In z (with_item R x ys) → (z ≡ x) ⊎ In z ys) → In z (placed x y ys (with_item R x ys) r) → (z ≡ x) ⊎ In z (y ∷ ys)
    go Less more h = h
    go Equal more h = inr h
    go Greater more (inl s) = inr (inl s)
    go Greater more (inr h) = later (more h)

  pub in_in_order : (z : A) (xs : List A) → In z xs → In z (in_order R xs)
  in_in_order z [] h = h
  in_in_order z (x ∷ xs) (inl e) = in_with z x (in_order R xs) (inl e)
  in_in_order z (x ∷ xs) (inr h) = in_with z x (in_order R xs) (inr (in_in_order z xs h))

  pub in_order_has : (z : A) (xs : List A) → In z (in_order R xs) → In z xs
  in_order_has z [] h = h
  in_order_has z (x ∷ xs) h = go (in_order_has z xs) (with_has z x (in_order R xs) h) where
    go : (In z (in_order R xs) → In z xs) → (z ≡ x) ⊎ In z (in_order R xs) → In z (x ∷ xs)
    go more (inl e) = inl e
    go more (inr k) = inr (more k)

  -- ---- it is the only one

  above_all : (P : A → Type 0) (z : A) (ys : List A) → AllByRecursion P ys → In z ys → P z
  above_all P z [] all h = absurd h
  above_all P z (y ∷ ys) (first, rest) (inl e) = subst P (sym e) first
  above_all P z (y ∷ ys) (first, rest) (inr h) = above_all P z ys rest h

  not_both : (x y : A) → R x y ≡ Less → R y x ≡ Less → ⊥
  not_both x y e f = let g : Less ≡ Greater = sym e ∙ o.antisymm x y ∙ ap ordering_reverse f in absurd (cc)

  first_same : (x y : A) (xs ys : List A) → AllByRecursion (λ z. R x z ≡ Less) xs → AllByRecursion (λ z. R y z ≡ Less) ys → In x (y ∷ ys) → In y (x ∷ xs) → x ≡ y
  first_same x y xs ys up above (inl e) k = e
  first_same x y xs ys up above (inr h) (inl e) = sym e
  first_same x y xs ys up above (inr h) (inr k) = absurd (not_both x y (above_all (λ z. R x z ≡ Less) y xs up k) (above_all (λ z. R y z ≡ Less) x ys above h))

  not_itself : (z x : A) (xs : List A) → AllByRecursion (λ z. R x z ≡ Less) xs → In z xs → z ≡ x → ⊥
  not_itself z x xs up h e =
      let g : Less ≡ Equal = sym (above_all (λ z. R x z ≡ Less) z xs up h) ∙ ap (R x) e ∙ tied_itself o x in
      absurd (cc)

  behind_first : (z x y : A) (xs ys : List A) → x ≡ y → AllByRecursion (λ z. R x z ≡ Less) xs → In z xs → In z (y ∷ ys) → In z ys
  behind_first z x y xs ys e up h (inl s) = absurd (not_itself z x xs up h (s ∙ sym e))
  behind_first z x y xs ys e up h (inr k) = k

  pub same_items : (xs ys : List A) → IsStrictlySortedBy R xs → IsStrictlySortedBy R ys → ((z : A) → In z xs → In z ys) → ((z : A) → In z ys → In z xs) → xs ≡ ys
  unfolding IsStrictlySortedBy
  same_items [] [] h k f g = refl
  same_items [] (y ∷ ys) h k f g = absurd (g y (inl refl))
  same_items (x ∷ xs) [] h k f g = absurd (f x (inl refl))
  same_items (x ∷ xs) (y ∷ ys) h k f g =
      let e = first_same x y xs ys h.0 k.0 (f x (inl refl)) (g y (inl refl)) in
      let rest = same_items xs ys h.1 k.1 (λ z i. behind_first z x y xs ys e h.0 i (f z (inr i))) (λ z i. behind_first z y x ys xs (sym e) k.0 i (g z (inr i))) in
      ap (λ w. w ∷ xs) e ∙ ap (λ ws. y ∷ ws) rest

  -- ---- what a sort without its repetitions leaves

  pub sorted_is : (E : A → A → Bool) → IsEquivalence E → ((x y : A) → E x y ≡ eq_by_cmp R x y) → ((x y : A) → E x y ≡ true → x ≡ y) → (xs ys : List A) → IsPermutation xs ys → IsSorted R ys → dedup E ys ≡ in_order R xs
  sorted_is E e ties decides xs ys moved sorted =
      same_items (dedup E ys) (in_order R xs) (IsStrictlySortedBy-dedup o ties ys sorted) (strict_in_order xs)
      (λ z h. in_in_order z xs (in_from_contains xs z (Contains-permutation ys xs z (IsPermutation-sym xs ys moved) (Contains-from_dedup E ys z (contains_from_in (dedup E ys) z h)))))
      (λ z h. in_from_contains (dedup E ys) z (Contains-dedup e decides ys z (Contains-permutation xs ys z moved (contains_from_in xs z (in_order_has z xs h)))))

-- ---- numbers

pub equal_numbers : (x y : ℕ) → nat_cmp x y ≡ Equal → x ≡ y
equal_numbers x y e = subst (λ r. MatchOrdering r (x < y) (x ≡ y) (y < x)) e (ranks x y)

in_from_is_in : (n : ℕ) (ns : List ℕ) → IsIn n ns → In n ns
in_from_is_in n [] h = h
in_from_is_in n (m ∷ ns) (inl e) = inl e
in_from_is_in n (m ∷ ns) (inr h) = inr (in_from_is_in n ns h)

is_in_from_in : (n : ℕ) (ns : List ℕ) → In n ns → IsIn n ns
is_in_from_in n [] h = h
is_in_from_in n (m ∷ ns) (inl e) = inl e
is_in_from_in n (m ∷ ns) (inr h) = inr (is_in_from_in n ns h)

-- what is in a list is in it where it rises
pub in_rising : (n : ℕ) (ns : List ℕ) → IsIn n ns → IsIn n (rising ns)
in_rising n ns h = is_in_from_in n (rising ns) (in_in_order nat_cmp nat_cmp_total equal_numbers n ns (in_from_is_in n ns h))

pub rising_has : (n : ℕ) (ns : List ℕ) → IsIn n (rising ns) → IsIn n ns
rising_has n ns h = is_in_from_in n ns (in_order_has nat_cmp nat_cmp_total equal_numbers n ns (in_from_is_in n (rising ns) h))
