-- Keys that are references, as what they point to.
use Rattle.std.proofs.Common.{◌<◌, get_or, ◌≡◌, ℕ, ◌+◌, Bool, true, false, not, ◌||◌, cond, List, [], ◌∷◌, ◌++◌, append_assoc, map, drop, length, Some, None, nat_lt, arith, refl, sym, ap, ◌∙◌}
use Rattle.std.proofs.lemmas.List.{map-append, drop_more}
use Rattle.std.proofs.lemmas.Option.{slice_get_within, get_or_from_slice_get}
use Rattle.std.specs.List.{list_any, position, position_or_len, slice_get}
use Rattle.std.proofs.lemmas.List.Sums.{prefix_len-le-length}

module _ {A B : Type 0} (f : A → B) (p : B → Bool) where
  pub any_map : (xs : List A) → list_any (λ x. p (f x)) xs ≡ list_any p (map f xs)
  any_map [] = refl
  any_map (x ∷ xs) = ap (λ b. p (f x) || b) (any_map xs)

  pub position_map : (xs : List A) → position_or_len (λ x. p (f x)) xs ≡ position_or_len p (map f xs)
  position_map [] = refl
  position_map (x ∷ xs) = ap (λ n. cond (not (p (f x))) (1 + n) 0) (position_map xs)

  map_cond : (b : Bool) (xs : List A) (y : A) → map f (cond b xs (xs ++ y ∷ [])) ≡ cond b (map f xs) (map f xs ++ f y ∷ [])
  map_cond true xs y = refl
  map_cond false xs y = map-append f xs (y ∷ [])

  pub insert_map : (xs : List A) (y : A) → map f (cond (list_any (λ x. p (f x)) xs) xs (xs ++ y ∷ [])) ≡ cond (list_any p (map f xs)) (map f xs) (map f xs ++ f y ∷ [])
  insert_map xs y = map_cond (list_any (λ x. p (f x)) xs) xs y ∙ ap (λ b. cond b (map f xs) (map f xs ++ f y ∷ [])) (any_map xs)

-- one more key taken over
module _ {A B C : Type 0} (f : A → B) (g : C → B) where
  pub took_key : (keys : List A) (i : ℕ) (k : A) (before after : List C) (c : C) → slice_get keys i ≡ Some k → after ≡ before ++ c ∷ [] → g c ≡ f k → map g before ++ map f (drop i keys) ≡ map f keys → map g after ++ map f (drop (i + 1) keys) ≡ map f keys
  took_key keys i k before after c s a e h =
      let d : drop i keys ≡ k ∷ drop (i + 1) keys = drop_more keys i k (slice_get_within keys i k s) ∙ ap (λ x. x ∷ drop (i + 1) keys) (get_or_from_slice_get keys i k k s) in
      ap (λ x. map g x ++ map f (drop (i + 1) keys)) a ∙ ap (λ x. x ++ map f (drop (i + 1) keys)) (map-append g before (c ∷ []))
      ∙ append_assoc (map g before) (g c ∷ []) (map f (drop (i + 1) keys)) ∙ ap (λ y. map g before ++ (y ∷ map f (drop (i + 1) keys))) e ∙ ap (λ x. map g before ++ map f x) (sym d) ∙ h

-- where no item passes, and where one does
module _ {A : Type 0} (p : A → Bool) (xs : List A) where
  absent_at : (b : Bool) → nat_lt (position_or_len p xs) (length xs) ≡ b → None ≡ cond b (Some (position_or_len p xs)) None → position_or_len p xs ≡ length xs
  absent_at true t e = absurd (never e)
    where
      never : {n : ℕ} → None ≡ Some n → ⊥
      never h = cc
  absent_at false t e = let b = prefix_len-le-length (λ x. not (p x)) xs in grind arith

  pub absent : None ≡ position p xs → position_or_len p xs ≡ length xs
  absent e = absent_at (nat_lt (position_or_len p xs) (length xs)) refl e

  present_at : (i : ℕ) (b : Bool) → Some i ≡ cond b (Some (position_or_len p xs)) None → i ≡ position_or_len p xs
  present_at i true e = cc
  present_at i false e = absurd (never e)
    where
      never : {n : ℕ} → Some n ≡ None → ⊥
      never h = cc

  pub present : (i : ℕ) → Some i ≡ position p xs → i ≡ position_or_len p xs
  present i e = present_at i (nat_lt (position_or_len p xs) (length xs)) e

-- a walk along a list that looks for an item
module _ {A : Type 0} (F : List A → Bool) (p : A → Bool) (grows : (x : A) (xs : List A) → F (x ∷ xs) ≡ cond (p x) true (F xs)) where
  walked : (xs : List A) (i : ℕ) (d : A) (r : Bool) → i < length xs → r ≡ p (get_or xs i d) → F (drop i xs) ≡ cond r true (F (drop (i + 1) xs))
  walked xs i d r l e = ap F (drop_more xs i d l) ∙ grows (get_or xs i d) (drop (i + 1) xs) ∙ ap (λ (b : Bool). cond b true (F (drop (i + 1) xs))) (sym e)

  pub found_at : (xs : List A) (i : ℕ) (d : A) (r : Bool) → i < length xs → r ≡ p (get_or xs i d) → r ≡ true → F (drop i xs) ≡ true
  found_at xs i d r l e t = walked xs i d r l e ∙ ap (λ (b : Bool). cond b true (F (drop (i + 1) xs))) t

  pub passed_at : (xs : List A) (i : ℕ) (d : A) (r : Bool) → i < length xs → r ≡ p (get_or xs i d) → r ≡ false → F (drop i xs) ≡ F (drop (i + 1) xs)
  passed_at xs i d r l e t = walked xs i d r l e ∙ ap (λ (b : Bool). cond b true (F (drop (i + 1) xs))) t
