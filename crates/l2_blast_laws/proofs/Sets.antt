-- The members of a set, listed.
use Rattle.std.proofs.Common.{◌≡◌, ℕ, zero, suc, ◌+◌, ◌≤◌, ◌<◌, Bool, true, false, refl, sym, ap, ◌∙◌, subst, List, [], ◌∷◌, ◌++◌, length, cond, arith}
use Rattle.std.specs.Prelude.{◌||◌, ◌&&◌, ◌==◌}
use Rattle.std.proofs.lemmas.Bool.{eqb-true}
use Rattle.l2_runs.specs.declared.member.Member.{Member}
use Rattle.l2_runs.specs.declared.member.Member.TheVariants.{Null, Invalid, Object}
use Rattle.l2_runs.specs.Members.{same_member, has}
use Rattle.l2_runs.specs.Fits.{Layout}
use Rattle.l2_blast.specs.Sorts.{IsSet}
use Rattle.l2_blast.specs.Words.{objects_from, members}

has_join : (xs ys : List Member) (m : Member) → has (xs ++ ys) m ≡ (has xs m || has ys m)
has_join [] ys m = refl
has_join (x ∷ xs) ys m = go (same_member x m) (has_join xs ys m)
  where
    go : (b : Bool) → has (xs ++ ys) m ≡ (has xs m || has ys m) → (b || has (xs ++ ys) m) ≡ ((b || has xs m) || has ys m)
    go true h = refl
    go false h = h

-- one member, where the test says so
abbrev one : Bool → Member → List Member
one b x = cond b (x ∷ []) []

one_has : (b : Bool) (x m : Member) → has (one b x) m ≡ (b && same_member x m)
one_has true x m = go (same_member x m)
  where
    go : (c : Bool) → (c || false) ≡ c
    go true = refl
    go false = refl
one_has false x m = refl

module _ (set : Member → Bool) where
  no_null : (o k : ℕ) → has (objects_from set o k) Null ≡ false
  no_null o zero = refl
  no_null o (suc k) = has_join (one (set (Object o)) (Object o)) (objects_from set (suc o) k) Null ∙ go (set (Object o)) (no_null (suc o) k)
    where
      go : (b : Bool) → has (objects_from set (suc o) k) Null ≡ false → (has (one b (Object o)) Null || has (objects_from set (suc o) k) Null) ≡ false
      go true h = h
      go false h = h

  no_invalid : (o k : ℕ) → has (objects_from set o k) Invalid ≡ false
  no_invalid o zero = refl
  no_invalid o (suc k) = has_join (one (set (Object o)) (Object o)) (objects_from set (suc o) k) Invalid ∙ go (set (Object o)) (no_invalid (suc o) k)
    where
      go : (b : Bool) → has (objects_from set (suc o) k) Invalid ≡ false → (has (one b (Object o)) Invalid || has (objects_from set (suc o) k) Invalid) ≡ false
      go true h = h
      go false h = h

  -- an object that isn't in the set isn't listed
  none_more : (o k p : ℕ) → set (Object p) ≡ false → has (objects_from set o k) (Object p) ≡ false
  none_more o zero p e = refl
  none_more o (suc k) p e = has_join (one (set (Object o)) (Object o)) (objects_from set (suc o) k) (Object p) ∙ go (set (Object o)) (o == p) refl refl (none_more (suc o) k p e)
    where
      go : (b c : Bool) → set (Object o) ≡ b → (o == p) ≡ c → has (objects_from set (suc o) k) (Object p) ≡ false → (has (one b (Object o)) (Object p) || has (objects_from set (suc o) k) (Object p)) ≡ false
      go true true q r h = let f : set (Object p) ≡ true = subst (λ i. set (Object i) ≡ true) (eqb-true o p r) q in cc
      go true false q r h = ap (λ b. (b || false) || has (objects_from set (suc o) k) (Object p)) r ∙ h
      go false c q r h = h

  -- one that is in the set is listed where its number comes
  listed : (o k p : ℕ) → set (Object p) ≡ true → o ≤ p → p < o + k → has (objects_from set o k) (Object p) ≡ true
  listed o zero p e h j = absurd (omega arith)
  listed o (suc k) p e h j = has_join (one (set (Object o)) (Object o)) (objects_from set (suc o) k) (Object p) ∙ go (o == p) refl (λ a b. listed (suc o) k p e a b)
    where
      some : (b : Bool) → b ≡ true → (o == p) ≡ true → (has (one b (Object o)) (Object p) || has (objects_from set (suc o) k) (Object p)) ≡ true
      some true q r = ap (λ c. (c || false) || has (objects_from set (suc o) k) (Object p)) r
      some false q r = cc

      later : (b r : Bool) → r ≡ true → (b || r) ≡ true
      later true r e = refl
      later false r e = e

      go : (c : Bool) → (o == p) ≡ c → (suc o ≤ p → p < suc o + k → has (objects_from set (suc o) k) (Object p) ≡ true)
          → (has (one (set (Object o)) (Object o)) (Object p) || has (objects_from set (suc o) k) (Object p)) ≡ true
      go true r next = some (set (Object o)) (subst (λ i. set (Object i) ≡ true) (sym (eqb-true o p r)) e) r
      go false r next = later (has (one (set (Object o)) (Object o)) (Object p)) _ (next (grind arith) (omega arith))

  parts : (n : ℕ) (m : Member) → has (members n set) m ≡ (has (one (set Null) Null) m || (has (one (set Invalid) Invalid) m || has (objects_from set 1 n) m))
  parts n m =
      has_join (one (set Null) Null) (one (set Invalid) Invalid ++ objects_from set 1 n) m
      ∙ ap (λ b. has (one (set Null) Null) m || b) (has_join (one (set Invalid) Invalid) (objects_from set 1 n) m)

  -- all members are listed, and no others
  module _ (cells : Layout) (n : ℕ) (is_set : IsSet cells set) (some : (o : ℕ) → 0 < length (cells o) → 1 ≤ o) (few : (o : ℕ) → 0 < length (cells o) → o ≤ n) where
    of_object : (o : ℕ) (b : Bool) → set (Object o) ≡ b → has (objects_from set 1 n) (Object o) ≡ b
    of_object o true e = let h = is_set o e in listed 1 n o e (some o h) (let f = few o h in omega arith)
    of_object o false e = none_more 1 n o e

    pub has_members : (m : Member) → has (members n set) m ≡ set m
    has_members Null = parts n Null ∙ go (set Null) (set Invalid)
      where
        go : (b c : Bool) → (has (one b Null) Null || (has (one c Invalid) Null || has (objects_from set 1 n) Null)) ≡ b
        go true c = refl
        go false true = no_null 1 n
        go false false = no_null 1 n
    has_members Invalid = parts n Invalid ∙ go (set Null) (set Invalid)
      where
        go : (b c : Bool) → (has (one b Null) Invalid || (has (one c Invalid) Invalid || has (objects_from set 1 n) Invalid)) ≡ c
        go true true = refl
        go true false = no_invalid 1 n
        go false true = refl
        go false false = no_invalid 1 n
    has_members (Object o) = parts n (Object o) ∙ go (set Null) (set Invalid) ∙ of_object o (set (Object o)) refl
      where
        go : (b c : Bool) → (has (one b Null) (Object o) || (has (one c Invalid) (Object o) || has (objects_from set 1 n) (Object o))) ≡ has (objects_from set 1 n) (Object o)
        go true true = refl
        go true false = refl
        go false true = refl
        go false false = refl
