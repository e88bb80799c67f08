-- Clauses of whole numbers and clauses of literals.
use Rattle.std.proofs.Common.{◌≡◌, ◌⊎◌, inl, inr, ℕ, zero, suc, ◌<◌, Bool, true, false, List, [], ◌∷◌, ◌++◌, length, map, refl, ap, ◌∙◌, subst, arith, ℤ, slice_index_or}
use Rattle.std.specs.List.{Contains}
use Rattle.std.proofs.lemmas.List.Elements.{Contains-append_cases}
use Rattle.l2_cnf.specs.Logic.{literal_true, HasTrue, Satisfies}
use Rattle.l2_gates.specs.Gates.{Lit, Pos, Neg, number_of}
use Rattle.l2_gates.specs.Models.{value, both, some_of, some_true, all_true}
use Rattle.l2_goals.specs.Numbers.{numbers, all_numbers}

-- values by indices from 0 on, as values by variables from 1 on, and back
abbrev pub by_variable : (ℕ → Bool) → ℕ → Bool
by_variable v zero = false
by_variable v (suc n) = v n

abbrev pub by_index : (ℕ → Bool) → ℕ → Bool
by_index w n = w (suc n)

literal_there : (v : ℕ → Bool) (l : Lit) → literal_true (by_variable v) (number_of l) ≡ value v l
literal_there v (Pos n) = refl
literal_there v (Neg n) = refl

literal_back : (w : ℕ → Bool) (l : Lit) → value (by_index w) l ≡ literal_true w (number_of l)
literal_back w (Pos n) = refl
literal_back w (Neg n) = refl

contains_more : {X : Type 0} (x y : X) (xs : List X) → Contains xs x → Contains (y ∷ xs) x
contains_more x y xs (k, lt, is) = (suc k, omega (arith, lt), is)

-- ---- from literals to numbers

true_there : (v : ℕ → Bool) (ls : List Lit) → some_true v ls ≡ true → HasTrue (by_variable v) (numbers ls)
true_there v [] h = absurd (cc h)
true_there v (l ∷ ls) h = go (value v l) refl h (true_there v ls)
  where
    go : (b : Bool) → value v l ≡ b → some_of b (some_true v ls) ≡ true → (some_true v ls ≡ true → HasTrue (by_variable v) (numbers ls)) → HasTrue (by_variable v) (numbers (l ∷ ls))
    go true e h rest = (number_of l, (0, omega arith, refl), literal_there v l ∙ e)
    go false e h rest = let r = rest h in (r.0, contains_more r.0 (number_of l) (numbers ls) r.1, r.2)

first_true : (a b : Bool) → both a b ≡ true → a ≡ true
first_true true b h = refl
first_true false b h = absurd (cc h)

rest_true : (a b : Bool) → both a b ≡ true → b ≡ true
rest_true true b h = h
rest_true false b h = absurd (cc h)

all_there : (v : ℕ → Bool) (cs : List (List Lit)) → all_true v cs ≡ true → Satisfies (by_variable v) (all_numbers cs)
all_there v [] h clause (k, lt, is) = absurd (omega (arith, lt))
all_there v (c ∷ cs) h clause (zero, lt, is) = subst (HasTrue (by_variable v)) is (true_there v c (first_true (some_true v c) (all_true v cs) h))
all_there v (c ∷ cs) h clause (suc k, lt, is) = all_there v cs (rest_true (some_true v c) (all_true v cs) h) clause (k, omega (arith, lt), is)

-- a model of clauses and a last one
pub satisfied : (v : ℕ → Bool) (base : List (List Lit)) (last : List Lit) → all_true v base ≡ true → some_true v last ≡ true → Satisfies (by_variable v) (all_numbers base ++ numbers last ∷ [])
satisfied v base last h t clause there = go (Contains-append_cases (all_numbers base) (numbers last ∷ []) clause there)
  where
    one : Contains (numbers last ∷ []) clause → HasTrue (by_variable v) clause
    one (zero, lt, is) = subst (HasTrue (by_variable v)) is (true_there v last t)
    one (suc k, lt, is) = absurd (omega (arith, lt))

    go : Contains (all_numbers base) clause ⊎ Contains (numbers last ∷ []) clause → HasTrue (by_variable v) clause
    go (inl c) = all_there v base h clause c
    go (inr c) = one c

-- ---- from numbers to literals

true_back : (w : ℕ → Bool) (ls : List Lit) (l : ℤ) (k : ℕ) → k < length (numbers ls) → slice_index_or (numbers ls) k l ≡ l → literal_true w l ≡ true → some_true (by_index w) ls ≡ true
true_back w [] l k lt is t = absurd (omega (arith, lt))
true_back w (x ∷ xs) l zero lt is t = ap (λ b. some_of b (some_true (by_index w) xs)) (literal_back w x ∙ ap (literal_true w) is ∙ t)
true_back w (x ∷ xs) l (suc k) lt is t = some_later (value (by_index w) x) (some_true (by_index w) xs) (true_back w xs l k (omega (arith, lt)) is t)
  where
    some_later : (a b : Bool) → b ≡ true → some_of a b ≡ true
    some_later true b h = refl
    some_later false b h = h

clause_back : (w : ℕ → Bool) (ls : List Lit) → HasTrue w (numbers ls) → some_true (by_index w) ls ≡ true
clause_back w ls (l, (k, lt, is), t) = true_back w ls l k lt is t

pub all_back : (w : ℕ → Bool) (cs : List (List Lit)) → Satisfies w (all_numbers cs) → all_true (by_index w) cs ≡ true
all_back w [] h = refl
all_back w (c ∷ cs) h =
    ap (λ b. both b (all_true (by_index w) cs)) (clause_back w c (h (numbers c) (0, omega arith, refl)))
    ∙ all_back w cs (λ clause there. h clause (contains_more clause (numbers c) (all_numbers cs) there))

-- ---- a list with a last clause

pub all_with : (v : ℕ → Bool) (base : List (List Lit)) (last : List Lit) → all_true v base ≡ true → some_true v last ≡ true → all_true v (base ++ last ∷ []) ≡ true
all_with v [] last h t = ap (λ b. both b true) t
all_with v (c ∷ cs) last h t =
    ap (λ b. both b (all_true v (cs ++ last ∷ []))) (first_true (some_true v c) (all_true v cs) h)
    ∙ all_with v cs last (rest_true (some_true v c) (all_true v cs) h) t

pub all_parts : (v : ℕ → Bool) (base : List (List Lit)) (last : List Lit) → all_true v (base ++ last ∷ []) ≡ true → (all_true v base ≡ true) × (some_true v last ≡ true)
all_parts v [] last h = (refl, first_true (some_true v last) true h)
all_parts v (c ∷ cs) last h =
    let r = all_parts v cs last (rest_true (some_true v c) (all_true v (cs ++ last ∷ [])) h) in
    (ap (λ b. both b (all_true v cs)) (first_true (some_true v c) (all_true v (cs ++ last ∷ [])) h) ∙ r.0, r.1)

pub all_satisfied : (v : ℕ → Bool) (cs : List (List Lit)) → all_true v cs ≡ true → Satisfies (by_variable v) (all_numbers cs)
all_satisfied v cs h = all_there v cs h

-- ---- places in lists

pub at_map : {X Y : Type 0} (h : X → Y) (xs : List X) (k : ℕ) (x : X) (d : Y) → k < length xs → slice_index_or xs k x ≡ x → slice_index_or (map h xs) k d ≡ h x
at_map h [] k x d lt is = absurd (omega (arith, lt))
at_map h (y ∷ ys) zero x d lt is = ap h is
at_map h (y ∷ ys) (suc k) x d lt is = at_map h ys k x d (omega (arith, lt)) is

pub map_length : {X Y : Type 0} (h : X → Y) (xs : List X) → length (map h xs) ≡ length xs
map_length h [] = refl
map_length h (x ∷ xs) = ap suc (map_length h xs)
