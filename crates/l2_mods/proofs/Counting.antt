-- How often numbers stand in lists that grow and shrink at their ends.
use Rattle.std.proofs.Common.{◌≡◌, ◌≢◌, ℕ, zero, suc, ◌+◌, ◌<◌, ◌≤◌, Bool, true, false, if◌then◌else◌, List, [], ◌∷◌, ◌++◌, length, refl, ap, sym, ◌∙◌, arith}
use Rattle.std.specs.Prelude.{slice_set, ◌==◌, ◌||◌, not, nat_eq}
use Rattle.std.proofs.lemmas.List.{get_or-set_same, get_or-set_other}
use native.Mathlib.Decide.{ℕ_discrete}
use Rattle.l2_meaning.specs.Changes.{is_one_of}
use Rattle.l2_mods.specs.Counts.{times, count_at, AreCounted}

pub counted_is_there : (ms : List ℕ) (n : ℕ) → not (nat_eq (times ms n) 0) ≡ is_one_of ms n
counted_is_there [] n = refl
counted_is_there (m ∷ ms) n = go (m == n) (counted_is_there ms n) where
  go : (b : Bool) → not (nat_eq (times ms n) 0) ≡ is_one_of ms n → not (nat_eq (if b then suc (times ms n) else times ms n) 0) ≡ (b || is_one_of ms n)
  go true h = grind arith
  go false h = h

pub has_counted : (ms counts : List ℕ) (n : ℕ) → AreCounted ms counts → not (nat_eq (count_at counts n) 0) ≡ is_one_of ms n
has_counted ms counts n h = ap (λ k. not (nat_eq k 0)) (h n) ∙ counted_is_there ms n

pub few_times : (ms : List ℕ) (n : ℕ) → times ms n ≤ length ms
few_times [] n = omega arith
few_times (m ∷ ms) n = go (m == n) (few_times ms n) where
  go : (b : Bool) → times ms n ≤ length ms → (if b then suc (times ms n) else times ms n) ≤ length (m ∷ ms)
  go true h = omega arith
  go false h = omega arith

pub once_more : (ms : List ℕ) (n : ℕ) → times (ms ++ n ∷ []) n ≡ times ms n + 1
once_more [] n = grind arith
once_more (m ∷ ms) n = let r = once_more ms n in grind arith

pub others_stay : (ms : List ℕ) (m n : ℕ) → n ≢ m → times (ms ++ m ∷ []) n ≡ times ms n
others_stay [] m n d = grind arith
others_stay (k ∷ ms) m n d = let r = others_stay ms m n d in grind arith

pub counted_more : (ms counts : List ℕ) (m k : ℕ) → m < length counts → k ≡ count_at counts m + 1 → AreCounted ms counts → AreCounted (ms ++ m ∷ []) (slice_set counts m k)
counted_more ms counts m k room e counted n = go (ℕ_discrete n m) where
  go : Dec (n ≡ m) → count_at (slice_set counts m k) n ≡ times (ms ++ m ∷ []) n
  go (yes h) = let c = counted m in let more = once_more ms m in let here = get_or-set_same counts m k 0 room in
      let at : count_at (slice_set counts m k) m ≡ times (ms ++ m ∷ []) m = omega arith in
      ap (count_at (slice_set counts m k)) h ∙ at ∙ ap (times (ms ++ m ∷ [])) (sym h)
  go (no d) = get_or-set_other counts m n k 0 d ∙ counted n ∙ sym (others_stay ms m n d)

pub counted_less : (ms counts : List ℕ) (m k : ℕ) → m < length counts → k + 1 ≡ count_at counts m → AreCounted (ms ++ m ∷ []) counts → AreCounted ms (slice_set counts m k)
counted_less ms counts m k room e counted n = go (ℕ_discrete n m) where
  go : Dec (n ≡ m) → count_at (slice_set counts m k) n ≡ times ms n
  go (yes h) = let c = counted m in let more = once_more ms m in let here = get_or-set_same counts m k 0 room in
      let at : count_at (slice_set counts m k) m ≡ times ms m = omega arith in
      ap (count_at (slice_set counts m k)) h ∙ at ∙ ap (times ms) (sym h)
  go (no d) = get_or-set_other counts m n k 0 d ∙ counted n ∙ others_stay ms m n d

-- one more number without a count
pub count_at-push : (counts : List ℕ) (n : ℕ) → count_at (counts ++ 0 ∷ []) n ≡ count_at counts n
count_at-push [] zero = refl
count_at-push [] (suc n) = refl
count_at-push (p ∷ rest) zero = refl
count_at-push (p ∷ rest) (suc n) = count_at-push rest n

pub has_room : (counts : List ℕ) (n : ℕ) → 0 < count_at counts n → n < length counts
has_room [] zero h = absurd (omega arith)
has_room [] (suc n) h = absurd (omega arith)
has_room (c ∷ counts) zero h = omega arith
has_room (c ∷ counts) (suc n) h = let r = has_room counts n h in omega arith

-- the last number has a count
pub last_counted : (all ms counts : List ℕ) (m : ℕ) → all ≡ ms ++ m ∷ [] → AreCounted all counts → 0 < count_at counts m
last_counted all ms counts m e counted = let c = counted m in let more = once_more ms m in let t : times all m ≡ times (ms ++ m ∷ []) m = ap (λ xs. times xs m) e in omega arith

pub ruleset counting = (counted_is_there, count_at-push)
