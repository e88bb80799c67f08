-- What dealing with one clause keeps.
use Rattle.std.proofs.Common.{Bool, ◌≡◌, ◌≢◌, inl, inr, ℕ, suc, ◌+◌, ◌*◌, ◌<◌, ◌≤◌, List, ◌++◌, [], ◌∷◌, length, get_or, set, take, refl, sym, ap, ◌∙◌, subst, arith, eqb, true, false}
use Rattle.std.specs.Prelude.{ℤ, pos, negsuc, nat_abs, neg_ℤ, Contains}
use Rattle.std.proofs.lemmas.Bool.{cases_eq, cases_lt}
use Rattle.std.proofs.lemmas.Bool.Decides.{nat_tests}
use Rattle.std.proofs.lemmas.List.{get_or-set_same, get_or-set_other, length-set, get_or_default, get_or-take, length-take-le, get_or_past, get_or_append_left}
use Rattle.std.proofs.lemmas.List.Elements.{Contains-append_left, Contains-push}
use Rattle.l2_cnf.specs.Lit.{code_of}
use Rattle.l2_watch.specs.Watch.{IsConsistent, IsPair, IsMet, IsGuarded}
use Rattle.l2_watch.specs.Visit.{list_of, pair_of, ArePairs, AreFound, AreGuarded, KeepsParts, IsOther, AreMore}

-- a code tells the literal
pub code_of_injective : (l m : ℤ) → code_of l ≡ code_of m → l ≡ m
code_of_injective (pos a) (pos b) e = ap pos (omega arith)
code_of_injective (pos a) (negsuc b) e = absurd (omega arith)
code_of_injective (negsuc a) (pos b) e = absurd (omega arith)
code_of_injective (negsuc a) (negsuc b) e = ap negsuc (omega arith)

pub code_tells : (l m : ℤ) → eqb (code_of l) (code_of m) ≡ true → l ≡ m
code_tells l m e = code_of_injective l m (grind (arith, nat_tests))

pub code_parts : (l m : ℤ) → eqb (code_of l) (code_of m) ≡ false → l ≢ m
code_parts l m e same = let t : eqb (code_of l) (code_of m) ≡ true = rw same (grind (arith, nat_tests)) in cc

-- a literal over the variables has a list
pub code_within : (l : ℤ) (n : ℕ) → nat_abs l ≤ n → code_of l < 2 * n + 2
code_within (pos a) n h = omega (arith, h)
code_within (negsuc a) n h = let s : suc a ≤ n = h in omega (arith, s)

-- a part of a trail is in it
pub Contains-take : (n : ℕ) (xs : List ℤ) (x : ℤ) → n ≤ length xs → Contains (take n xs) x → Contains xs x
Contains-take n xs x h (k, b, e) =
    let before : k < n = omega (arith, b, length-take-le n xs h) in
    (k, omega arith, sym (get_or-take n xs k x before) ∙ e)

-- the other literal stands in the clause
pub other_stands : (clause : List ℤ) (p : ℤ × ℤ) (a o : ℤ) → IsPair clause p.0 p.1 → IsOther p a o → Contains clause o
other_stands clause p a o pair role = elim role [
  | inl r ↦ subst (Contains clause) (sym r.1) pair.second
  | inr r ↦ subst (Contains clause) (sym r.1) pair.first
]

-- a clause that has a true literal keeps it
pub met_more : (clause old new : List ℤ) → ((m : ℤ) → Contains old m → Contains new m) → IsMet clause old → IsMet clause new
met_more clause old new more (x, h, there) = (x, h, more x there)

-- a guard looks on as the trail grows
pub guard_more : (clause seen old new : List ℤ) (a b : ℤ) → ((m : ℤ) → Contains old m → Contains new m) → IsGuarded clause seen old a b → IsGuarded clause seen new a b
guard_more clause seen old new a b more g = record { first = λ h. met_more clause old new more (g.first h); second = λ h. met_more clause old new more (g.second h); one = λ e. more a (g.one e) }

-- a pair with a new literal that isn't false is guarded
pub guard_moved : (clause seen part trail : List ℤ) (p : ℤ × ℤ) (a o m : ℤ) → ((x : ℤ) → Contains seen x → Contains trail x) → IsOther p a o → IsGuarded clause seen part p.0 p.1 → m ≢ o → ¬ Contains trail (neg_ℤ m) → IsGuarded clause seen part o m
guard_moved clause seen part trail p a o m inside role guard ne live = record {
  first = λ h. elim role [
    | inl r ↦ guard.second (subst (λ x. Contains seen (neg_ℤ x)) r.1 h)
    | inr r ↦ guard.first (subst (λ x. Contains seen (neg_ℤ x)) r.1 h)
  ];
  second = λ h. absurd (live (inside (neg_ℤ m) h));
  one = λ e. absurd (ne (sym e));
}

-- the other literal isn't a, where a isn't true
pub other_differs : (clause seen trail : List ℤ) (p : ℤ × ℤ) (a o : ℤ) → IsConsistent trail → Contains trail (neg_ℤ a) → IsOther p a o → IsGuarded clause seen trail p.0 p.1 → o ≢ a
other_differs clause seen trail p a o consistent away role guard e = elim role [
  | inl r ↦ consistent a (subst (Contains trail) r.0 (guard.one (r.0 ∙ sym e ∙ r.1))) away
  | inr r ↦ consistent a (subst (Contains trail) r.0 (subst (Contains trail) (sym r.1 ∙ e ∙ sym r.0) (guard.one (sym r.1 ∙ e ∙ sym r.0)))) away
]

-- a pair after a write
pair_same : (pairs : List (ℤ × ℤ)) (r : ℕ) (p : ℤ × ℤ) → r < length pairs → pair_of (set pairs r p) r ≡ p
pair_same pairs r p h = get_or-set_same pairs r p (pos 0, pos 0) h

pair_other : (pairs : List (ℤ × ℤ)) (r q : ℕ) (p : ℤ × ℤ) → q ≢ r → pair_of (set pairs r p) q ≡ pair_of pairs q
pair_other pairs r q p ne = get_or-set_other pairs r q p (pos 0, pos 0) ne

pub moved_pairs : (clauses : List (List ℤ)) (n : ℕ) (pairs : List (ℤ × ℤ)) (r : ℕ) (o m : ℤ) → ArePairs clauses n pairs → r < length clauses → Contains (get_or clauses r []) o → Contains (get_or clauses r []) m → m ≢ o → ArePairs clauses n (set pairs r (o, m))
moved_pairs clauses n pairs r o m are h so sm ne = record {
  count = length-set pairs r (o, m) ∙ are.count;
  over = are.over;
  pair = λ q b. elim (cases_eq q r) [
    | inl e ↦
        let p : pair_of (set pairs r (o, m)) q ≡ (o, m) = ap (pair_of (set pairs r (o, m))) e ∙ pair_same pairs r (o, m) (omega (arith, are.count)) in
        let here : IsPair (get_or clauses r []) o m = record { first = so; second = sm; one = λ s. absurd (ne (sym s)) } in
        rw (p, e) here
    | inr differ ↦ rw (pair_other pairs r q (o, m) differ) (are.pair q b)
  ];
}

pub moved_guarded : (clauses : List (List ℤ)) (pairs : List (ℤ × ℤ)) (seen part trail : List ℤ) (r : ℕ) (a o m : ℤ) → ((x : ℤ) → Contains seen x → Contains trail x) → r < length pairs → IsOther (pair_of pairs r) a o → AreGuarded clauses pairs seen part → m ≢ o → ¬ Contains trail (neg_ℤ m) → AreGuarded clauses (set pairs r (o, m)) seen part
moved_guarded clauses pairs seen part trail r a o m inside h role guarded ne live q b = elim (cases_eq q r) [
  | inl e ↦
      let p : pair_of (set pairs r (o, m)) q ≡ (o, m) = ap (pair_of (set pairs r (o, m))) e ∙ pair_same pairs r (o, m) h in
      let here : IsGuarded (get_or clauses r []) seen part o m = guard_moved (get_or clauses r []) seen part trail (pair_of pairs r) a o m inside role (guarded r h) ne live in
      rw (p, e) here
  | inr differ ↦ rw (pair_other pairs r q (o, m) differ) (guarded q (omega (arith, b, length-set pairs r (o, m))))
]

pub list_more : (lists : List (List ℕ)) (k r q : ℕ) (x : ℤ) → k < length lists → Contains (list_of lists x) q → Contains (list_of (set lists k (get_or lists k [] ++ r ∷ [])) x) q
list_more lists k r q x h there = elim (cases_eq (code_of x) k) [
  | inl e ↦
      let new : list_of (set lists k (get_or lists k [] ++ r ∷ [])) x ≡ get_or lists k [] ++ r ∷ [] = ap (λ j. get_or (set lists k (get_or lists k [] ++ r ∷ [])) j []) e ∙ get_or-set_same lists k (get_or lists k [] ++ r ∷ []) [] h in
      rw new (Contains-append_left (get_or lists k []) (r ∷ []) q (subst (λ j. Contains (get_or lists j []) q) e there))
  | inr ne ↦ rw (get_or-set_other lists k (code_of x) (get_or lists k [] ++ r ∷ []) [] ne) there
]

pub moved_found : (pairs : List (ℤ × ℤ)) (lists lists' : List (List ℕ)) (r : ℕ) (a o m : ℤ) → AreFound pairs lists a → r < length pairs → IsOther (pair_of pairs r) a o → o ≢ a → code_of m < length lists → lists' ≡ set lists (code_of m) (get_or lists (code_of m) [] ++ r ∷ []) → AreFound (set pairs r (o, m)) lists' a
moved_found pairs lists lists' r a o m found h role oa k new =
    let n : length (set pairs r (o, m)) ≡ length pairs = length-set pairs r (o, m) in
    let same : (q : ℕ) → q ≡ r → pair_of (set pairs r (o, m)) q ≡ (o, m) = λ q e. ap (pair_of (set pairs r (o, m))) e ∙ pair_same pairs r (o, m) h in
    let grows : (q : ℕ) (x : ℤ) → Contains (list_of lists x) q → Contains (list_of lists' x) q = λ q x there. rw new (list_more lists (code_of m) r q x k there) in
    let has_o : Contains (list_of lists' o) r = elim role [
      | inl s ↦ grows r o (subst (λ x. Contains (list_of lists x) r) (sym s.1) (found.second r h (λ e. oa (s.1 ∙ e))))
      | inr s ↦ grows r o (subst (λ x. Contains (list_of lists x) r) (sym s.1) (found.first r h (λ e. oa (s.1 ∙ e))))
    ] in
    let has_m : Contains (list_of lists' m) r = rw (new, get_or-set_same lists (code_of m) (get_or lists (code_of m) [] ++ r ∷ []) [] k) (Contains-push (get_or lists (code_of m) []) r) in
    record {
      first = λ q b ne. elim (cases_eq q r) [
        | inl e ↦ rw (same q e, e) has_o
        | inr differ ↦
            let p = pair_other pairs r q (o, m) differ in
            rw p (grows q (pair_of pairs q).0 (found.first q (omega (arith, b, n)) (λ s. ne (ap (λ x. x.0) p ∙ s))))
      ];
      second = λ q b ne. elim (cases_eq q r) [
        | inl e ↦ rw (same q e, e) has_m
        | inr differ ↦
            let p = pair_other pairs r q (o, m) differ in
            rw p (grows q (pair_of pairs q).1 (found.second q (omega (arith, b, n)) (λ s. ne (ap (λ x. x.1) p ∙ s))))
      ];
    }

pub moved_apart : (pairs : List (ℤ × ℤ)) (r : ℕ) (a o m : ℤ) → r < length pairs → o ≢ a → m ≢ a → ((q : ℕ) → q ≢ r → pair_of (set pairs r (o, m)) q ≡ pair_of pairs q) × ((pair_of (set pairs r (o, m)) r).0 ≢ a) × ((pair_of (set pairs r (o, m)) r).1 ≢ a)
moved_apart pairs r a o m h oa ma = (
  (λ q ne. pair_other pairs r q (o, m) ne),
  (λ e. oa (sym (ap (λ x. x.0) (pair_same pairs r (o, m) h)) ∙ e)),
  (λ e. ma (sym (ap (λ x. x.1) (pair_same pairs r (o, m) h)) ∙ e)),
)

pub guarded_more : (clauses : List (List ℤ)) (pairs : List (ℤ × ℤ)) (seen trail : List ℤ) (l : ℤ) → AreGuarded clauses pairs seen trail → AreGuarded clauses pairs seen (trail ++ l ∷ [])
guarded_more clauses pairs seen trail l guarded q b = guard_more (get_or clauses q []) seen trail (trail ++ l ∷ []) (pair_of pairs q).0 (pair_of pairs q).1 (λ m h. Contains-append_left trail (l ∷ []) m h) (guarded q b)

-- the pair that was read
pub read_pair : (pairs : List (ℤ × ℤ)) (r : ℕ) (p : ℤ × ℤ) → r < length pairs → p ≡ get_or pairs r p → p ≡ pair_of pairs r
read_pair pairs r p h e = e ∙ get_or_default pairs r p (pos 0, pos 0) h

pub moved_parts : (clauses : List (List ℤ)) (pairs : List (ℤ × ℤ)) (trail : List ℤ) (r : ℕ) (a o m : ℤ) → r < length pairs → IsOther (pair_of pairs r) a o → m ≢ o → ¬ Contains trail (neg_ℤ m) → KeepsParts clauses trail pairs (set pairs r (o, m))
moved_parts clauses pairs trail r a o m h role ne live b k guarded = moved_guarded clauses pairs (take b trail) (take b trail) trail r a o m (λ x there. Contains-take b trail x k there) h role guarded ne live

pub lists_more : (lists lists' : List (List ℕ)) (k r : ℕ) → k < length lists → lists' ≡ set lists k (get_or lists k [] ++ r ∷ []) → AreMore lists lists'
lists_more lists lists' k r h new x q there = rw new (list_more lists k r q x h there)

pub lists_there : (lists lists' : List (List ℕ)) (k r : ℕ) → k < length lists → lists' ≡ set lists k (get_or lists k [] ++ r ∷ []) → Contains (get_or lists' k []) r
lists_there lists lists' k r h new = rw (new, get_or-set_same lists k (get_or lists k [] ++ r ∷ []) [] h) (Contains-push (get_or lists k []) r)

-- a list that has something is one of the lists
has_list : (lists : List (List ℕ)) (k r : ℕ) → Contains (get_or lists k []) r → k < length lists
has_list lists k r h = elim (cases_lt k (length lists)) [
  | inl b ↦ b
  | inr b ↦ absurd (let none : Contains [] r = subst (λ x. Contains x r) (get_or_past lists k [] b) h in omega (arith, none.1))
]

-- one more list
pub widened_more : (lists : List (List ℕ)) (extra : List ℕ) → AreMore lists (lists ++ extra ∷ [])
widened_more lists extra l r h =
    let b : code_of l < length lists = has_list lists (code_of l) r h in
    rw (get_or_append_left lists (extra ∷ []) [] (code_of l) b) h

-- what a test of a length shows
pub no_length : (n : ℕ) (b : Bool) → b ≡ eqb n 0 → b ≡ false → n ≢ 0
no_length n b e f z = let t : eqb n 0 ≡ true = rw z refl in cc
