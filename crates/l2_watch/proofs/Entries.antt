-- Entries of lists: what they name as lists and clauses grow.
use Rattle.std.proofs.Common.{◌≡◌, ◌⊎◌, inl, inr, ℕ, suc, zero, ◌+◌, ◌-◌, ◌/◌, ◌%◌, ◌<◌, ◌≤◌, List, ◌++◌, [], ◌∷◌, length, get_or, set, take, drop, map, refl, sym, ap, ◌∙◌, subst, arith, Bool, true, false, eqb, cond}
use Rattle.std.specs.Prelude.{ℤ, pos, negsuc, nat_abs, Contains, Vec}
use Rattle.std.specs.declared.alloc.Global.{Global}
use Rattle.std.proofs.lemmas.Bool.{cases_lt, cases_eq}
use Rattle.std.proofs.lemmas.List.{get_or-set_same, get_or-set_other, length-set, get_or_past, get_or_append_left, get_or_push, length_push, take-append-le, take_all, get_or-take, get_or-drop, length-drop, length-take-le, set-get_or, set-set, map-set, map_push, get_or-map, length-map}
use Rattle.std.proofs.lemmas.List.Elements.{Contains-push_cases, Contains-append_cases}
use Rattle.l2_cnf.specs.Lit.{code_of, literal_of, positive, code_of-literal_of}
use Rattle.l2_watch.specs.declared.entry.Entry.{Entry}
use Rattle.l2_watch.specs.Visit.{entries_of, indices_of, items_of, IsEntry, AreEntries, AreAllEntries, AreMore, entered, entered_both, list_of, pair_of, ArePairs}
use Rattle.l2_watch.proofs.Moves.{code_of_injective, lists_more, lists_there}

-- a code gives its literal back
pub literal_of-code_of : (l : ℤ) → 1 ≤ nat_abs l → literal_of (code_of l) ≡ l
literal_of-code_of (pos zero) h = absurd (omega arith)
literal_of-code_of (pos (suc n)) h = code_of_injective _ _ (code_of-literal_of (code_of (pos (suc n))) (omega arith))
literal_of-code_of (negsuc n) h = code_of_injective _ _ (code_of-literal_of (code_of (negsuc n)) (omega arith))

-- the variable and the sign of the literal of a code
parts_by : (b : Bool) (code : ℕ) → eqb (code % 2) 0 ≡ b → 2 ≤ code → (nat_abs (cond b (pos (code / 2)) (negsuc (code / 2 - 1))) ≡ code / 2) × (positive (cond b (pos (code / 2)) (negsuc (code / 2 - 1))) ≡ b)
parts_by true code e h = (refl, refl)
parts_by false code e h = (omega arith, refl)

pub literal_parts : (code : ℕ) → 2 ≤ code → (nat_abs (literal_of code) ≡ code / 2) × (positive (literal_of code) ≡ eqb (code % 2) 0)
literal_parts code h = parts_by (eqb (code % 2) 0) code refl h

-- the lists by the clauses of their entries
pub items_as : (lists : List (Vec Entry Global)) → items_of lists ≡ map indices_of (entries_of lists)
items_as [] = refl
items_as (v ∷ lists) = ap (λ rest. indices_of v.items ∷ rest) (items_as lists)

pub items_length : (lists : List (Vec Entry Global)) → length (items_of lists) ≡ length lists
items_length lists = length-map lists (λ v. indices_of v.items)

pub entries_length : (lists : List (Vec Entry Global)) → length (entries_of lists) ≡ length lists
entries_length lists = length-map lists (λ v. v.items)

indices_entered : (lists : List (List Entry)) (k : ℕ) (e : Entry) → k < length lists → map indices_of (entered lists k e) ≡ set (map indices_of lists) k (get_or (map indices_of lists) k [] ++ e.clause ∷ [])
indices_entered lists k e h =
    let xs : List Entry = get_or lists k [] in
    let at : get_or (map indices_of lists) k [] ≡ indices_of xs = get_or-map indices_of lists k [] [] h in
    map-set indices_of lists k (xs ++ e ∷ []) ∙ ap (λ y. set (map indices_of lists) k y) (map_push (λ x. x.clause) xs e ∙ ap (λ y. y ++ e.clause ∷ []) (sym at))

pub items_entered : (lists lists' : List (Vec Entry Global)) (k : ℕ) (e : Entry) → k < length lists → entries_of lists' ≡ entered (entries_of lists) k e → items_of lists' ≡ set (items_of lists) k (get_or (items_of lists) k [] ++ e.clause ∷ [])
items_entered lists lists' k e h new =
    items_as lists' ∙ ap (map indices_of) new ∙ indices_entered (entries_of lists) k e (omega (arith, h, entries_length lists)) ∙ ap (λ y. set y k (get_or y k [] ++ e.clause ∷ [])) (sym (items_as lists))

within_map : (lists : List (List Entry)) (k : ℕ) → k < length lists → k < length (map indices_of lists)
within_map lists k h = omega (arith, h, length-map lists indices_of)

entered_more : (lists : List (List Entry)) (k : ℕ) (e : Entry) → k < length lists → AreMore (map indices_of lists) (map indices_of (entered lists k e))
entered_more lists k e h = lists_more (map indices_of lists) (map indices_of (entered lists k e)) k e.clause (within_map lists k h) (indices_entered lists k e h)

entered_there : (lists : List (List Entry)) (k : ℕ) (e : Entry) → k < length lists → Contains (get_or (map indices_of (entered lists k e)) k []) e.clause
entered_there lists k e h = lists_there (map indices_of lists) (map indices_of (entered lists k e)) k e.clause (within_map lists k h) (indices_entered lists k e h)

-- a clause put into two lists is found there, and so is what was found before
pub both_found : (lists lists' : List (Vec Entry Global)) (a b : ℤ) (r : ℕ) → code_of a < length lists → code_of b < length lists → entries_of lists' ≡ entered_both (entries_of lists) a b r → (AreMore (items_of lists) (items_of lists')) × (Contains (list_of (items_of lists') a) r) × (Contains (list_of (items_of lists') b) r)
both_found lists lists' a b r ha hb new =
    let old : List (List Entry) = entries_of lists in
    let one : Entry = record { blocker = b; clause = r } in
    let two : Entry = record { blocker = a; clause = r } in
    let mid : List (List Entry) = entered old (code_of a) one in
    let fits_a : code_of a < length old = omega (arith, ha, entries_length lists) in
    let fits_b : code_of b < length mid = omega (arith, hb, entries_length lists, length-set old (code_of a) (get_or old (code_of a) [] ++ one ∷ [])) in
    let now : items_of lists' ≡ map indices_of (entered mid (code_of b) two) = items_as lists' ∙ ap (map indices_of) new in
    let further = entered_more mid (code_of b) two fits_b in
    rw (now, items_as lists) ((λ l q h. further l q (entered_more old (code_of a) one fits_a l q h)), further a r (entered_there old (code_of a) one fits_a), entered_there mid (code_of b) two fits_b)

pub items_same : (lists lists' : List (Vec Entry Global)) → entries_of lists' ≡ entries_of lists → items_of lists' ≡ items_of lists
items_same lists lists' e = items_as lists' ∙ ap (map indices_of) e ∙ sym (items_as lists)

pub no_entry : (clauses : List (List ℤ)) → AreEntries clauses []
no_entry clauses e h = absurd (omega (arith, h.1))

pub entries_push : (clauses : List (List ℤ)) (xs : List Entry) (e : Entry) → AreEntries clauses xs → IsEntry clauses e → AreEntries clauses (xs ++ e ∷ [])
entries_push clauses xs e are is x h = elim (Contains-push_cases xs e x h) [
  | inl old ↦ are x old
  | inr same ↦ subst (IsEntry clauses) same is
]

pub entries_set : (clauses : List (List ℤ)) (xs : List Entry) (i : ℕ) (e : Entry) → AreEntries clauses xs → IsEntry clauses e → AreEntries clauses (set xs i e)
entries_set clauses xs i e are is x (j, h, there) =
    let within : j < length xs = omega (arith, h, length-set xs i e) in
    elim (cases_eq j i) [
      | inl same ↦ subst (IsEntry clauses) (sym (get_or-set_same xs i e x (omega (arith, within, same))) ∙ ap (λ k. get_or (set xs i e) k x) (sym same) ∙ there) is
      | inr differ ↦ are x (j, within, sym (get_or-set_other xs i j e x differ) ∙ there)
    ]

pub all_set : (clauses : List (List ℤ)) (lists : List (List Entry)) (k : ℕ) (list : List Entry) → AreAllEntries clauses lists → AreEntries clauses list → AreAllEntries clauses (set lists k list)
all_set clauses lists k list all are j = elim (cases_eq j k) [
  | inl same ↦ elim (cases_lt k (length lists)) [
    | inl b ↦ (let e : get_or (set lists k list) j [] ≡ list = ap (λ i. get_or (set lists k list) i []) same ∙ get_or-set_same lists k list [] b in subst (AreEntries clauses) (sym e) are)
    | inr b ↦ (let e : get_or (set lists k list) j [] ≡ [] = get_or_past (set lists k list) j [] (omega (arith, b, same, length-set lists k list)) in subst (AreEntries clauses) (sym e) (no_entry clauses))
  ]
  | inr differ ↦ subst (AreEntries clauses) (sym (get_or-set_other lists k j list [] differ)) (all j)
]

pub all_entered : (clauses : List (List ℤ)) (lists : List (List Entry)) (k : ℕ) (e : Entry) → AreAllEntries clauses lists → IsEntry clauses e → AreAllEntries clauses (entered lists k e)
all_entered clauses lists k e all is = all_set clauses lists k (get_or lists k [] ++ e ∷ []) all (entries_push clauses (get_or lists k []) e (all k) is)

-- the clauses grow
pub all_more : (clauses : List (List ℤ)) (clause : List ℤ) (lists : List (List Entry)) → AreAllEntries clauses lists → AreAllEntries (clauses ++ clause ∷ []) lists
all_more clauses clause lists all k e h =
    let is = all k e h in
    let same : get_or (clauses ++ clause ∷ []) e.clause [] ≡ get_or clauses e.clause [] = get_or_append_left clauses (clause ∷ []) [] e.clause is.0 in
    (omega (arith, is.0, length_push clauses clause), subst (λ c. (c ≡ []) ⊎ Contains c e.blocker) (sym same) is.1)

-- one more list, which is empty
pub all_widened : (clauses : List (List ℤ)) (lists : List (List Entry)) (list : List Entry) → list ≡ [] → AreAllEntries clauses lists → AreAllEntries clauses (lists ++ list ∷ [])
all_widened clauses lists list none all k = elim (cases_lt k (length lists)) [
  | inl b ↦ subst (AreEntries clauses) (sym (get_or_append_left lists (list ∷ []) [] k b)) (all k)
  | inr b ↦ elim (cases_eq k (length lists)) [
    | inl e ↦ subst (AreEntries clauses) (sym (get_or_push lists list [] k (sym e) ∙ none)) (no_entry clauses)
    | inr ne ↦ subst (AreEntries clauses) (sym (get_or_past (lists ++ list ∷ []) k [] (omega (arith, b, ne, length_push lists list)))) (no_entry clauses)
  ]
]

-- the last entry of a list taken out
pub back_from : (lists : List (List Entry)) (k : ℕ) (e : Entry) (list : List Entry) → k < length lists → list ≡ take (length (get_or (entered lists k e) k []) - 1) (get_or (entered lists k e) k []) → set (entered lists k e) k list ≡ lists
back_from lists k e list h is =
    let xs : List Entry = get_or lists k [] in
    let at : get_or (entered lists k e) k [] ≡ xs ++ e ∷ [] = get_or-set_same lists k (xs ++ e ∷ []) [] h in
    let n : length (get_or (entered lists k e) k []) - 1 ≡ length xs = omega (arith, ap length at, length_push xs e) in
    let same : list ≡ xs = is ∙ ap (λ m. take m (get_or (entered lists k e) k [])) n ∙ ap (take (length xs)) at ∙ take-append-le (length xs) xs (e ∷ []) (omega arith) ∙ take_all (length xs) xs (omega arith) in
    ap (set (entered lists k e) k) same ∙ set-set lists k (xs ++ e ∷ []) xs ∙ set-get_or lists k []

-- a new clause put into two lists
pub both_entered : (clauses : List (List ℤ)) (clause : List ℤ) (lists : List (List Entry)) (a b : ℤ) (r : ℕ) → AreAllEntries clauses lists → r ≡ length clauses → ((clause ≡ []) ⊎ ((Contains clause a) × (Contains clause b))) → AreAllEntries (clauses ++ clause ∷ []) (entered_both lists a b r)
both_entered clauses clause lists a b r all e stands =
    let new : List (List ℤ) = clauses ++ clause ∷ [] in
    let one : Entry = record { blocker = b; clause = r } in
    let two : Entry = record { blocker = a; clause = r } in
    let within : r < length new = omega (arith, e, length_push clauses clause) in
    let here : get_or new r [] ≡ clause = get_or_push clauses clause [] r (sym e) in
    let is_one : IsEntry new one = (within, subst (λ c. (c ≡ []) ⊎ Contains c b) (sym here) (elim stands [ inl none ↦ inl none | inr both ↦ inr both.1 ])) in
    let is_two : IsEntry new two = (within, subst (λ c. (c ≡ []) ⊎ Contains c a) (sym here) (elim stands [ inl none ↦ inl none | inr both ↦ inr both.0 ])) in
    all_entered new (entered lists (code_of a) one) (code_of b) two (all_entered new lists (code_of a) one (all_more clauses clause lists all) is_one) is_two

-- what was put into two lists and taken back
pub back_from_both : (clauses clauses' : List (List ℤ)) (lists lists' : List (Vec Entry Global)) → clauses' ≡ clauses → entries_of lists' ≡ entries_of lists → AreAllEntries clauses (entries_of lists) → (AreMore (items_of lists) (items_of lists')) × AreAllEntries clauses' (entries_of lists')
back_from_both clauses clauses' lists lists' ce le all = (
  (λ l r h. subst (λ x. Contains (list_of x l) r) (sym (items_same lists lists' le)) h),
  rw (ce, le) all,
)

pub all_none : (clauses : List (List ℤ)) → AreAllEntries clauses []
all_none clauses k = subst (AreEntries clauses) (sym (get_or_past [] k [] (omega arith))) (no_entry clauses)

-- with a list in place of another
pub entered_with : (clauses : List (List ℤ)) (lists : List (Vec Entry Global)) (k : ℕ) (list : Vec Entry Global) → AreAllEntries clauses (entries_of lists) → AreEntries clauses list.items → AreAllEntries clauses (entries_of (set lists k list))
entered_with clauses lists k list all are = rw (map-set (λ v. v.items) lists k list) (all_set clauses (entries_of lists) k list.items all are)

-- where no clause is empty, an entry's literal stands in its clause
pub entry_stands : (clauses : List (List ℤ)) (n : ℕ) (pairs : List (ℤ × ℤ)) (e : Entry) → ArePairs clauses n pairs → IsEntry clauses e → Contains (get_or clauses e.clause []) e.blocker
entry_stands clauses n pairs e are is = elim is.1 [
  | inl none ↦
      let no : Contains [] (pair_of pairs e.clause).0 = subst (λ c. Contains c (pair_of pairs e.clause).0) none (are.pair e.clause is.0).first in
      absurd (omega (arith, no.1))
  | inr h ↦ h
]

pub entries_take : (clauses : List (List ℤ)) (xs : List Entry) (n : ℕ) → n ≤ length xs → AreEntries clauses xs → AreEntries clauses (take n xs)
entries_take clauses xs n h are x (k, b, e) =
    let before : k < n = omega (arith, b, length-take-le n xs h) in
    are x (k, omega (arith, before, h), sym (get_or-take n xs k x before) ∙ e)

-- the entries that are left where some in the middle are taken out
pub entries_gap : (clauses : List (List ℤ)) (xs : List Entry) (n i : ℕ) → n ≤ length xs → i ≤ length xs → AreEntries clauses xs → AreEntries clauses (take n xs ++ drop i xs)
entries_gap clauses xs n i g h are e there = elim (Contains-append_cases (take n xs) (drop i xs) e there) [
  | inl front ↦ entries_take clauses xs n g are e front
  | inr (k, b, at) ↦ are e (i + k, omega (arith, b, length-drop i xs, h), sym (get_or-drop i xs k e) ∙ at)
]
