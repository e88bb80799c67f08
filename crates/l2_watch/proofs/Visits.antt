-- What going through a list keeps.
use Rattle.std.proofs.Common.{ap₂, ◌≡◌, ◌⊎◌, inl, inr, ℕ, suc, zero, ◌+◌, ◌<◌, ◌≤◌, List, ◌++◌, [], ◌∷◌, length, get_or, set, take, drop, refl, sym, ap, ◌∙◌, subst, arith}
use Rattle.std.specs.Prelude.{ℤ, pos, negsuc, nat_abs, neg_ℤ, Contains}
use Rattle.std.proofs.lemmas.Bool.{cases_eq}
use Rattle.std.proofs.lemmas.List.{drop_all, take-map, drop-map, map-append, length-map, take-append-le, length_push, drop_more, take_more_set, drop-set-lt, length-drop, get_or_default, get_or-take, get_or-drop, length-take-le}
use Rattle.std.proofs.lemmas.List.Elements.{Contains-append_left, Contains-push, Contains-push_cases, Contains-append_cases, Contains-append_right}
use lib.IntN.{neg_ℤ-neg_ℤ}
use Rattle.l2_cnf.specs.Trail.{AreOver}
use Rattle.l2_watch.specs.Past.{Past, IsGrown}
use Rattle.l2_watch.proofs.Pasts.{grown_part}
use Rattle.l2_watch.proofs.Moves.{met_more}
use Rattle.l2_watch.specs.Watch.{IsConsistent, IsMet}
use Rattle.l2_watch.specs.Visit.{pair_of, AreVisited, AreListed, AreGuarded, KeepsParts, indices_of}
use Rattle.l2_watch.specs.declared.entry.Entry.{Entry}
use Rattle.l2_watch.specs.Handled.{Extends, IsHandled}
use Rattle.l2_watch.specs.declared.visit.Step.{Step}
use Rattle.l2_watch.specs.declared.visit.Step.TheVariants.{Keeps, Moved, Conflict}

one_is : (x y : ℕ) → Contains (x ∷ []) y → x ≡ y
one_is x y (zero, b, e) = e
one_is x y (suc k, b, e) = absurd (omega (arith, b))

-- the first of what is left, or one of the others
pub here_or_later : (xs : List ℕ) (i q : ℕ) → i < length xs → Contains (drop i xs) q → (get_or xs i 0 ≡ q) ⊎ Contains (drop (i + 1) xs) q
here_or_later xs i q h there =
    let split : drop i xs ≡ (get_or xs i 0 ∷ []) ++ drop (i + 1) xs = drop_more xs i 0 h in
    elim (Contains-append_cases (get_or xs i 0 ∷ []) (drop (i + 1) xs) q (subst (λ l. Contains l q) split there)) [
      | inl first ↦ inl (one_is _ q first)
      | inr rest ↦ inr rest
    ]

pub at_drop : (xs : List ℕ) (i : ℕ) → i < length xs → Contains (drop i xs) (get_or xs i 0)
at_drop xs i h = rw (drop_more xs i 0 h) (0, omega arith, refl)

pub later : (xs : List ℕ) (i q : ℕ) → i < length xs → Contains (drop (i + 1) xs) q → Contains (drop i xs) q
later xs i q h there = rw (drop_more xs i 0 h) (Contains-append_right (get_or xs i 0 ∷ []) (drop (i + 1) xs) q there)

pub extends_grows : (clause old new : List ℤ) → Extends clause old new → (m : ℤ) → Contains old m → Contains new m
extends_grows clause old new (inl e) m h = rw e h
extends_grows clause old new (inr (l, e, _, _, _, _)) m h = rw e (Contains-append_left old (l ∷ []) m h)

pub handled_extends : (clauses : List (List ℤ)) (old new : List ℤ) (before after : List (ℤ × ℤ)) (a : ℤ) (r : ℕ) (step : Step) → IsHandled clauses old new before after a r step → Extends (get_or clauses r []) old new
handled_extends clauses old new before after a r (Keeps b) h = h.2
handled_extends clauses old new before after a r Moved h = inl h.0
handled_extends clauses old new before after a r Conflict h = inl h.1

pub not_self : (l : ℤ) → 1 ≤ nat_abs l → l ≡ neg_ℤ l → ⊥
not_self (pos zero) h e = absurd (omega arith)
not_self (pos (suc n)) h e = cc
not_self (negsuc n) h e = cc

pub extends_consistent : (n : ℕ) (clause old new : List ℤ) → AreOver n clause → IsConsistent old → Extends clause old new → IsConsistent new
extends_consistent n clause old new over c (inl e) = rw e c
extends_consistent n clause old new over c (inr (l, e, not_l, not_neg, h, _)) = rw e (λ m a b. elim (Contains-push_cases old l m a) [
  | inl a_old ↦ elim (Contains-push_cases old l (neg_ℤ m) b) [
    | inl b_old ↦ c m a_old b_old
    | inr s ↦ not_neg (subst (Contains old) (sym (neg_ℤ-neg_ℤ m) ∙ ap neg_ℤ (sym s)) a_old)
  ]
  | inr s ↦ elim (Contains-push_cases old l (neg_ℤ m) b) [
    | inl b_old ↦ not_neg (subst (λ x. Contains old (neg_ℤ x)) (sym s) b_old)
    | inr t ↦ not_self l (over l h).0 (t ∙ ap neg_ℤ (sym s))
  ]
])

pub extends_seen : (clause old new : List ℤ) (q : ℕ) → q ≤ length old → Extends clause old new → (take q new ≡ take q old) × (q ≤ length new)
extends_seen clause old new q h (inl e) = (ap (take q) e, rw e h)
extends_seen clause old new q h (inr (l, e, _, _, _, _)) = (ap (take q) e ∙ take-append-le q old (l ∷ []) h, rw e (omega (arith, h, length_push old l)))

-- a clause was kept
pub visited_keeps : (clauses : List (List ℤ)) (old new : List ℤ) (before after : List (ℤ × ℤ)) (a b : ℤ) (xs : List ℕ) (i kept : ℕ) → i < length xs → kept ≤ i
    → IsHandled clauses old new before after a (get_or xs i 0) (Keeps b) → AreVisited clauses before old a (take kept xs) (drop i xs)
    → AreVisited clauses after new a (take (kept + 1) (set xs kept (get_or xs i 0))) (drop (i + 1) (set xs kept (get_or xs i 0)))
visited_keeps clauses old new before after a b xs i kept h k handled visited =
    let r : ℕ = get_or xs i 0 in
    let done : take (kept + 1) (set xs kept r) ≡ take kept xs ++ r ∷ [] = take_more_set xs kept r (omega arith) in
    let rest : drop (i + 1) (set xs kept r) ≡ drop (i + 1) xs = drop-set-lt (i + 1) xs kept r (omega arith) in
    let grows = extends_grows (get_or clauses r []) old new handled.2 in
    let met : IsMet (get_or clauses r []) new = (b, handled.3, handled.4) in
    let one : (q : ℕ) → Contains (drop i xs) q ⊎ ((Contains (take kept xs) q) × (IsMet (get_or clauses q []) old)) → Contains (drop (i + 1) xs) q ⊎ ((Contains (take kept xs ++ r ∷ []) q) × (IsMet (get_or clauses q []) new)) = λ q was. elim was [
      | inl there ↦ elim (here_or_later xs i q h there) [
        | inl s ↦ inr (subst (Contains (take kept xs ++ r ∷ [])) s (Contains-push (take kept xs) r), subst (λ x. IsMet (get_or clauses x []) new) s met)
        | inr more ↦ inl more
      ]
      | inr old_one ↦ inr (Contains-append_left (take kept xs) (r ∷ []) q old_one.0, met_more (get_or clauses q []) old new grows old_one.1)
    ] in
    rw (done, rest, handled.0) (record { first = λ q c e. one q (visited.first q c e); second = λ q c e. one q (visited.second q c e) })

-- a clause went to another list
pub visited_moved : (clauses : List (List ℤ)) (old new : List ℤ) (before after : List (ℤ × ℤ)) (a : ℤ) (xs : List ℕ) (i kept : ℕ) → i < length xs → length before ≡ length clauses
    → IsHandled clauses old new before after a (get_or xs i 0) Moved → AreVisited clauses before old a (take kept xs) (drop i xs)
    → AreVisited clauses after new a (take kept xs) (drop (i + 1) xs)
visited_moved clauses old new before after a xs i kept h count handled visited =
    let r : ℕ = get_or xs i 0 in
    rw handled.0 (record {
      first = λ q b e. elim (cases_eq q r) [
        | inl s ↦ absurd (handled.3 (omega (arith, b, s, handled.1, count)) (subst (λ x. (pair_of after x).0 ≡ a) s e))
        | inr ne ↦
            let same = handled.2 q ne in
            elim (visited.first q (omega (arith, b, handled.1)) (sym (ap (λ p. p.0) same) ∙ e)) [
              | inl there ↦ elim (here_or_later xs i q h there) [
                | inl s ↦ absurd (ne (sym s))
                | inr more ↦ inl more
              ]
              | inr old_one ↦ inr old_one
            ]
      ];
      second = λ q b e. elim (cases_eq q r) [
        | inl s ↦ absurd (handled.4 (omega (arith, b, s, handled.1, count)) (subst (λ x. (pair_of after x).1 ≡ a) s e))
        | inr ne ↦
            let same = handled.2 q ne in
            elim (visited.second q (omega (arith, b, handled.1)) (sym (ap (λ p. p.1) same) ∙ e)) [
              | inl there ↦ elim (here_or_later xs i q h there) [
                | inl s ↦ absurd (ne (sym s))
                | inr more ↦ inl more
              ]
              | inr old_one ↦ inr old_one
            ]
      ];
    })

-- the whole of a list that is gone through still lists the clauses that watch a
pub visited_listed : (clauses : List (List ℤ)) (pairs : List (ℤ × ℤ)) (trail : List ℤ) (a : ℤ) (xs : List ℕ) (i kept : ℕ) → AreVisited clauses pairs trail a (take kept xs) (drop i xs) → kept ≤ length xs → AreListed pairs a xs
visited_listed clauses pairs trail a xs i kept visited within r h watches =
    let back : (q : ℕ) → Contains (take kept xs) q → Contains xs q = λ q (k, b, e).
    let before : k < kept = omega (arith, b, length-take-le kept xs within) in
    (k, omega (arith, before, within), sym (get_or-take kept xs k q before) ∙ e) in
    let later_one : (q : ℕ) → Contains (drop i xs) q → Contains xs q = λ q (k, b, e).
    (i + k, omega (arith, b, length-drop i xs), sym (get_or-drop i xs k q) ∙ e) in
    elim watches [
      | inl e ↦ elim (visited.first r h e) [ inl rest ↦ later_one r rest | inr done ↦ back r done.0 ]
      | inr e ↦ elim (visited.second r h e) [ inl rest ↦ later_one r rest | inr done ↦ back r done.0 ]
    ]

-- what was gone through and what is still to come list the clauses that watch a
pub visited_rest : (clauses : List (List ℤ)) (pairs : List (ℤ × ℤ)) (trail : List ℤ) (a : ℤ) (done rest : List ℕ) → AreVisited clauses pairs trail a done rest → AreListed pairs a (done ++ rest)
visited_rest clauses pairs trail a done rest visited r h watches = elim watches [
  | inl e ↦ elim (visited.first r h e) [ inl later_one ↦ Contains-append_right done rest r later_one | inr met ↦ Contains-append_left done rest r met.0 ]
  | inr e ↦ elim (visited.second r h e) [ inl later_one ↦ Contains-append_right done rest r later_one | inr met ↦ Contains-append_left done rest r met.0 ]
]

-- the same of entries
pub visited_gap : (clauses : List (List ℤ)) (pairs : List (ℤ × ℤ)) (trail : List ℤ) (a : ℤ) (list new : List Entry) (i kept : ℕ) → new ≡ take kept list ++ drop i list → AreVisited clauses pairs trail a (take kept (indices_of list)) (drop i (indices_of list)) → AreListed pairs a (indices_of new)
visited_gap clauses pairs trail a list new i kept e visited =
    let same : take kept (indices_of list) ++ drop i (indices_of list) ≡ indices_of new =
    ap₂ (λ x y. x ++ y) (take-map (λ x. x.clause) kept list) (drop-map (λ x. x.clause) i list) ∙ sym (map-append (λ x. x.clause) (take kept list) (drop i list)) ∙ ap indices_of (sym e) in
    subst (AreListed pairs a) same (visited_rest clauses pairs trail a (take kept (indices_of list)) (drop i (indices_of list)) visited)

-- dealing with a clause leaves no literal true with its negation
pub handled_consistent : (clauses : List (List ℤ)) (n : ℕ) (old new : List ℤ) (before after : List (ℤ × ℤ)) (a : ℤ) (r : ℕ) (step : Step) → ((c : List ℤ) → Contains clauses c → AreOver n c) → IsConsistent old → IsHandled clauses old new before after a r step → IsConsistent new
handled_consistent clauses n old new before after a r (Keeps b) over c h = extends_consistent n (get_or clauses r []) old new (over (get_or clauses r []) (r, h.1, get_or_default clauses r _ _ h.1)) c h.2
handled_consistent clauses n old new before after a r Moved over c h = rw h.0 c
handled_consistent clauses n old new before after a r Conflict over c h = rw h.1 c

pub parts_then : (clauses : List (List ℤ)) (first mid : Past) (before pairs after : List (ℤ × ℤ)) → IsGrown clauses first mid → KeepsParts clauses first.literals before pairs → KeepsParts clauses mid.literals pairs after → KeepsParts clauses first.literals before after
parts_then clauses first mid before pairs after grown one two b h guarded =
    let same : take b mid.literals ≡ take b first.literals = grown_part clauses first mid b grown h in
    subst (λ t. AreGuarded clauses after t t) same (two b (omega (arith, grown.longer)) (subst (λ t. AreGuarded clauses pairs t t) (sym same) (one b h guarded)))

-- a list that was gone through to its end
pub visited_all : (clauses : List (List ℤ)) (pairs : List (ℤ × ℤ)) (trail : List ℤ) (a : ℤ) (list : List Entry) (i kept : ℕ) → length list ≤ i → AreVisited clauses pairs trail a (take kept (indices_of list)) (drop i (indices_of list)) → AreVisited clauses pairs trail a (indices_of (take kept list)) []
visited_all clauses pairs trail a list i kept h visited =
    let none : drop i (indices_of list) ≡ [] = drop_all i (indices_of list) (omega (arith, h, length-map list (λ e. e.clause))) in
    let same : take kept (indices_of list) ≡ indices_of (take kept list) = take-map (λ e. e.clause) kept list in
    subst (λ done. AreVisited clauses pairs trail a done []) same (subst (λ rest. AreVisited clauses pairs trail a (take kept (indices_of list)) rest) none visited)

pub visited_done : (clauses : List (List ℤ)) (pairs : List (ℤ × ℤ)) (trail : List ℤ) (a : ℤ) (done : List ℕ) → AreVisited clauses pairs trail a done [] → AreListed pairs a done
visited_done clauses pairs trail a done visited r h watches =
    let one : Contains [] r ⊎ ((Contains done r) × (IsMet (get_or clauses r []) trail)) → Contains done r = λ was. elim was [ inl rest ↦ absurd (omega (arith, rest.1)) | inr met ↦ met.0 ] in
    elim watches [ inl e ↦ one (visited.first r h e) | inr e ↦ one (visited.second r h e) ]
