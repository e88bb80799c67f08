-- The analysis of a conflict, backwards over the trail.
use Rattle.std.proofs.Common.{◌≡◌, ◌≢◌, ◌⊎◌, inl, inr, ℕ, suc, zero, ◌+◌, ◌-◌, ◌<◌, ◌≤◌, List, ◌++◌, [], ◌∷◌, length, get_or, set, take, refl, sym, ap, ◌∙◌, subst, arith, Bool, true, false}
use Rattle.std.specs.Prelude.{ℤ, pos, nat_abs, neg_ℤ, Contains}
use Rattle.std.proofs.lemmas.Bool.{cases_lt, cases_eq}
use Rattle.std.proofs.lemmas.List.{get_or_default, get_or-take, length-take-le, get_or-set_same, get_or-set_other}
use Rattle.std.proofs.lemmas.List.Elements.{Contains-append_left, Contains-push, Contains-push_cases}
use lib.IntN.{neg_ℤ-neg_ℤ}
use Rattle.l2_cnf.proofs.Laws.{nat_abs-neg_ℤ}
use Rattle.l2_cnf.specs.Trail.{AreApart}
use Rattle.l2_cnf.proofs.Trails.{AreApart-push}
use Rattle.l2_cnf.specs.Logic.{Propagates, assumed}
use Rattle.l2_watch.specs.Past.{IsReason}
use Rattle.l2_watch.specs.Watch.{IsClosed, Refutes}
use Rattle.l2_watch.specs.Board.{Board, IsBoard, start_of, decision_of, HasCause}
use Rattle.l2_watch.proofs.Closed.{Refutes-resolve, no_conflict_within}
use Rattle.l2_watch.specs.Visit.{AreFalse}
use Rattle.l2_cdcl.specs.Level.{IsPresent}
use Rattle.l2_cdcl.specs.Analysis.{IsMarked, AreUnmarked, IsFalseBefore, IsOpen, IsAside, IsMore, HasVariable, IsTraced, IsLeft, IsPoint}

-- more literals are refuted too
pub Refutes-more : (list : List (List ℤ)) (few many : ℤ → Type 0) → ((m : ℤ) → few m → many m) → Refutes list few → Refutes list many
Refutes-more list few many more refutes given false_ones = refutes given (λ m h. false_ones m (more m h))

-- a literal that became false stands at one place
pub same_place : (trail : List ℤ) (i j : ℕ) (m : ℤ) → AreApart trail → i < length trail → j < length trail → get_or trail i (pos 0) ≡ neg_ℤ m → get_or trail j (pos 0) ≡ neg_ℤ m → i ≡ j
same_place trail i j m apart h k e f =
    let same : nat_abs (get_or trail i (pos 0)) ≡ nat_abs (get_or trail j (pos 0)) = ap nat_abs (e ∙ sym f) in
    elim (cases_lt i j) [
      | inl b ↦ absurd (apart i j b k same)
      | inr b ↦ elim (cases_eq i j) [
        | inl s ↦ s
        | inr ne ↦ absurd (apart j i (omega arith) h (sym same))
      ]
    ]

-- open literals stay open as more is marked
pub open_more : (trail : List ℤ) (low start end : ℕ) (marks marks' : List Bool) (aside aside' : List ℤ) → IsMore marks marks' aside aside' → (m : ℤ) → IsOpen trail low start end marks aside m → IsOpen trail low start end marks' aside' m
open_more trail low start end marks marks' aside aside' more m (inl put) = inl (more.put m put)
open_more trail low start end marks marks' aside aside' more m (inr (inl base)) = inr (inl base)
open_more trail low start end marks marks' aside aside' more m (inr (inr (j, a, b, c, d))) = inr (inr (j, a, b, c, more.marked (nat_abs m) d))

-- nothing is marked from one place on
pub open_end : (trail : List ℤ) (low start mid end : ℕ) (marks : List Bool) (aside : List ℤ) → AreUnmarked trail marks mid end → start ≤ mid → (m : ℤ) → IsOpen trail low start end marks aside m → IsOpen trail low start mid marks aside m
open_end trail low start mid end marks aside none h m (inl put) = inl put
open_end trail low start mid end marks aside none h m (inr (inl base)) = inr (inl base)
open_end trail low start mid end marks aside none h m (inr (inr (j, a, b, c, d))) = elim (cases_lt j mid) [
  | inl below ↦ inr (inr (j, a, below, c, d))
  | inr above ↦ absurd (none j above b (subst (IsMarked marks) (sym (nat_abs-neg_ℤ m) ∙ ap nat_abs (sym c)) d))
]

-- a literal that became false before a place is open there
pub open_nearer : (trail : List ℤ) (low start k j : ℕ) (marks : List Bool) (aside : List ℤ) (m : ℤ) → AreApart trail → k < length trail → j < k → get_or trail j (pos 0) ≡ neg_ℤ m → IsOpen trail low start (length trail) marks aside m → IsOpen trail low start k marks aside m
open_nearer trail low start k j marks aside m apart h b e (inl put) = inl put
open_nearer trail low start k j marks aside m apart h b e (inr (inl base)) = inr (inl base)
open_nearer trail low start k j marks aside m apart h b e (inr (inr (i, a, c, f, d))) =
    let same : i ≡ j = same_place trail i j m apart c (omega (arith, h, b)) f e in
    inr (inr (i, a, omega (arith, same, b), f, d))

-- what is open up to k is the negation of the literal there, or open before it
pub open_rest : (trail : List ℤ) (low start k : ℕ) (marks marks' : List Bool) (aside aside' : List ℤ) (m : ℤ) → IsMore marks marks' aside aside' → IsOpen trail low start (k + 1) marks aside m → (m ≡ neg_ℤ (get_or trail k (pos 0))) ⊎ IsOpen trail low start k marks' aside' m
open_rest trail low start k marks marks' aside aside' m more (inl put) = inr (inl (more.put m put))
open_rest trail low start k marks marks' aside aside' m more (inr (inl base)) = inr (inr (inl base))
open_rest trail low start k marks marks' aside aside' m more (inr (inr (j, a, b, c, d))) = elim (cases_lt j k) [
  | inl earlier ↦ inr (inr (inr (j, a, earlier, c, more.marked (nat_abs m) d)))
  | inr same ↦
      let e : j ≡ k = omega (arith, b, same) in
      inl (sym (neg_ℤ-neg_ℤ m) ∙ ap neg_ℤ (sym c ∙ ap (λ x. get_or trail x (pos 0)) e))
]

-- the other literals of the reason of the literal at k are open before it
pub open_others : (trail : List ℤ) (low start k : ℕ) (reason : List ℤ) (marks : List Bool) (aside : List ℤ) → AreApart trail → k < length trail → IsReason trail k reason → ((m : ℤ) → Contains reason m → m ≢ get_or trail k (pos 0) → IsOpen trail low start (length trail) marks aside m)
    → (m : ℤ) → Contains reason m → m ≢ get_or trail k (pos 0) → IsOpen trail low start k marks aside m
open_others trail low start k reason marks aside apart h is others m c ne =
    let place = is.others m c ne in
    open_nearer trail low start k place.0 marks aside m apart h place.1 place.2 (others m c ne)

-- a step: the other literals of the reason of the literal at k are open now
pub trace_step : (clauses : List (List ℤ)) (trail : List ℤ) (low start k : ℕ) (reason : List ℤ) (marks marks' : List Bool) (aside aside' : List ℤ) → AreApart trail → k < length trail
    → Contains clauses reason → IsReason trail k reason → IsMore marks marks' aside aside' → ((m : ℤ) → Contains reason m → m ≢ get_or trail k (pos 0) → IsOpen trail low start (length trail) marks' aside' m)
    → Refutes clauses (IsOpen trail low start (k + 1) marks aside) → Refutes clauses (IsOpen trail low start k marks' aside')
trace_step clauses trail low start k reason marks marks' aside aside' apart h inside is more others refutes =
    let l : ℤ = get_or trail k (pos 0) in
    let back : l ≡ neg_ℤ (neg_ℤ l) = sym (neg_ℤ-neg_ℤ l) in
    Refutes-resolve clauses (IsOpen trail low start (k + 1) marks aside) (IsOpen trail low start k marks' aside') reason (neg_ℤ l) inside (subst (Contains reason) back is.stands)
    (λ m c ne. open_others trail low start k reason marks' aside' apart h is others m c (λ e. ne (e ∙ back)))
    (λ m open_one. open_rest trail low start k marks marks' aside aside' m more open_one) refutes

-- where nothing below k is marked, no more is open than the literal at k and what was put aside
pub open_left : (trail : List ℤ) (low start k : ℕ) (marks : List Bool) (aside : List ℤ) → AreUnmarked trail marks start k → (m : ℤ) → IsOpen trail low start (k + 1) marks aside m → IsLeft trail low k aside m
open_left trail low start k marks aside none m (inl put) = inr (inl put)
open_left trail low start k marks aside none m (inr (inl base)) = inr (inr base)
open_left trail low start k marks aside none m (inr (inr (j, a, b, c, d))) = elim (cases_lt j k) [
  | inl earlier ↦ absurd (none j a earlier (subst (IsMarked marks) (sym (nat_abs-neg_ℤ m) ∙ ap nat_abs (sym c)) d))
  | inr same ↦
      let e : j ≡ k = omega (arith, b, same) in
      inl (sym (neg_ℤ-neg_ℤ m) ∙ ap neg_ℤ (sym c ∙ ap (λ x. get_or trail x (pos 0)) e))
]

-- where nothing below k is marked, the literal at k is the first point through which the conflict goes
pub first_point : (clauses : List (List ℤ)) (trail : List ℤ) (low start k : ℕ) (marks : List Bool) (aside : List ℤ) → AreUnmarked trail marks start k → IsTraced clauses trail low start k marks aside → IsPoint clauses trail low start k aside
first_point clauses trail low start k marks aside none is = record {
  first = is.first;
  within = is.within;
  below = is.put.below;
  refutes = Refutes-more clauses (IsOpen trail low start (k + 1) marks aside) (IsLeft trail low k aside) (open_left trail low start k marks aside none) is.refutes;
  apart = is.put.apart;
  here = is.known (nat_abs (get_or trail k (pos 0))) is.here;
  known = λ m h. is.known (nat_abs m) (is.put.noted m h);
}

part_has : (trail : List ℤ) (n j : ℕ) (m : ℤ) → n ≤ length trail → j < n → get_or trail j (pos 0) ≡ m → Contains (take n trail) m
part_has trail n j m h b e =
    let c : length (take n trail) ≡ n = length-take-le n trail h in
    (j, omega (arith, b, c), get_or_default (take n trail) j m (pos 0) (omega (arith, b, c)) ∙ get_or-take n trail j (pos 0) b ∙ e)

-- below the present level there is no conflict, so something of the level is open
pub not_exhausted : (clauses : List (List ℤ)) (trail : List ℤ) (low start end : ℕ) (marks : List Bool) (aside : List ℤ) → low ≤ start → start ≤ length trail → IsClosed clauses (take start trail) → IsAside trail low start marks aside → AreUnmarked trail marks start end → Refutes clauses (IsOpen trail low start end marks aside) → ⊥
not_exhausted clauses trail low start end marks aside h within closed is none refutes =
    let there : (m : ℤ) (n : ℕ) → n ≤ start → IsFalseBefore trail n m → Propagates clauses (Contains (take start trail)) (neg_ℤ m) = λ m n k (j, b, e). assumed (part_has trail start j (neg_ℤ m) within (omega (arith, b, k)) e) in
    no_conflict_within clauses (take start trail) (Contains (take start trail)) closed (λ m k. k) (refutes (take start trail) (λ m open_one. elim open_one [
      | inl put ↦ there m start (omega arith) (is.below m put)
      | inr (inl base) ↦ there m low h base
      | inr (inr (j, a, b, c, d)) ↦ absurd (none j a b (subst (IsMarked marks) (sym (nat_abs-neg_ℤ m) ∙ ap nat_abs (sym c)) d))
    ]))

-- literals of one variable that are false stand at one place
pub one_place : (trail : List ℤ) (i j : ℕ) (l m : ℤ) → AreApart trail → i < length trail → j < length trail → get_or trail i (pos 0) ≡ neg_ℤ l → get_or trail j (pos 0) ≡ neg_ℤ m → nat_abs m ≡ nat_abs l → (i ≡ j) × (m ≡ l)
one_place trail i j l m apart h k e f s =
    let same : nat_abs (get_or trail i (pos 0)) ≡ nat_abs (get_or trail j (pos 0)) = ap nat_abs e ∙ nat_abs-neg_ℤ l ∙ sym s ∙ sym (nat_abs-neg_ℤ m) ∙ sym (ap nat_abs f) in
    let at : i ≡ j = elim (cases_lt i j) [
      | inl b ↦ absurd (apart i j b k same)
      | inr b ↦ elim (cases_eq i j) [
        | inl t ↦ t
        | inr ne ↦ absurd (apart j i (omega arith) h (sym same))
      ]
    ] in
    (at, sym (neg_ℤ-neg_ℤ m) ∙ ap neg_ℤ (sym f ∙ ap (λ x. get_or trail x (pos 0)) (sym at) ∙ e) ∙ neg_ℤ-neg_ℤ l)

-- marks after one more
marked_more : (marks : List Bool) (v w : ℕ) → v < length marks → IsMarked marks w → IsMarked (set marks v true) w
marked_more marks v w h is = elim (cases_eq w v) [
  | inl e ↦ ap (λ x. get_or (set marks v true) x false) e ∙ get_or-set_same marks v true false h
  | inr ne ↦ get_or-set_other marks v w true false ne ∙ is
]

marked_now : (marks : List Bool) (v : ℕ) → v < length marks → IsMarked (set marks v true) v
marked_now marks v h = get_or-set_same marks v true false h

marked_was : (marks : List Bool) (v w : ℕ) → IsMarked (set marks v true) w → w ≢ v → IsMarked marks w
marked_was marks v w is ne = sym (get_or-set_other marks v w true false ne) ∙ is

-- a mark after one more
pub marked_from : (marks : List Bool) (v w : ℕ) → IsMarked (set marks v true) w → IsMarked marks w ⊎ (v ≡ w)
marked_from marks v w is = elim (cases_eq w v) [
  | inl e ↦ inr (sym e)
  | inr ne ↦ inl (marked_was marks v w is ne)
]

pub more_same : (marks : List Bool) (aside : List ℤ) → IsMore marks marks aside aside
more_same marks aside = record { marked = λ v h. h; put = λ m h. h }

pub more_then : (a b c : List Bool) (x y z : List ℤ) → IsMore a b x y → IsMore b c y z → IsMore a c x z
more_then a b c x y z one two = record { marked = λ v h. two.marked v (one.marked v h); put = λ m h. two.put m (one.put m h) }

module _ (trail : List ℤ) (low start place : ℕ) (marks : List Bool) (aside : List ℤ) (l : ℤ) (h : place < length trail) (e : get_or trail place (pos 0) ≡ neg_ℤ l) where
  -- a literal before `low` needs no care
  pub low_open : place < low → IsOpen trail low start (length trail) marks aside l
  low_open b = inr (inl (place, b, e))

  -- a literal whose variable is marked is open
  pub marked_open : IsAside trail low start marks aside → IsMarked marks (nat_abs l) → IsOpen trail low start (length trail) marks aside l
  marked_open is marked = elim (cases_lt place start) [
    | inl b ↦ elim (is.marked l (place, b, e) marked) [ inl base ↦ inr (inl base) | inr put ↦ inl put ]
    | inr b ↦ inr (inr (place, b, h, e, marked))
  ]

  -- a literal of the present level is marked
  pub mark_here : IsAside trail low start marks aside → AreApart trail → start ≤ length trail → nat_abs l < length marks → start ≤ place → (IsMore marks (set marks (nat_abs l) true) aside aside) × (IsAside trail low start (set marks (nat_abs l) true) aside) × (IsOpen trail low start (length trail) (set marks (nat_abs l) true) aside l)
  mark_here is apart most room high = (
    record { marked = λ v k. marked_more marks (nat_abs l) v room k; put = λ m k. k },
    record {
      below = is.below;
      marked = λ m (j, b, f) k. elim (cases_eq (nat_abs m) (nat_abs l)) [
        | inl s ↦ absurd (let one = one_place trail place j l m apart h (omega (arith, b, most)) e f s in omega (arith, one.0, b, high))
        | inr ne ↦ is.marked m (j, b, f) (marked_was marks (nat_abs l) (nat_abs m) k ne)
      ];
      noted = λ m k. marked_more marks (nat_abs l) (nat_abs m) room (is.noted m k);
      apart = is.apart;
    },
    inr (inr (place, high, h, e, marked_now marks (nat_abs l) room)),
  )

  -- a literal of a lower level is put aside
  pub mark_below : IsAside trail low start marks aside → AreApart trail → start ≤ length trail → nat_abs l < length marks → ¬ IsMarked marks (nat_abs l) → place < start → (IsMore marks (set marks (nat_abs l) true) aside (aside ++ l ∷ [])) × (IsAside trail low start (set marks (nat_abs l) true) (aside ++ l ∷ [])) × (IsOpen trail low start (length trail) (set marks (nat_abs l) true) (aside ++ l ∷ []) l)
  mark_below is apart most room unmarked high = (
    record { marked = λ v k. marked_more marks (nat_abs l) v room k; put = λ m k. Contains-append_left aside (l ∷ []) m k },
    record {
      below = λ m k. elim (Contains-push_cases aside l m k) [
        | inl old ↦ is.below m old
        | inr s ↦ (place, high, e ∙ ap neg_ℤ s)
      ];
      marked = λ m (j, b, f) k. elim (cases_eq (nat_abs m) (nat_abs l)) [
        | inl s ↦ inr (let one = one_place trail place j l m apart h (omega (arith, b, most)) e f s in subst (Contains (aside ++ l ∷ [])) (sym one.1) (Contains-push aside l))
        | inr ne ↦ elim (is.marked m (j, b, f) (marked_was marks (nat_abs l) (nat_abs m) k ne)) [
          | inl base ↦ inl base
          | inr put ↦ inr (Contains-append_left aside (l ∷ []) m put)
        ]
      ];
      noted = λ m k. elim (Contains-push_cases aside l m k) [
        | inl old ↦ marked_more marks (nat_abs l) (nat_abs m) room (is.noted m old)
        | inr s ↦ subst (λ x. IsMarked (set marks (nat_abs l) true) (nat_abs x)) s (marked_now marks (nat_abs l) room)
      ];
      apart = AreApart-push aside l is.apart (λ m k same. unmarked (subst (IsMarked marks) same (is.noted m k)));
    },
    inl (Contains-push aside l),
  )

-- what was decided stands where its level opened
pub cause_zero : (clauses : List (List ℤ)) (literals : List ℤ) (levels : List (ℕ × ℤ)) (k reason : ℕ) → HasCause clauses literals levels k reason → reason ≡ 0 → (j : ℕ) × (j < length levels) × (start_of levels j ≡ k) × (decision_of levels j ≡ get_or literals k (pos 0))
cause_zero clauses literals levels k zero cause e = cause
cause_zero clauses literals levels k (suc r) cause e = absurd (let f : suc r ≡ zero = e in cc)

-- what wasn't decided has a clause
pub cause_some : (clauses : List (List ℤ)) (literals : List ℤ) (levels : List (ℕ × ℤ)) (k reason : ℕ) → HasCause clauses literals levels k reason → reason ≢ 0 → (reason - 1 < length clauses) × (IsReason literals k (get_or clauses (reason - 1) []))
cause_some clauses literals levels k zero cause ne = absurd (ne refl)
cause_some clauses literals levels k (suc r) cause ne =
    let e : suc r - 1 ≡ r = omega arith in
    rw e cause

module _ (b : Board) (is : IsBoard b) (low start : ℕ) (present : IsPresent b low start) where
  pub start_within : start ≤ length b.past.literals
  start_within =
      let (n, e, f) = present.last in
      omega (arith, f, is.levels.within n (omega (arith, e)))

  pub low_within : low ≤ start
  low_within =
      let (n, e, f) = present.last in
      omega (arith, present.low_is, f, is.levels.rising 0 n (omega arith) (omega (arith, e)))

  -- below the present level propagation is complete
  pub closed_below : IsClosed b.clauses (take start b.past.literals)
  closed_below =
      let (n, e, f) = present.last in
      subst (λ s. IsClosed b.clauses (take s b.past.literals)) (sym f) (is.before present.ready n (omega (arith, e)))

  -- a conflict needs a literal
  pub some_literal : (clause : List ℤ) → Contains b.clauses clause → AreFalse b.past.literals clause → 0 < length b.past.literals
  some_literal clause c false_ones = elim (cases_lt 0 (length b.past.literals)) [
    | inl h ↦ h
    | inr h ↦ absurd (closed_below.live clause c (λ m k. let there = false_ones m k in absurd (omega (arith, there.1, h))))
  ]

  -- a decided literal of the present level is its first
  pub decided_first : (k : ℕ) → start ≤ k → (j : ℕ) → j < length b.levels → start_of b.levels j ≡ k → k ≡ start
  decided_first k low_k j h e =
      let (n, g, f) = present.last in
      omega (arith, low_k, e, f, is.levels.rising j n (omega (arith, h, g)) (omega (arith, g)))

  -- the trace goes on
  pub traced_to : (k end : ℕ) (marks : List Bool) (aside : List ℤ) → start ≤ k → k < end → end ≤ length b.past.literals → IsAside b.past.literals low start marks aside → AreUnmarked b.past.literals marks (k + 1) end → IsMarked marks (nat_abs (get_or b.past.literals k (pos 0))) → ((v : ℕ) → IsMarked marks v → HasVariable b.clauses v) → Refutes b.clauses (IsOpen b.past.literals low start end marks aside) → IsTraced b.clauses b.past.literals low start k marks aside
  traced_to k end marks aside first last within put none here known refutes = record {
    first = first;
    within = omega (arith, last, within);
    put = put;
    refutes = Refutes-more b.clauses (IsOpen b.past.literals low start end marks aside) (IsOpen b.past.literals low start (k + 1) marks aside) (open_end b.past.literals low start (k + 1) end marks aside none (omega (arith, first))) refutes;
    here = here;
    known = known;
  }

  -- something is open
  pub some_open : (end : ℕ) (marks : List Bool) (aside : List ℤ) → IsAside b.past.literals low start marks aside → Refutes b.clauses (IsOpen b.past.literals low start end marks aside) → ¬ AreUnmarked b.past.literals marks start end
  some_open end marks aside put refutes none = not_exhausted b.clauses b.past.literals low start end marks aside low_within start_within closed_below put none refutes
