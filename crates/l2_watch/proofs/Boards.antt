-- What a board keeps as it grows, goes back and learns.
use Rattle.std.proofs.Common.{add-one, ◌≡◌, ◌≢◌, ◌⊎◌, inl, inr, ℕ, suc, zero, ◌+◌, ◌*◌, ◌^◌, ◌<◌, ◌≤◌, List, ◌++◌, [], ◌∷◌, take, length, get_or, set, refl, sym, ap, ◌∙◌, subst, arith, Bool, true, false}
use Rattle.std.specs.Prelude.{ℤ, pos, neg_ℤ, nat_abs, Contains}
use Rattle.std.proofs.lemmas.Bool.{cases_lt, cases_eq}
use Rattle.std.proofs.lemmas.List.{get_or_append_left, get_or_push, get_or_default, length_push, get_or-take, take-take, take-append-le, take_all, length-take-le}
use Rattle.std.proofs.lemmas.List.Elements.{Contains-append_left, Contains-push, Contains-push_cases}
use Rattle.l2_cnf.specs.Lit.{code_of}
use Rattle.l2_cnf.specs.Trail.{AreOver, AreApart}
use Rattle.l2_cnf.proofs.Laws.{nat_abs-neg_ℤ}
use Rattle.l2_watch.specs.Past.{Past, IsReason, IsImplied, IsGrown}
use Rattle.l2_watch.specs.Watch.{IsConsistent, IsPair, IsGuarded, IsClosed}
use Rattle.l2_watch.specs.Visit.{pair_of, list_of, ArePairs, AreFound, AreListed, AreGuarded, AreMore, KeepsParts, IsRaised}
use Rattle.l2_watch.specs.Board.{Board, IsBoard, start_of, decision_of, AreLevels, HasCause, AreStored, IsKept, IsLearnt}
use Rattle.l2_watch.proofs.Closed.{guards_close}
use Rattle.l2_watch.proofs.Moves.{Contains-take, guard_more, code_within}
use Rattle.l2_watch.proofs.Pasts.{IsReason-push, IsReason-same, part_same, grown_more, grown_part}
use Rattle.l2_watch.proofs.Visits.{not_self}
use Rattle.l2_watch.proofs.Rounds.{stored_round}

-- literals of distinct variables hold none with its negation
pub apart_consistent : (n : ℕ) (trail : List ℤ) → AreOver n trail → AreApart trail → IsConsistent trail
apart_consistent n trail over apart l (i, h, e) (j, k, f) =
    let at_i : get_or trail i (pos 0) ≡ l = get_or_default trail i (pos 0) l h ∙ e in
    let at_j : get_or trail j (pos 0) ≡ neg_ℤ l = get_or_default trail j (pos 0) (neg_ℤ l) k ∙ f in
    let same : nat_abs (get_or trail i (pos 0)) ≡ nat_abs (get_or trail j (pos 0)) = ap nat_abs at_i ∙ sym (nat_abs-neg_ℤ l) ∙ sym (ap nat_abs at_j) in
    elim (cases_lt i j) [
      | inl b ↦ apart i j b k same
      | inr b ↦ elim (cases_eq i j) [
        | inl s ↦ not_self l (over l (i, h, e)).0 (sym at_i ∙ ap (λ x. get_or trail x (pos 0)) s ∙ at_j)
        | inr ne ↦ apart j i (omega arith) h (sym same)
      ]
    ]

-- guarded pairs close a trail
pub stored_closed : (clauses : List (List ℤ)) (pairs : List (ℤ × ℤ)) (trail : List ℤ) → length pairs ≡ length clauses → ((r : ℕ) → r < length clauses → IsPair (get_or clauses r []) (pair_of pairs r).0 (pair_of pairs r).1) → IsConsistent trail → AreGuarded clauses pairs trail trail → IsClosed clauses trail
stored_closed clauses pairs trail count are consistent guarded = guards_close clauses trail consistent (λ clause (r, h, e).
    let p : ℤ × ℤ = pair_of pairs r in
    let same : get_or clauses r [] ≡ clause = get_or_default clauses r [] clause h ∙ e in
    (p.0, p.1, subst (λ c. IsPair c p.0 p.1) same (are r h), subst (λ c. IsGuarded c trail trail p.0 p.1) same (guarded r (omega arith))))

-- a part of a consistent trail is consistent
pub part_consistent : (trail : List ℤ) (b : ℕ) → b ≤ length trail → IsConsistent trail → IsConsistent (take b trail)
part_consistent trail b h c l x y = c l (Contains-take b trail l h x) (Contains-take b trail (neg_ℤ l) h y)

pub full_pair : (clauses : List (List ℤ)) (n : ℕ) (pairs : List (ℤ × ℤ)) (lists : List (List ℕ)) → AreStored clauses n pairs lists → ((r : ℕ) → r < length clauses → get_or clauses r [] ≢ []) → (r : ℕ) → r < length clauses → IsPair (get_or clauses r []) (pair_of pairs r).0 (pair_of pairs r).1
full_pair clauses n pairs lists stored full r h = elim (stored.pair r h) [ inl none ↦ absurd (full r h none) | inr p ↦ p ]

pub IsBoard-from : (b : Board) (pairs : List (ℤ × ℤ)) (lists : List (List ℕ)) → IsKept b.clauses b.variables pairs lists b.past b.levels b.seen b.ready → length b.past.literals ≤ b.past.variables → AreOver b.past.variables b.past.literals → AreApart b.past.literals → length b.past.reasons ≡ length b.past.literals → IsBoard b
IsBoard-from b pairs lists kept most over apart count =
    let consistent = apart_consistent b.past.variables b.past.literals over apart in
    record {
      over = kept.stored.over;
      small = omega (arith, kept.stored.small);
      literals_over = λ l h. (let o = over l h in (o.0, omega (arith, o.1, kept.within)));
      apart = apart;
      consistent = consistent;
      most = omega (arith, kept.within);
      count = count;
      seen = kept.looked;
      levels = kept.opened;
      caused = kept.caused;
      before = λ ready j h.
          let w = kept.watched ready in
          stored_closed b.clauses pairs (take (start_of b.levels j) b.past.literals) kept.stored.count (full_pair b.clauses b.variables pairs lists kept.stored w.full)
          (part_consistent b.past.literals (start_of b.levels j) (kept.opened.within j h) consistent) (w.parts j h);
      closed = λ ready e.
          let w = kept.watched ready in
          let all : take b.seen b.past.literals ≡ b.past.literals = take_all b.seen b.past.literals (omega arith) in
          stored_closed b.clauses pairs b.past.literals kept.stored.count (full_pair b.clauses b.variables pairs lists kept.stored w.full) consistent (subst (λ t. AreGuarded b.clauses pairs t b.past.literals) all w.guarded);
    }

-- the lists have more
pub AreStored-more : (clauses : List (List ℤ)) (n : ℕ) (pairs : List (ℤ × ℤ)) (lists lists' : List (List ℕ)) → AreStored clauses n pairs lists → AreMore lists lists' → length lists ≤ length lists' → AreStored clauses n pairs lists'
AreStored-more clauses n pairs lists lists' stored more longer = record {
  count = stored.count;
  over = stored.over;
  pair = stored.pair;
  found = record { first = λ r h. more (pair_of pairs r).0 r (stored.found.first r h); second = λ r h. more (pair_of pairs r).1 r (stored.found.second r h) };
  room = omega (arith, stored.room);
  some = stored.some;
  small = stored.small;
}

pub IsKept-more : (clauses : List (List ℤ)) (n : ℕ) (pairs : List (ℤ × ℤ)) (lists lists' : List (List ℕ)) (past : Past) (levels : List (ℕ × ℤ)) (seen : ℕ) (ready : Bool) → IsKept clauses n pairs lists past levels seen ready → AreMore lists lists' → length lists ≤ length lists' → IsKept clauses n pairs lists' past levels seen ready
IsKept-more clauses n pairs lists lists' past levels seen ready kept more longer = record {
  stored = AreStored-more clauses n pairs lists lists' kept.stored more longer;
  within = kept.within;
  looked = kept.looked;
  opened = kept.opened;
  caused = kept.caused;
  watched = kept.watched;
}

-- more variables
pub IsKept-cover : (clauses : List (List ℤ)) (n m : ℕ) (pairs : List (ℤ × ℤ)) (lists lists' : List (List ℕ)) (past : Past) (levels : List (ℕ × ℤ)) (seen : ℕ) (ready : Bool) → IsKept clauses n pairs lists past levels seen ready → AreMore lists lists' → length lists ≤ length lists' → n ≤ m → m < 2 ^ 31 → 2 * m + 2 ≤ length lists' → ready ≡ false → IsKept clauses m pairs lists' past levels seen ready
IsKept-cover clauses n m pairs lists lists' past levels seen ready kept more longer h small room idle =
    let stored = AreStored-more clauses n pairs lists lists' kept.stored more longer in
    record {
      stored = record { count = stored.count; over = λ c k l i. (let o = stored.over c k l i in (o.0, omega (arith, o.1, h))); pair = stored.pair; found = stored.found; room = room; some = omega (arith, stored.some, h); small = small };
      within = omega (arith, kept.within, h);
      looked = kept.looked;
      opened = kept.opened;
      caused = kept.caused;
      watched = λ is. absurd (let t : true ≡ false = sym is ∙ idle in cc);
    }

-- one more clause, with its pair
pub AreStored-attach : (clauses : List (List ℤ)) (n : ℕ) (pairs : List (ℤ × ℤ)) (lists lists' : List (List ℕ)) (clause : List ℤ) (p : ℤ × ℤ) → AreStored clauses n pairs lists → AreOver n clause → ((clause ≡ []) ⊎ IsPair clause p.0 p.1) → AreMore lists lists' → length lists' ≡ length lists → Contains (list_of lists' p.0) (length clauses) → Contains (list_of lists' p.1) (length clauses) → AreStored (clauses ++ clause ∷ []) n (pairs ++ p ∷ []) lists'
AreStored-attach clauses n pairs lists lists' clause p stored over is more same first second =
    let c : length (clauses ++ clause ∷ []) ≡ length clauses + 1 = length_push clauses clause in
    let d : length (pairs ++ p ∷ []) ≡ length pairs + 1 = length_push pairs p in
    let old_pair : (r : ℕ) → r < length pairs → pair_of (pairs ++ p ∷ []) r ≡ pair_of pairs r = λ r h. get_or_append_left pairs (p ∷ []) (pos 0, pos 0) r h in
    let new_pair : (r : ℕ) → r ≡ length pairs → pair_of (pairs ++ p ∷ []) r ≡ p = λ r e. get_or_push pairs p (pos 0, pos 0) r (sym e) in
    let old_clause : (r : ℕ) → r < length clauses → get_or (clauses ++ clause ∷ []) r [] ≡ get_or clauses r [] = λ r h. get_or_append_left clauses (clause ∷ []) [] r h in
    let new_clause : (r : ℕ) → r ≡ length clauses → get_or (clauses ++ clause ∷ []) r [] ≡ clause = λ r e. get_or_push clauses clause [] r (sym e) in
    record {
      count = omega (arith, stored.count, c, d);
      over = λ x h. elim (Contains-push_cases clauses clause x h) [ inl old ↦ stored.over x old | inr e ↦ subst (AreOver n) e over ];
      pair = λ r h. elim (cases_lt r (length clauses)) [
        | inl b ↦ rw (old_clause r b, old_pair r (omega (arith, stored.count, b))) (stored.pair r b)
        | inr b ↦
            let e : r ≡ length clauses = omega (arith, h, c) in
            rw (new_clause r e, new_pair r (omega (arith, stored.count, e))) is
      ];
      found = record {
        first = λ r h. elim (cases_lt r (length pairs)) [
          | inl b ↦ rw (old_pair r b) (more (pair_of pairs r).0 r (stored.found.first r b))
          | inr b ↦
              let e : r ≡ length pairs = omega (arith, h, d) in
              let f : r ≡ length clauses = omega (arith, stored.count) in
              rw (new_pair r e, f) first
        ];
        second = λ r h. elim (cases_lt r (length pairs)) [
          | inl b ↦ rw (old_pair r b) (more (pair_of pairs r).1 r (stored.found.second r b))
          | inr b ↦
              let e : r ≡ length pairs = omega (arith, h, d) in
              let f : r ≡ length clauses = omega (arith, stored.count) in
              rw (new_pair r e, f) second
        ];
      };
      room = omega (arith, stored.room, same);
      some = stored.some;
      small = stored.small;
    }

-- a cause stays as clauses, levels and literals are added
pub HasCause-same : (clauses clauses' : List (List ℤ)) (old new : List ℤ) (levels levels' : List (ℕ × ℤ)) (k reason : ℕ) → HasCause clauses old levels k reason
    → length clauses ≤ length clauses' → ((r : ℕ) → r < length clauses → get_or clauses' r [] ≡ get_or clauses r [])
    → ((j : ℕ) → j ≤ k → get_or new j (pos 0) ≡ get_or old j (pos 0))
    → ((j : ℕ) → j < length levels → start_of levels j ≡ k → (j < length levels') × (start_of levels' j ≡ start_of levels j) × (decision_of levels' j ≡ decision_of levels j))
    → HasCause clauses' new levels' k reason
HasCause-same clauses clauses' old new levels levels' k zero (j, h, at, is) longer same literals opened =
    let there = opened j h at in
    (j, there.0, there.1 ∙ at, there.2 ∙ is ∙ sym (literals k (omega arith)))
HasCause-same clauses clauses' old new levels levels' k (suc r) (h, is) longer same literals opened =
    (omega (arith, h, longer), rw (same r h) (IsReason-same old new (get_or clauses r []) k is literals))

-- the parts of a list are those of a longer one
pub take_push : {A : Type 0} (xs : List A) (x : A) (b : ℕ) → b ≤ length xs → take b (xs ++ x ∷ []) ≡ take b xs
take_push xs x b h = take-append-le b xs (x ∷ []) h

-- one more literal behind
pub AreLevels-push : (literals : List ℤ) (levels : List (ℕ × ℤ)) (l : ℤ) → AreLevels literals levels → AreLevels (literals ++ l ∷ []) levels
AreLevels-push literals levels l are = record {
  within = λ j h. omega (arith, are.within j h, length_push literals l);
  rising = are.rising;
  made = λ i j h k. rw (take_push literals l (start_of levels j) (are.within j k)) (are.made i j h k);
  held = λ i h. Contains-append_left literals (l ∷ []) (decision_of levels i) (are.held i h);
}

-- a literal that a clause implied has a cause
pub implied_cause : (clauses : List (List ℤ)) (literals : List ℤ) (levels : List (ℕ × ℤ)) (k reason : ℕ) → IsImplied clauses literals k reason → HasCause clauses literals levels k reason
implied_cause clauses literals levels k zero is = absurd is
implied_cause clauses literals levels k (suc r) is = is

part_of : (old new : List ℤ) (b : ℕ) → take (length old) new ≡ old → b ≤ length old → take b new ≡ take b old
part_of old new b e h = sym (take-take b (length old) new h) ∙ ap (take b) e

-- levels as the literals grow
pub AreLevels-longer : (old new : List ℤ) (levels : List (ℕ × ℤ)) → AreLevels old levels → take (length old) new ≡ old → length old ≤ length new → ((m : ℤ) → Contains old m → Contains new m) → AreLevels new levels
AreLevels-longer old new levels are same longer more = record {
  within = λ j h. omega (arith, are.within j h, longer);
  rising = are.rising;
  made = λ i j h k. rw (part_of old new (start_of levels j) same (are.within j k)) (are.made i j h k);
  held = λ i h. more (decision_of levels i) (are.held i h);
}

no_level : (j : ℕ) → j < length {A = ℕ × ℤ} [] → ⊥
no_level j h = omega (arith, h)

-- no level
pub AreLevels-none : (literals : List ℤ) → AreLevels literals []
AreLevels-none literals = record {
  within = λ j h. absurd (no_level j h);
  rising = λ i j h k. absurd (no_level j k);
  made = λ i j h k. absurd (no_level j k);
  held = λ i h. absurd (no_level i h);
}

-- the levels of a longer list and of a part
start_before : (levels : List (ℕ × ℤ)) (x : ℕ × ℤ) (j : ℕ) → j < length levels → start_of (levels ++ x ∷ []) j ≡ start_of levels j
start_before levels x j h = ap (λ p. p.0) (get_or_append_left levels (x ∷ []) (0, pos 0) j h)

decision_before : (levels : List (ℕ × ℤ)) (x : ℕ × ℤ) (j : ℕ) → j < length levels → decision_of (levels ++ x ∷ []) j ≡ decision_of levels j
decision_before levels x j h = ap (λ p. p.1) (get_or_append_left levels (x ∷ []) (0, pos 0) j h)

start_here : (levels : List (ℕ × ℤ)) (x : ℕ × ℤ) (j : ℕ) → j ≡ length levels → start_of (levels ++ x ∷ []) j ≡ x.0
start_here levels x j e = ap (λ p. p.0) (get_or_push levels x (0, pos 0) j (sym e))

decision_here : (levels : List (ℕ × ℤ)) (x : ℕ × ℤ) (j : ℕ) → j ≡ length levels → decision_of (levels ++ x ∷ []) j ≡ x.1
decision_here levels x j e = ap (λ p. p.1) (get_or_push levels x (0, pos 0) j (sym e))

pub start_part : (levels : List (ℕ × ℤ)) (level j : ℕ) → j < level → start_of (take level levels) j ≡ start_of levels j
start_part levels level j h = ap (λ p. p.0) (get_or-take level levels j (0, pos 0) h)

decision_part : (levels : List (ℕ × ℤ)) (level j : ℕ) → j < level → decision_of (take level levels) j ≡ decision_of levels j
decision_part levels level j h = ap (λ p. p.1) (get_or-take level levels j (0, pos 0) h)

-- one more level
pub AreLevels-open : (old new : List ℤ) (levels : List (ℕ × ℤ)) (l : ℤ) → AreLevels old levels → take (length old) new ≡ old → length old ≤ length new → ((m : ℤ) → Contains old m → Contains new m) → Contains new l → AreLevels new (levels ++ (length old, l) ∷ [])
AreLevels-open old new levels l are same longer more there =
    let x : ℕ × ℤ = (length old, l) in
    let c : length (levels ++ x ∷ []) ≡ length levels + 1 = length_push levels x in
    record {
      within = λ j h. elim (cases_lt j (length levels)) [
        | inl b ↦ omega (arith, start_before levels x j b, are.within j b, longer)
        | inr b ↦ (let e : j ≡ length levels = omega (arith, h, c) in omega (arith, start_here levels x j e, longer))
      ];
      rising = λ i j h k. elim (cases_lt j (length levels)) [
        | inl b ↦ (let a : i < length levels = omega (arith, h, b) in omega (arith, start_before levels x i a, start_before levels x j b, are.rising i j h b))
        | inr b ↦
            let e : j ≡ length levels = omega (arith, k, c) in
            elim (cases_lt i (length levels)) [
              | inl a ↦ omega (arith, start_before levels x i a, start_here levels x j e, are.within i a)
              | inr a ↦ (let f : i ≡ length levels = omega (arith, h, k, c) in omega (arith, start_here levels x i f, start_here levels x j e))
            ]
      ];
      made = λ i j h k. elim (cases_lt j (length levels)) [
        | inl b ↦ (let a : i < length levels = omega (arith, h, b) in rw (decision_before levels x i a, start_before levels x j b, part_of old new (start_of levels j) same (are.within j b)) (are.made i j h b))
        | inr b ↦
            let e : j ≡ length levels = omega (arith, k, c) in
            let a : i < length levels = omega (arith, h, e) in
            rw (decision_before levels x i a, start_here levels x j e, same) (are.held i a)
      ];
      held = λ i h. elim (cases_lt i (length levels)) [
        | inl b ↦ rw (decision_before levels x i b) (more (decision_of levels i) (are.held i b))
        | inr b ↦ (let e : i ≡ length levels = omega (arith, h, c) in rw (decision_here levels x i e) there)
      ];
    }

-- levels after the way back
pub AreLevels-back : (literals : List ℤ) (levels : List (ℕ × ℤ)) (level : ℕ) → AreLevels literals levels → level < length levels → AreLevels (take (start_of levels level) literals) (take level levels)
AreLevels-back literals levels level are h =
    let s : ℕ = start_of levels level in
    let n : length (take s literals) ≡ s = length-take-le s literals (are.within level h) in
    let c : length (take level levels) ≡ level = length-take-le level levels (omega (arith, h)) in
    record {
      within = λ j k. (let b : j < level = omega (arith, k, c) in omega (arith, start_part levels level j b, n, are.rising j level (omega (arith, b)) h));
      rising = λ i j k l.
          let b : j < level = omega (arith, l, c) in
          let a : i < level = omega (arith, k, b) in
          omega (arith, start_part levels level i a, start_part levels level j b, are.rising i j k (omega (arith, b, h)));
      made = λ i j k l.
          let b : j < level = omega (arith, l, c) in
          let a : i < level = omega (arith, k, b) in
          rw (decision_part levels level i a, start_part levels level j b, take-take (start_of levels j) s literals (are.rising j level (omega (arith, b)) h)) (are.made i j k (omega (arith, b, h)));
      held = λ i k. (let b : i < level = omega (arith, k, c) in rw (decision_part levels level i b) (are.made i level b h));
    }

-- no clause, and no literal that is true
pub IsKept-new : (clauses : List (List ℤ)) (pairs : List (ℤ × ℤ)) (lists : List (List ℕ)) (past : Past) (levels : List (ℕ × ℤ)) → clauses ≡ [] → pairs ≡ [] → 4 ≤ length lists → past.variables ≡ 1 → past.literals ≡ [] → levels ≡ [] → IsKept clauses 1 pairs lists past levels 0 false
IsKept-new clauses pairs lists past levels ce pe room vars empty none = record {
  stored = record {
    count = omega (arith, ap length ce, ap length pe);
    over = λ clause h. absurd (omega (arith, h.1, ap length ce));
    pair = λ r h. absurd (omega (arith, h, ap length ce));
    found = record { first = λ r h. absurd (omega (arith, h, ap length pe)); second = λ r h. absurd (omega (arith, h, ap length pe)) };
    room = omega (arith, room);
    some = omega arith;
    small = omega arith;
  };
  within = omega (arith, vars);
  looked = omega arith;
  opened = rw none (AreLevels-none past.literals);
  caused = λ k h. absurd (omega (arith, h, ap length empty));
  watched = λ is. absurd (let t : true ≡ false = sym is in cc);
}

-- a literal is decided
pub IsKept-decide : (clauses : List (List ℤ)) (n : ℕ) (pairs : List (ℤ × ℤ)) (lists : List (List ℕ)) (old new : Past) (levels : List (ℕ × ℤ)) (seen : ℕ) (ready : Bool) (l : ℤ)
    → IsKept clauses n pairs lists old levels seen ready → seen ≡ length old.literals → new.variables ≡ old.variables
    → take (length old.literals) new.literals ≡ old.literals → length old.literals ≤ length new.literals → ((m : ℤ) → Contains old.literals m → Contains new.literals m) → Contains new.literals l
    → ((k : ℕ) → k < length old.literals → get_or new.reasons k 0 ≡ get_or old.reasons k 0)
    → ((k : ℕ) → length old.literals ≤ k → k < length new.literals → (k ≡ length old.literals) × (get_or new.literals k (pos 0) ≡ l) × (get_or new.reasons k 0 ≡ 0))
    → IsKept clauses n pairs lists new (levels ++ (length old.literals, l) ∷ []) seen ready
IsKept-decide clauses n pairs lists old new levels seen ready l kept e vars same longer more there reasons extra =
    let x : ℕ × ℤ = (length old.literals, l) in
    let c : length (levels ++ x ∷ []) ≡ length levels + 1 = length_push levels x in
    record {
      stored = kept.stored;
      within = omega (arith, kept.within, vars);
      looked = omega (arith, e, longer);
      opened = AreLevels-open old.literals new.literals levels l kept.opened same longer more there;
      caused = λ k h. elim (cases_lt k (length old.literals)) [
        | inl b ↦ subst (HasCause clauses new.literals (levels ++ x ∷ []) k) (sym (reasons k b))
            (HasCause-same clauses clauses old.literals new.literals levels (levels ++ x ∷ []) k (get_or old.reasons k 0) (kept.caused k b) (omega arith) (λ r q. refl)
            (λ j q. part_same (length old.literals) old.literals new.literals same j (omega (arith, q, b)))
            (λ j q at. (omega (arith, q, c), start_before levels x j q, decision_before levels x j q)))
        | inr b ↦
            let add = extra k b h in
            subst (HasCause clauses new.literals (levels ++ x ∷ []) k) (sym add.2)
            (length levels, omega (arith, c), start_here levels x (length levels) refl ∙ sym add.0, decision_here levels x (length levels) refl ∙ sym add.1)
      ];
      watched = λ is.
          let w = kept.watched is in
          let all : take seen old.literals ≡ old.literals = take_all seen old.literals (omega (arith, e)) in
          record {
            full = w.full;
            same = vars ∙ w.same;
            guarded = λ r h. (let g = w.guarded r h in rw (part_of old.literals new.literals seen same (omega (arith, e))) (guard_more (get_or clauses r []) (take seen old.literals) old.literals new.literals (pair_of pairs r).0 (pair_of pairs r).1 more g));
            parts = λ j h. elim (cases_lt j (length levels)) [
              | inl b ↦ rw (start_before levels x j b, part_of old.literals new.literals (start_of levels j) same (kept.opened.within j b)) (w.parts j b)
              | inr b ↦ (let s : j ≡ length levels = omega (arith, h, c) in rw (start_here levels x j s, same) (subst (λ t. AreGuarded clauses pairs t old.literals) all w.guarded))
            ];
          };
    }

-- the way back
pub IsKept-back : (clauses : List (List ℤ)) (n : ℕ) (pairs : List (ℤ × ℤ)) (lists : List (List ℕ)) (old new : Past) (levels levels' : List (ℕ × ℤ)) (seen : ℕ) (ready : Bool) (level s : ℕ)
    → IsKept clauses n pairs lists old levels seen ready → ready ≡ true → level < length levels → s ≡ start_of levels level → levels' ≡ take level levels → new.literals ≡ take s old.literals → new.reasons ≡ take s old.reasons → new.variables ≡ old.variables
    → IsKept clauses n pairs lists new levels' s ready
IsKept-back clauses n pairs lists old new levels levels' seen ready level s kept is h at e f g vars =
    let low : s ≤ length old.literals = omega (arith, at, kept.opened.within level h) in
    let m : length new.literals ≡ s = ap length f ∙ length-take-le s old.literals low in
    let c : length (take level levels) ≡ level = length-take-le level levels (omega (arith, h)) in
    let opened : AreLevels (take (start_of levels level) old.literals) (take level levels) = AreLevels-back old.literals levels level kept.opened h in
    let w = kept.watched is in
    record {
      stored = kept.stored;
      within = omega (arith, kept.within, vars);
      looked = omega (arith, m);
      opened = rw (f, e, at) opened;
      caused = λ k b.
          let k_low : k < s = omega (arith, b, m) in
          let reason : get_or new.reasons k 0 ≡ get_or old.reasons k 0 = ap (λ x. get_or x k 0) g ∙ get_or-take s old.reasons k 0 k_low in
          rw reason (HasCause-same clauses clauses old.literals new.literals levels levels' k (get_or old.reasons k 0) (kept.caused k (omega (arith, k_low, low))) (omega arith) (λ r q. refl)
          (λ j q. ap (λ x. get_or x j (pos 0)) f ∙ get_or-take s old.literals j (pos 0) (omega (arith, q, k_low)))
          (λ j q there.
          let below : j < level = elim (cases_lt j level) [ inl y ↦ y | inr y ↦ absurd (omega (arith, kept.opened.rising level j y q, there, k_low, at)) ] in
          (omega (arith, below, c, ap length e), ap (λ x. start_of x j) e ∙ start_part levels level j below, ap (λ x. decision_of x j) e ∙ decision_part levels level j below)));
      watched = λ y. record {
        full = w.full;
        same = vars ∙ w.same;
        guarded = rw (f, take-take s s old.literals (omega arith), at) (w.parts level h);
        parts = λ j b.
            let below : j < level = omega (arith, b, ap length e, c) in
            let first : start_of levels' j ≡ start_of levels j = ap (λ x. start_of x j) e ∙ start_part levels level j below in
            rw (first, f, take-take (start_of levels j) s old.literals (omega (arith, at, kept.opened.rising j level (omega (arith, below)) h))) (w.parts j (omega (arith, below, h)));
      };
    }

-- a round of propagation
pub IsKept-grown : (clauses : List (List ℤ)) (n : ℕ) (pairs pairs' : List (ℤ × ℤ)) (lists lists' : List (List ℕ)) (old new : Past) (levels : List (ℕ × ℤ)) (seen seen' : ℕ) (ready : Bool)
    → IsKept clauses n pairs lists old levels seen ready → ready ≡ true → AreStored clauses n pairs' lists' → IsGrown clauses old new → KeepsParts clauses old.literals pairs pairs' → seen' ≤ length new.literals → AreGuarded clauses pairs' (take seen' new.literals) new.literals
    → IsKept clauses n pairs' lists' new levels seen' ready
IsKept-grown clauses n pairs pairs' lists lists' old new levels seen seen' ready kept is stored grown parts looked guarded =
    let more = grown_more clauses old new grown in
    let w = kept.watched is in
    record {
      stored = stored;
      within = omega (arith, kept.within, grown.variables);
      looked = looked;
      opened = AreLevels-longer old.literals new.literals levels kept.opened grown.literals grown.longer more;
      caused = λ k h. elim (cases_lt k (length old.literals)) [
        | inl b ↦
            let reason : get_or new.reasons k 0 ≡ get_or old.reasons k 0 = sym (get_or-take (length old.literals) new.reasons k 0 b) ∙ ap (λ x. get_or x k 0) grown.reasons in
            rw reason (HasCause-same clauses clauses old.literals new.literals levels levels k (get_or old.reasons k 0) (kept.caused k b) (omega arith) (λ r q. refl)
            (λ j q. part_same (length old.literals) old.literals new.literals grown.literals j (omega (arith, q, b))) (λ j q at. (q, refl, refl)))
        | inr b ↦ implied_cause clauses new.literals levels k (get_or new.reasons k 0) (grown.caused k b h)
      ];
      watched = λ y. record {
        full = w.full;
        same = grown.variables ∙ w.same;
        guarded = guarded;
        parts = λ j h. rw (grown_part clauses old new (start_of levels j) grown (kept.opened.within j h)) (parts (start_of levels j) (kept.opened.within j h) (w.parts j h));
      };
    }

-- the literals of the clauses that have one were made true
pub IsKept-raised : (clauses : List (List ℤ)) (n : ℕ) (pairs : List (ℤ × ℤ)) (lists : List (List ℕ)) (old new : Past) (levels : List (ℕ × ℤ)) (ready : Bool)
    → AreStored clauses n pairs lists → old.variables ≡ n → old.literals ≡ [] → levels ≡ [] → IsGrown clauses old new → (ready ≡ true → (r : ℕ) → r < length clauses → IsRaised (get_or clauses r []) new.literals (pair_of pairs r))
    → IsKept clauses n pairs lists new levels 0 ready
IsKept-raised clauses n pairs lists old new levels ready stored vars empty none grown raised = record {
  stored = stored;
  within = omega (arith, vars, grown.variables);
  looked = omega arith;
  opened = rw none (AreLevels-none new.literals);
  caused = λ k h. implied_cause clauses new.literals levels k (get_or new.reasons k 0) (grown.caused k (omega (arith, ap length empty)) h);
  watched = λ is. record {
    full = λ r h. (raised is r h).0;
    same = grown.variables ∙ vars;
    guarded = λ r h. record {
      first = λ there. absurd (omega (arith, there.1));
      second = λ there. absurd (omega (arith, there.1));
      one = (raised is r (omega (arith, h, stored.count))).1;
    };
    parts = λ j h. absurd (omega (arith, h, ap length none));
  };
}

-- a clause is learnt
pub IsKept-learn : (clauses clauses' : List (List ℤ)) (n : ℕ) (pairs pairs' : List (ℤ × ℤ)) (lists lists' : List (List ℕ)) (old new : Past) (levels : List (ℕ × ℤ)) (seen : ℕ) (ready : Bool) (clause : List ℤ) (u w : ℤ)
    → IsKept clauses n pairs lists old levels seen ready → seen ≡ length old.literals → IsLearnt old.literals levels clause u w → AreStored clauses' n pairs' lists' → length old.reasons ≡ length old.literals
    → clauses' ≡ clauses ++ clause ∷ [] → pairs' ≡ pairs ++ (u, w) ∷ [] → new.literals ≡ old.literals ++ u ∷ [] → new.reasons ≡ old.reasons ++ (length clauses + 1) ∷ [] → new.variables ≡ old.variables
    → IsKept clauses' n pairs' lists' new levels seen ready
IsKept-learn clauses clauses' n pairs pairs' lists lists' old new levels seen ready clause u w kept e is stored count ce pe le re vars =
    let c : length clauses' ≡ length clauses + 1 = ap length ce ∙ length_push clauses clause in
    let d : length pairs' ≡ length pairs + 1 = ap length pe ∙ length_push pairs (u, w) in
    let k : length new.literals ≡ length old.literals + 1 = ap length le ∙ length_push old.literals u in
    let same : take (length old.literals) new.literals ≡ old.literals = ap (take (length old.literals)) le ∙ take_push old.literals u (length old.literals) (omega arith) ∙ take_all (length old.literals) old.literals (omega arith) in
    let more : (m : ℤ) → Contains old.literals m → Contains new.literals m = λ m h. subst (λ x. Contains x m) (sym le) (Contains-append_left old.literals (u ∷ []) m h) in
    let there : Contains new.literals u = subst (λ x. Contains x u) (sym le) (Contains-push old.literals u) in
    let old_clause : (r : ℕ) → r < length clauses → get_or clauses' r [] ≡ get_or clauses r [] = λ r h. ap (λ x. get_or x r []) ce ∙ get_or_append_left clauses (clause ∷ []) [] r h in
    let new_clause : (r : ℕ) → r ≡ length clauses → get_or clauses' r [] ≡ clause = λ r s. ap (λ x. get_or x r []) ce ∙ get_or_push clauses clause [] r (sym s) in
    let old_pair : (r : ℕ) → r < length pairs → pair_of pairs' r ≡ pair_of pairs r = λ r h. ap (λ x. pair_of x r) pe ∙ get_or_append_left pairs ((u, w) ∷ []) (pos 0, pos 0) r h in
    let new_pair : (r : ℕ) → r ≡ length pairs → pair_of pairs' r ≡ (u, w) = λ r s. ap (λ x. pair_of x r) pe ∙ get_or_push pairs (u, w) (pos 0, pos 0) r (sym s) in
    record {
      stored = stored;
      within = omega (arith, kept.within, vars);
      looked = omega (arith, e, k);
      opened = AreLevels-longer old.literals new.literals levels kept.opened same (omega (arith, k)) more;
      caused = λ i h. elim (cases_lt i (length old.literals)) [
        | inl b ↦
            let reason : get_or new.reasons i 0 ≡ get_or old.reasons i 0 = ap (λ x. get_or x i 0) re ∙ get_or_append_left old.reasons ((length clauses + 1) ∷ []) 0 i (omega (arith, b, count)) in
            rw reason (HasCause-same clauses clauses' old.literals new.literals levels levels i (get_or old.reasons i 0) (kept.caused i b) (omega (arith, c)) old_clause
            (λ j q. part_same (length old.literals) old.literals new.literals same j (omega (arith, q, b))) (λ j q at. (q, refl, refl)))
        | inr b ↦
            let at : i ≡ length old.literals = omega (arith, h, k) in
            let reason : get_or new.reasons i 0 ≡ suc (length clauses) = ap (λ x. get_or x i 0) re ∙ get_or_push old.reasons (length clauses + 1) 0 i (omega (arith, at, count)) ∙ add-one (length clauses) in
            let it : IsReason (old.literals ++ u ∷ []) (length old.literals) clause = IsReason-push old.literals clause u is.first is.others in
            let here : IsReason new.literals i (get_or clauses' (length clauses) []) = rw (new_clause (length clauses) refl, le, at) it in
            subst (HasCause clauses' new.literals levels i) (sym reason) (omega (arith, c), here)
      ];
      watched = λ y.
          let v = kept.watched y in
          let all : take seen old.literals ≡ old.literals = take_all seen old.literals (omega (arith, e)) in
          let seen_new : take seen new.literals ≡ old.literals = part_of old.literals new.literals seen same (omega (arith, e)) ∙ all in
          record {
            full = λ r h. elim (cases_lt r (length clauses)) [
              | inl b ↦ (let f = v.full r b in λ z. f (sym (old_clause r b) ∙ z))
              | inr b ↦ λ z.
                  let at : r ≡ length clauses = omega (arith, h, c) in
                  let none : clause ≡ [] = sym (new_clause r at) ∙ z in
                  let no : Contains [] u = subst (λ x. Contains x u) none is.first in
                  omega (arith, no.1)
            ];
            same = vars ∙ v.same;
            guarded = λ r h. elim (cases_lt r (length pairs)) [
              | inl b ↦ rw (old_pair r b, seen_new, old_clause r (omega (arith, b, kept.stored.count))) (guard_more (get_or clauses r []) old.literals old.literals new.literals (pair_of pairs r).0 (pair_of pairs r).1 more (subst (λ t. AreGuarded clauses pairs t old.literals) all v.guarded r b))
              | inr b ↦
                  let at : r ≡ length pairs = omega (arith, h, d) in
                  let it : IsGuarded clause old.literals new.literals u w = record { first = λ x. absurd (is.live x); second = λ x. (u, is.first, there); one = λ x. there } in
                  rw (new_pair r at, seen_new, new_clause r (omega (arith, at, kept.stored.count))) it
            ];
            parts = λ j h.
                let low = kept.opened.within j h in
                let part : take (start_of levels j) new.literals ≡ take (start_of levels j) old.literals = part_of old.literals new.literals (start_of levels j) same low in
                subst (λ t. AreGuarded clauses' pairs' t t) (sym part) (λ r b. elim (cases_lt r (length pairs)) [
                  | inl x ↦ rw (old_pair r x, old_clause r (omega (arith, x, kept.stored.count))) (v.parts j h r x)
                  | inr x ↦
                      let at : r ≡ length pairs = omega (arith, b, d) in
                      let it : IsGuarded clause (take (start_of levels j) old.literals) (take (start_of levels j) old.literals) u w = record {
                        first = λ q. absurd (is.live (Contains-take (start_of levels j) old.literals (neg_ℤ u) low q));
                        second = λ q. absurd (is.late j h q);
                        one = λ q. absurd (omega (arith, h, ap length (is.one q).0));
                      } in
                      rw (new_pair r at, new_clause r (omega (arith, at, kept.stored.count))) it
                ]);
          };
    }

-- the clause that is learnt has its pair
pub learnt_pair : (literals : List ℤ) (levels : List (ℕ × ℤ)) (clause : List ℤ) (u w : ℤ) → IsLearnt literals levels clause u w → IsPair clause u w
learnt_pair literals levels clause u w is = record { first = is.first; second = is.second; one = λ e. (is.one e).1 }

-- a clause is added to a board that isn't ready
pub IsKept-attach : (clauses clauses' : List (List ℤ)) (n : ℕ) (pairs pairs' : List (ℤ × ℤ)) (lists lists' : List (List ℕ)) (past : Past) (levels : List (ℕ × ℤ)) (seen : ℕ) (ready : Bool) (clause : List ℤ)
    → IsKept clauses n pairs lists past levels seen ready → ready ≡ false → AreStored clauses' n pairs' lists' → clauses' ≡ clauses ++ clause ∷ [] → IsKept clauses' n pairs' lists' past levels seen ready
IsKept-attach clauses clauses' n pairs pairs' lists lists' past levels seen ready clause kept idle stored ce = record {
  stored = stored;
  within = kept.within;
  looked = kept.looked;
  opened = kept.opened;
  caused = λ i h. HasCause-same clauses clauses' past.literals past.literals levels levels i (get_or past.reasons i 0) (kept.caused i h) (omega (arith, ap length ce, length_push clauses clause))
      (λ r q. ap (λ x. get_or x r []) ce ∙ get_or_append_left clauses (clause ∷ []) [] r q) (λ j q. refl) (λ j q at. (q, refl, refl));
  watched = λ is. absurd (let t : true ≡ false = sym is ∙ idle in cc);
}

-- the literals that watch a clause are over its variables
pub pair_over : (n : ℕ) (clause : List ℤ) (a b : ℤ) → 1 ≤ n → AreOver n clause → ((clause ≡ []) ⊎ IsPair clause a b) → (clause ≡ [] → (a ≡ pos 1) × (b ≡ pos 1)) → (nat_abs a ≤ n) × (nat_abs b ≤ n)
pair_over n clause a b some over (inl e) none = (rw (none e).0 some, rw (none e).1 some)
pair_over n clause a b some over (inr p) none = ((over a p.first).1, (over b p.second).1)

pub code_in : (l : ℤ) (n m : ℕ) → nat_abs l ≤ n → 2 * n + 2 ≤ m → code_of l < m
code_in l n m h room = omega (arith, code_within l n h, room)

pub over_more : (n m : ℕ) (clause : List ℤ) → n ≤ m → AreOver n clause → AreOver m clause
over_more n m clause h over l k = (let o = over l k in (o.0, omega (arith, o.1, h)))

-- a round, with the list put back
pub kept_round : (clauses : List (List ℤ)) (n : ℕ) (pairs pairs' : List (ℤ × ℤ)) (lists lists' : List (List ℕ)) (list : List ℕ) (old new : Past) (levels : List (ℕ × ℤ)) (seen seen' : ℕ) (ready : Bool) (a : ℤ)
    → IsKept clauses n pairs lists old levels seen ready → ready ≡ true → nat_abs a ≤ n → length lists' ≡ length lists → IsGrown clauses old new → ArePairs clauses old.variables pairs' → AreFound pairs' lists' a → AreListed pairs' a list → KeepsParts clauses old.literals pairs pairs'
    → seen' ≤ length new.literals → AreGuarded clauses pairs' (take seen' new.literals) new.literals → IsKept clauses n pairs' (set lists' (code_of a) list) new levels seen' ready
kept_round clauses n pairs pairs' lists lists' list old new levels seen seen' ready a kept is over same grown are found listed parts looked guarded =
    let vars = (kept.watched is).same in
    IsKept-grown clauses n pairs pairs' lists (set lists' (code_of a) list) old new levels seen seen' ready kept is
    (stored_round clauses n pairs pairs' lists lists' a list kept.stored (subst (λ k. ArePairs clauses k pairs') vars are) same over found listed) grown parts looked guarded
