-- What the decisions of a board lead to.
use Rattle.std.proofs.Common.{◌≡◌, inl, inr, ℕ, suc, zero, ◌+◌, ◌<◌, ◌≤◌, List, ◌++◌, [], ◌∷◌, length, get_or, take, refl, sym, ap, ◌∙◌, subst, arith, true}
use Rattle.std.specs.Prelude.{Option, None, Some, Result, Ok, Err, IfOk, MatchOption, ℤ, pos, neg_ℤ, Contains}
use Rattle.std.proofs.lemmas.Bool.{cases_lt}
use Rattle.std.proofs.lemmas.List.{get_or_default, get_or-take, length-take-le}
use lib.IntN.{neg_ℤ-neg_ℤ}
use Rattle.l2_cnf.specs.Trail.{AreOver}
use Rattle.l2_cnf.specs.Logic.{Follows, IsAbsorbed, Settles, Propagates, assumed, unit, Conflicts, Negation}
use Rattle.l2_cnf.proofs.Laws.{same_or_not}
use Rattle.l2_watch.specs.Visit.{AreFalse}
use Rattle.l2_watch.specs.Board.{Board, IsBoard, start_of, decision_of, HasCause}
use Rattle.l2_watch.proofs.Outcomes.{not_settled}
use Rattle.l2_watch.proofs.Boards.{part_consistent}
use Rattle.l2_cdcl.specs.Search.{Search, AreAssumed, IsWhole, IsTurn}
use Rattle.l2_cdcl.specs.declared.engine.Turn.{Turn}
use Rattle.l2_cdcl.specs.declared.engine.Turn.TheVariants.{Learnt, Decided, Whole, Closed, Refuted}
use Rattle.l2_cdcl.specs.Level.{IsRootConflict}
use Rattle.l2_cdcl.specs.Analysis.{IsFalseBefore}

-- what has a cause is reached from what was decided, if what stands before it is
reached_cause : (clauses : List (List ℤ)) (trail : List ℤ) (levels : List (ℕ × ℤ)) (given : ℤ → Type 0) (k reason : ℕ) → HasCause clauses trail levels k reason → ((j : ℕ) → j < length levels → start_of levels j ≡ k → given (decision_of levels j))
    → ((j : ℕ) → j < k → Propagates clauses given (get_or trail j (pos 0))) → Propagates clauses given (get_or trail k (pos 0))
reached_cause clauses trail levels given k zero (j, h, at, is) decided before = assumed (subst given is (decided j h at))
reached_cause clauses trail levels given k (suc r) (h, is) decided before =
    unit (get_or clauses r []) (r, h, get_or_default clauses r _ _ h) is.stands (λ m c ne. (let place = is.others m c ne in subst (Propagates clauses given) place.2 (before place.0 place.1)))

reached_below : (b : Board) (given : ℤ → Type 0) (n : ℕ) → IsBoard b → n ≤ length b.past.literals → ((j : ℕ) → j < length b.levels → start_of b.levels j < n → given (decision_of b.levels j)) → (k : ℕ) → k < n → Propagates b.clauses given (get_or b.past.literals k (pos 0))
reached_below b given zero is within decided k h = absurd (omega (arith, h))
reached_below b given (suc n) is within decided k h =
    let below = reached_below b given n is (omega (arith, within)) (λ j i a. decided j i (omega (arith, a))) in
    elim (cases_lt k n) [
      | inl low ↦ below k low
      | inr high ↦
          let e : k ≡ n = omega (arith, h, high) in
          reached_cause b.clauses b.past.literals b.levels given k (get_or b.past.reasons k 0) (is.caused k (omega (arith, h, within))) (λ j i at. decided j i (omega (arith, at, e))) (λ j a. below j (omega (arith, a, e)))
    ]

-- each literal is reached from what was decided
pub reached_all : (b : Board) (given : ℤ → Type 0) → IsBoard b → ((j : ℕ) → j < length b.levels → given (decision_of b.levels j)) → (l : ℤ) → Contains b.past.literals l → Propagates b.clauses given l
reached_all b given is decided l (k, h, e) =
    subst (Propagates b.clauses given) (get_or_default b.past.literals k (pos 0) l h ∙ e) (reached_below b given (length b.past.literals) is (omega arith) (λ j i a. decided j i) k h)

-- level 0 needs no decision
pub reached_root : (b : Board) (given : ℤ → Type 0) (low : ℕ) → IsBoard b → low ≤ start_of b.levels 0 → 0 < length b.levels → (m : ℤ) → IsFalseBefore b.past.literals low m → Propagates b.clauses given (neg_ℤ m)
reached_root b given low is h some m (j, k, e) =
    let within : low ≤ length b.past.literals = omega (arith, h, is.levels.within 0 some) in
    subst (Propagates b.clauses given) e (reached_below b given low is within (λ i a c. absurd (omega (arith, c, h, is.levels.rising 0 i (omega arith) a))) j k)

-- a conflict under decisions
pub conflict_reached : (b : Board) (given : ℤ → Type 0) (r : ℕ) → IsBoard b → ((j : ℕ) → j < length b.levels → given (decision_of b.levels j)) → r < length b.clauses → AreFalse b.past.literals (get_or b.clauses r []) → Conflicts b.clauses given
conflict_reached b given r is decided h false_ones = (get_or b.clauses r [], (r, h, get_or_default b.clauses r _ _ h), (λ m c. reached_all b given is decided (neg_ℤ m) (false_ones m c)))

-- a conflict where nothing was decided
pub root_follows : (b : Board) (r : ℕ) → IsBoard b → IsRootConflict b r → Follows b.clauses []
root_follows b r is root = conflict_reached b (Negation []) r is (λ j i. absurd (omega (arith, i, ap length root.levels))) root.within root.false_ones

part_has : (list : List ℤ) (n j : ℕ) (l : ℤ) → j < n → n ≤ length list → get_or list j (pos 0) ≡ l → Contains (take n list) l
part_has list n j l h k e =
    let c : length (take n list) ≡ n = length-take-le n list k in
    (j, omega (arith, h, c), get_or_default (take n list) j l (pos 0) (omega (arith, h, c)) ∙ get_or-take n list j (pos 0) h ∙ e)

-- the decisions are assumptions
assumed_first : (assumptions : List ℤ) (levels : List (ℕ × ℤ)) (n : ℕ) → AreAssumed assumptions levels → length levels ≤ n → n ≤ length assumptions → (j : ℕ) → j < length levels → Contains (take n assumptions) (decision_of levels j)
assumed_first assumptions levels n are h k j b = part_has assumptions n j (decision_of levels j) (omega (arith, h, b)) k (sym (are j b (omega (arith, h, k, b))))

-- a conflict while assumptions alone were decided
pub settled_conflict : (b : Board) (assumptions : List ℤ) (r : ℕ) → IsBoard b → AreAssumed assumptions b.levels → length b.levels ≤ length assumptions → r < length b.clauses → AreFalse b.past.literals (get_or b.clauses r []) → Settles b.clauses (take (length b.levels) assumptions)
settled_conflict b assumptions r is are most h false_ones = inr (conflict_reached b (Contains (take (length b.levels) assumptions)) r is (assumed_first assumptions b.levels (length b.levels) are (omega arith) most) h false_ones)

-- the next assumption is false
false_cause : (b : Board) (assumptions : List ℤ) (l : ℤ) (k reason : ℕ) → IsBoard b → AreAssumed assumptions b.levels → length b.levels < length assumptions → get_or assumptions (length b.levels) (pos 0) ≡ l → k < length b.past.literals → get_or b.past.literals k (pos 0) ≡ neg_ℤ l
    → HasCause b.clauses b.past.literals b.levels k reason → Settles b.clauses (take (length b.levels + 1) assumptions)
false_cause b assumptions l k zero is are most at h e (j, i, start, decided) =
    let n : ℕ = length b.levels + 1 in
    let here : Contains (take n assumptions) l = part_has assumptions n (length b.levels) l (omega arith) (omega (arith, most)) at in
    let there : Contains (take n assumptions) (neg_ℤ l) = subst (Contains (take n assumptions)) (decided ∙ e) (assumed_first assumptions b.levels n are (omega arith) (omega (arith, most)) j i) in
    inl (l, here, there)
false_cause b assumptions l k (suc r) is are most at h e (i, reason) =
    let n : ℕ = length b.levels + 1 in
    let given : ℤ → Type 0 = Contains (take n assumptions) in
    let decided = assumed_first assumptions b.levels n are (omega arith) (omega (arith, most)) in
    let clause : List ℤ = get_or b.clauses r [] in
    let here : Contains (take n assumptions) l = part_has assumptions n (length b.levels) l (omega arith) (omega (arith, most)) at in
    inr (
      clause,
      (r, i, get_or_default b.clauses r _ _ i),
      (λ m c. elim (same_or_not m (get_or b.past.literals k (pos 0))) [
        | inl s ↦ assumed (subst given (sym (ap neg_ℤ (s ∙ e) ∙ neg_ℤ-neg_ℤ l)) here)
        | inr ne ↦
            let place = reason.others m c ne in
            let within : place.0 < length b.past.literals = omega (arith, place.1, h) in
            reached_all b given is decided (neg_ℤ m) (place.0, within, get_or_default b.past.literals place.0 (neg_ℤ m) (pos 0) within ∙ place.2)
      ]),
    )

pub settled_false : (b : Board) (assumptions : List ℤ) (l : ℤ) → IsBoard b → AreAssumed assumptions b.levels → length b.levels < length assumptions → get_or assumptions (length b.levels) (pos 0) ≡ l → Contains b.past.literals (neg_ℤ l) → Settles b.clauses (take (length b.levels + 1) assumptions)
settled_false b assumptions l is are most at (k, h, e) =
    false_cause b assumptions l k (get_or b.past.reasons k 0) is are most at h (get_or_default b.past.literals k (pos 0) (neg_ℤ l) h ∙ e) (is.caused k h)

-- where more levels were opened than there are assumptions, they were all met with no conflict
pub unsettled_levels : (b : Board) (assumptions : List ℤ) → IsBoard b → b.ready ≡ true → AreAssumed assumptions b.levels → length assumptions < length b.levels → ¬ Settles b.clauses assumptions
unsettled_levels b assumptions is ready are most =
    let n : ℕ = length assumptions in
    let s : ℕ = start_of b.levels n in
    not_settled b.clauses (take s b.past.literals) assumptions (is.before ready n most) (part_consistent b.past.literals s (is.levels.within n most) is.consistent)
    (λ l (j, h, e).
    let here : decision_of b.levels j ≡ l = are j (omega (arith, h, most)) h ∙ get_or_default assumptions j (pos 0) l h ∙ e in
    subst (Contains (take s b.past.literals)) here (is.levels.made j n h most))

-- a whole board meets the assumptions
pub whole_met : (b : Board) (assumptions : List ℤ) → IsBoard b → AreAssumed assumptions b.levels → length assumptions ≤ length b.levels → (l : ℤ) → Contains assumptions l → Contains b.past.literals l
whole_met b assumptions is are most l (j, h, e) =
    subst (Contains b.past.literals) (are j (omega (arith, h, most)) h ∙ get_or_default assumptions j (pos 0) l h ∙ e) (is.levels.held j (omega (arith, h, most)))

pub unsettled_whole : (b : Board) (assumptions : List ℤ) → IsBoard b → IsWhole assumptions b → ¬ Settles b.clauses assumptions
unsettled_whole b assumptions is whole = not_settled b.clauses b.past.literals assumptions whole.closed is.consistent whole.met

-- how a start ends
pub started : {E : Type 0} (r : Result (Option ℕ) E) (Ready : Type 0) (Conflict : ℕ → Type 0) → (r ≡ Ok None → Ready) → ((n : ℕ) → r ≡ Ok (Some n) → Conflict n) → IfOk r (λ o. MatchOption o Ready Conflict)
started (Ok None) Ready Conflict none some = none refl
started (Ok (Some n)) Ready Conflict none some = some n refl
started (Err e) Ready Conflict none some = tt

-- a turn seen from before propagation
pub turn_before : (assumptions : List ℤ) (old mid new : Search) (t : Turn) → mid.learnt ≡ old.learnt → mid.board.clauses ≡ old.board.clauses → mid.board.variables ≡ old.board.variables → mid.board.levels ≡ old.board.levels → length old.board.past.literals ≤ length mid.board.past.literals → IsTurn assumptions mid new t → IsTurn assumptions old new t
turn_before assumptions old mid new Learnt e f g h k (clause, grew, follows, new_one, over, unsettled) =
    (clause, grew ∙ ap (λ x. x ++ clause ∷ []) e, subst (λ x. Follows x clause) f follows, subst (λ x. ¬ IsAbsorbed x clause) f new_one, subst (λ n. AreOver n clause) g over, subst (λ x. ¬ Settles x assumptions) f unsettled)
turn_before assumptions old mid new Decided e f g h k (same, forward) = (
  same ∙ e,
  elim forward [
    | inl more ↦ inl (omega (arith, k, more))
    | inr (long, low, opened) ↦ inr (omega (arith, k, long), omega (arith, low, ap length h), omega (arith, opened, ap length h))
  ],
)
turn_before assumptions old mid new Whole e f g h k (same, whole) = (same ∙ e, whole)
turn_before assumptions old mid new (Closed r) e f g h k (same, root) = (same ∙ e, root)
turn_before assumptions old mid new (Refuted n) e f g h k (same, some, most, settled) = (same ∙ e, some, most, settled)

-- the assumptions that opened levels, after the way back
pub assumed_back : (assumptions : List ℤ) (levels : List (ℕ × ℤ)) (level : ℕ) → level ≤ length levels → AreAssumed assumptions levels → AreAssumed assumptions (take level levels)
assumed_back assumptions levels level h are j b c =
    let n : length (take level levels) ≡ level = length-take-le level levels h in
    ap (λ p. p.1) (get_or-take level levels j (0, pos 0) (omega (arith, b, n))) ∙ are j (omega (arith, b, n, h)) c
