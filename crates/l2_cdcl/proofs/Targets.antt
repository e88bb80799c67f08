-- Where a clause that is learnt is asserting.
use Rattle.std.proofs.Common.{◌≡◌, ◌≢◌, inl, inr, ℕ, ◌+◌, ◌<◌, ◌≤◌, List, ◌++◌, [], ◌∷◌, length, get_or, take, refl, sym, ap, ◌∙◌, subst, arith, true}
use Rattle.std.specs.Prelude.{ℤ, pos, neg_ℤ, Contains}
use Rattle.std.proofs.lemmas.Bool.{cases_lt}
use Rattle.std.proofs.lemmas.List.{get_or_default, get_or-take, length-take-le, take-take}
use Rattle.std.proofs.lemmas.List.Elements.{Contains-append_left, Contains-push, Contains-push_cases}
use lib.IntN.{neg_ℤ-neg_ℤ}
use Rattle.l2_cnf.proofs.Laws.{nat_abs-neg_ℤ}
use Rattle.l2_cnf.specs.Trail.{AreOver}
use Rattle.l2_cnf.specs.Logic.{Follows, IsAbsorbed}
use Rattle.l2_watch.specs.Board.{Board, IsBoard, IsLearnt, start_of}
use Rattle.l2_watch.proofs.Closed.{Refutes-follows, not_absorbed}
use Rattle.l2_watch.proofs.Boards.{start_part}
use Rattle.l2_cdcl.specs.Analysis.{IsFalseBefore, IsPoint}
use Rattle.l2_cdcl.specs.Level.{IsPresent}
use Rattle.l2_cdcl.specs.Target.{IsLast, IsTarget}
use Rattle.l2_cdcl.proofs.Reached.{reached_root}
use Rattle.l2_cdcl.proofs.Analyses.{same_place, start_within}

pub later_false : (trail : List ℤ) (n m : ℕ) (l : ℤ) → n ≤ m → IsFalseBefore trail n l → IsFalseBefore trail m l
later_false trail n m l h (j, b, e) = (j, omega (arith, h, b), e)

pub false_there : (trail : List ℤ) (n : ℕ) (l : ℤ) → n ≤ length trail → IsFalseBefore trail n l → Contains trail (neg_ℤ l)
false_there trail n l h (j, b, e) =
    let within : j < length trail = omega (arith, h, b) in
    (j, within, get_or_default trail j (neg_ℤ l) (pos 0) within ∙ e)

-- a literal that became false before a place is false in the part up to it
pub false_part : (trail : List ℤ) (n : ℕ) (l : ℤ) → n ≤ length trail → IsFalseBefore trail n l → Contains (take n trail) (neg_ℤ l)
false_part trail n l h (j, b, e) =
    let c : length (take n trail) ≡ n = length-take-le n trail h in
    (j, omega (arith, b, c), get_or_default (take n trail) j (neg_ℤ l) (pos 0) (omega (arith, b, c)) ∙ get_or-take n trail j (pos 0) b ∙ e)

-- and one in a part became false before its end
pub part_false : (trail : List ℤ) (n : ℕ) (l : ℤ) → n ≤ length trail → Contains (take n trail) l → (j : ℕ) × (j < n) × (get_or trail j (pos 0) ≡ l)
part_false trail n l h (j, b, e) =
    let c : length (take n trail) ≡ n = length-take-le n trail h in
    let before : j < n = omega (arith, b, c) in
    (j, before, sym (get_or-take n trail j (pos 0) before) ∙ get_or_default (take n trail) j (pos 0) l b ∙ e)

-- the level of the last literal
pub target_some : (b : Board) (start : ℕ) (aside : List ℤ) (u w : ℤ) (place level : ℕ) → IsBoard b → IsPresent b 0 start → ((m : ℤ) → Contains aside m → IsFalseBefore b.past.literals start m) → IsLast b.past.literals aside place w
    → level ≤ length b.levels → (level < length b.levels → place < start_of b.levels level) → ((j : ℕ) → j < level → start_of b.levels j ≤ place) → IsTarget b.past.literals b.levels aside u level w
target_some b start aside u w place level is present below last most above under =
    let trail = b.past.literals in
    let (n, e, f) = present.last in
    let there = below w last.stands in
    let same : there.0 ≡ place = same_place trail there.0 place w is.apart (omega (arith, there.1, f, is.levels.within n (omega (arith, e)))) last.within there.2 last.here in
    let within : level < length b.levels = elim (cases_lt level (length b.levels)) [
      | inl h ↦ h
      | inr h ↦ absurd (omega (arith, under n (omega (arith, h, e)), there.1, same, f))
    ] in
    record {
      within = within;
      below = λ m h. later_false trail (place + 1) (start_of b.levels level) m (omega (arith, above within)) (last.all m h);
      late = λ j h inside.
          let low = is.levels.within j (omega (arith, h, within)) in
          let at = part_false trail (start_of b.levels j) (neg_ℤ w) low inside in
          let s : at.0 ≡ place = same_place trail at.0 place w is.apart (omega (arith, at.1, low)) last.within at.2 last.here in
          omega (arith, at.1, s, under j h);
      second = inr last.stands;
    }

pub target_none : (b : Board) (start : ℕ) (aside : List ℤ) (u : ℤ) → IsPresent b 0 start → aside ≡ [] → IsTarget b.past.literals b.levels aside u 0 u
target_none b start aside u present none =
    let (n, e, f) = present.last in
    record {
      within = omega (arith, e);
      below = λ m h. (let there : Contains [] m = subst (λ x. Contains x m) none h in absurd (omega (arith, there.1)));
      late = λ j h. absurd (omega (arith, h));
      second = inl (none, refl, refl);
    }

-- the clause of a point: its literals, what it follows from, and that it is new
module _ (b : Board) (low start k : ℕ) (aside : List ℤ) (u : ℤ) (is : IsBoard b) (present : IsPresent b low start) (point : IsPoint b.clauses b.past.literals low start k aside) (e : u ≡ neg_ℤ (get_or b.past.literals k (pos 0))) where
  abbrev clause : List ℤ
  clause = aside ++ u ∷ []

  -- the negation of u stands at k
  away : get_or b.past.literals k (pos 0) ≡ neg_ℤ u
  away = sym (neg_ℤ-neg_ℤ _) ∙ ap neg_ℤ (sym e)

  point_false : (m : ℤ) → Contains clause m → Contains b.past.literals (neg_ℤ m)
  point_false m h = elim (Contains-push_cases aside u m h) [
    | inl old ↦ false_there b.past.literals start m (start_within b is low start present) (point.below m old)
    | inr s ↦ (k, point.within, get_or_default b.past.literals k (neg_ℤ m) (pos 0) point.within ∙ away ∙ ap neg_ℤ s)
  ]

  pub point_over : AreOver b.variables clause
  point_over l h =
      let o = is.literals_over (neg_ℤ l) (point_false l h) in
      let same = nat_abs-neg_ℤ l in
      (omega (arith, o.0, same), omega (arith, o.1, same))

  pub point_follows : 0 < length b.levels → Follows b.clauses clause
  point_follows some = Refutes-follows b.clauses clause (λ given false_ones. point.refutes given (λ m open_one. elim open_one [
    | inl s ↦ false_ones m (subst (Contains clause) (sym (s ∙ sym e)) (Contains-push aside u))
    | inr (inl put) ↦ false_ones m (Contains-append_left aside (u ∷ []) m put)
    | inr (inr base) ↦ reached_root b (Contains given) low is present.low_is some m base
  ]))

  module _ (level : ℕ) (w : ℤ) (aim : IsTarget b.past.literals b.levels aside u level w) where
    abbrev at : ℕ
    at = start_of b.levels level

    low_at : at ≤ length b.past.literals
    low_at = is.levels.within level aim.within

    -- the level to which the search goes back begins no later than the present one
    at_start : at ≤ start
    at_start =
        let (n, f, g) = present.last in
        omega (arith, g, is.levels.rising level n (omega (arith, aim.within, f)) (omega (arith, f)))

    others_false : (m : ℤ) → Contains clause m → m ≢ u → Contains (take at b.past.literals) (neg_ℤ m)
    others_false m h ne = elim (Contains-push_cases aside u m h) [
      | inl old ↦ false_part b.past.literals at m low_at (aim.below m old)
      | inr s ↦ absurd (ne (sym s))
    ]

    u_live : ¬ Contains (take at b.past.literals) (neg_ℤ u)
    u_live h =
        let there = part_false b.past.literals at (neg_ℤ u) low_at h in
        let same : there.0 ≡ k = same_place b.past.literals there.0 k u is.apart (omega (arith, there.1, low_at)) point.within there.2 away in
        omega (arith, there.1, same, at_start, point.first)

    u_unset : ¬ Contains (take at b.past.literals) u
    u_unset h =
        let there = part_false b.past.literals at u low_at h in
        let in_trail : Contains b.past.literals u = (there.0, omega (arith, there.1, low_at), get_or_default b.past.literals there.0 u (pos 0) (omega (arith, there.1, low_at)) ∙ there.2) in
        is.consistent u in_trail (k, point.within, get_or_default b.past.literals k (neg_ℤ u) (pos 0) point.within ∙ away)

    pub point_new : b.ready ≡ true → ¬ IsAbsorbed b.clauses clause
    point_new ready = not_absorbed b.clauses (take at b.past.literals) clause u (is.before ready level aim.within) (Contains-push aside u) others_false u_unset

    levels_part : length (take level b.levels) ≡ level
    levels_part = length-take-le level b.levels (omega (arith, aim.within))

    pub point_learnt : IsLearnt (take at b.past.literals) (take level b.levels) clause u w
    point_learnt = record {
      first = Contains-push aside u;
      second = elim aim.second [
        | inl (none, zero_level, same) ↦ subst (Contains clause) (sym same) (Contains-push aside u)
        | inr put ↦ Contains-append_left aside (u ∷ []) w put
      ];
      unset = u_unset;
      live = u_live;
      others = others_false;
      late = λ j h inside.
          let below : j < level = omega (arith, h, levels_part) in
          let rises : start_of b.levels j ≤ at = is.levels.rising j level (omega (arith, below)) aim.within in
          let there : Contains (take (start_of b.levels j) b.past.literals) (neg_ℤ w) =
          subst (λ t. Contains t (neg_ℤ w)) (ap (λ s. take s (take at b.past.literals)) (start_part b.levels level j below) ∙ take-take (start_of b.levels j) at b.past.literals rises) inside in
          aim.late j below there;
      one = λ same. elim aim.second [
        | inl (none, zero_level, s) ↦ (
          ap (λ n. take n b.levels) zero_level,
          (λ m h. elim (Contains-push_cases aside u m h) [
            | inl old ↦ (let no : Contains [] m = subst (λ x. Contains x m) none old in absurd (omega (arith, no.1)))
            | inr t ↦ sym t
          ]),
        )
        | inr put ↦ absurd (u_live (subst (λ x. Contains (take at b.past.literals) (neg_ℤ x)) (sym same) (false_part b.past.literals at w low_at (aim.below w put))))
      ];
    }
