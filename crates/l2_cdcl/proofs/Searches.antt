-- The loop of the search: what it keeps, and that it ends.
use Rattle.std.proofs.Common.{◌≡◌, ◌⊎◌, inl, inr, ℕ, ◌+◌, ◌-◌, ◌*◌, ◌^◌, ◌<◌, ◌≤◌, List, ◌++◌, [], ◌∷◌, length, refl, sym, ap, ◌∙◌, subst, arith, append_assoc}
use Rattle.std.specs.Prelude.{ℤ, Contains}
use Rattle.std.specs.List.{IsDistinct}
use Rattle.std.proofs.lemmas.Bool.{cases_lt}
use Rattle.std.proofs.lemmas.List.{length_push, length-append, append-nil}
use Rattle.std.proofs.lemmas.List.Elements.{Contains-append_left, Contains-append_right, Contains-push_cases}
use Rattle.l2_cnf.specs.Trail.{AreOver}
use Rattle.l2_cnf.specs.Logic.{Follows, IsAbsorbed, Settles, assumed, NegationBut, Negation}
use Rattle.l2_cnf.proofs.Laws.{more, more_conflicts}
use Rattle.l2_cnf.proofs.Growth.{IsAbsorbed-empty}
use Rattle.l2_cdcl.specs.Learning.{MayBeLearnt, AreLearnt}
use Rattle.l2_cdcl.specs.Search.{Search, IsTurn}
use Rattle.l2_cdcl.specs.Searched.{IsSearch, IsSearched}
use Rattle.l2_cdcl.specs.declared.engine.Turn.{Turn}
use Rattle.l2_cdcl.specs.declared.engine.Turn.TheVariants.{Learnt, Decided}
use Rattle.l2_cdcl.proofs.Measure.{at_most, distinct_more, falls_learnt, falls_decided}

-- what is learnt over a list holds over one with the same clauses
pub absorbed_same : (list list' : List (List ℤ)) (clause : List ℤ) → ((c : List ℤ) → Contains list c → Contains list' c) → IsAbsorbed list clause → IsAbsorbed list' clause
absorbed_same list list' clause inside absorbed l h = elim (absorbed l h) [
  | inl reached ↦ inl (more list list' (NegationBut clause l) (NegationBut clause l) inside (λ m k. assumed k) l reached)
  | inr conflict ↦ inr (more_conflicts list list' (NegationBut clause l) (NegationBut clause l) inside (λ m k. assumed k) conflict)
]

pub follows_same : (list list' : List (List ℤ)) (clause : List ℤ) → ((c : List ℤ) → Contains list c → Contains list' c) → Follows list clause → Follows list' clause
follows_same list list' clause inside follows = more_conflicts list list' (Negation clause) (Negation clause) inside (λ m k. assumed k) follows

pub settles_same : (list list' : List (List ℤ)) (literals : List ℤ) → ((c : List ℤ) → Contains list c → Contains list' c) → Settles list literals → Settles list' literals
settles_same list list' literals inside (inl both) = inl both
settles_same list list' literals inside (inr conflict) = inr (more_conflicts list list' (Contains literals) (Contains literals) inside (λ m k. assumed k) conflict)

-- one more clause is learnt
pub AreLearnt-push : (added before clauses : List (List ℤ)) (clause : List ℤ) → AreLearnt added before clauses → MayBeLearnt added (before ++ clauses) clause → AreLearnt added before (clauses ++ clause ∷ [])
AreLearnt-push added before [] clause all last = (subst (λ x. MayBeLearnt added x clause) (append-nil before) last, tt)
AreLearnt-push added before (c ∷ clauses) clause all last = (all.0, AreLearnt-push added (before ++ c ∷ []) clauses clause all.1 (subst (λ x. MayBeLearnt added x clause) (sym (append_assoc before (c ∷ []) clauses)) last))

-- nothing was learnt yet
pub searched_none : (assumptions : List ℤ) (s : Search) → IsSearched assumptions s s
unfolding IsDistinct
searched_none assumptions s = record {
  more = [];
  learnt = sym (append-nil s.learnt);
  all = tt;
  settled = λ h. refl;
  some = λ c h. absurd (omega (arith, h.1));
  distinct = tt;
  over = λ c h. absurd (omega (arith, h.1));
}

-- a search on
pub searched_same : (assumptions : List ℤ) (old mid new : Search) → IsSearched assumptions old mid → new.learnt ≡ mid.learnt → IsSearched assumptions old new
searched_same assumptions old mid new is e = record {
  more = is.more;
  learnt = e ∙ is.learnt;
  all = is.all;
  settled = is.settled;
  some = is.some;
  distinct = is.distinct;
  over = is.over;
}

module _ (assumptions : List ℤ) (old mid new : Search) (is : IsSearched assumptions old mid) (facts : IsSearch mid) (added : mid.added ≡ old.added) where
  -- the list before and what was learnt since
  list : List (List ℤ)
  list = (old.added ++ old.learnt) ++ is.more

  list_is : list ≡ mid.added ++ mid.learnt
  unfolding list
  list_is = append_assoc old.added old.learnt is.more ∙ (λ i. sym added i ++ sym is.learnt i)

  from_board : (c : List ℤ) → Contains mid.board.clauses c → Contains list c
  from_board c h = subst (λ x. Contains x c) (sym list_is) (facts.all c h)

  to_board : (c : List ℤ) → Contains list c → Contains mid.board.clauses c
  to_board c h = facts.inside c (subst (λ x. Contains x c) list_is h)

  before : (c : List ℤ) → Contains (old.added ++ old.learnt) c → Contains mid.board.clauses c
  unfolding list
  before c h = to_board c (Contains-append_left (old.added ++ old.learnt) is.more c h)

  pub unsettled_before : ¬ Settles mid.board.clauses assumptions → ¬ Settles (old.added ++ old.learnt) assumptions
  unsettled_before none h = none (settles_same (old.added ++ old.learnt) mid.board.clauses assumptions before h)

  -- a turn that learnt
  pub searched_more : (clause : List ℤ) → old.board.variables ≡ mid.board.variables → new.learnt ≡ mid.learnt ++ clause ∷ [] → Follows mid.board.clauses clause → ¬ IsAbsorbed mid.board.clauses clause → AreOver mid.board.variables clause → ¬ Settles mid.board.clauses assumptions → IsSearched assumptions old new
  unfolding list
  searched_more clause vars e follows fresh over unsettled = record {
    more = is.more ++ clause ∷ [];
    learnt = e ∙ ap (λ x. x ++ clause ∷ []) is.learnt ∙ append_assoc old.learnt is.more (clause ∷ []);
    all = AreLearnt-push old.added old.learnt is.more clause is.all (record {
      follows = follows_same mid.board.clauses (old.added ++ (old.learnt ++ is.more)) clause (λ c h. subst (λ x. Contains x c) (append_assoc old.added old.learnt is.more) (from_board c h)) follows;
      new = inr (λ absorbed. fresh (absorbed_same (old.added ++ (old.learnt ++ is.more)) mid.board.clauses clause (λ c h. to_board c (subst (λ x. Contains x c) (sym (append_assoc old.added old.learnt is.more)) h)) absorbed));
    });
    some = λ c h. elim (Contains-push_cases is.more clause c h) [
      | inl before_it ↦ is.some c before_it
      | inr s ↦ λ e. fresh (subst (IsAbsorbed mid.board.clauses) (sym (s ∙ e)) (IsAbsorbed-empty mid.board.clauses))
    ];
    settled = λ h. absurd (unsettled_before unsettled h);
    distinct = distinct_more mid.board.clauses old.board.variables is.more clause is.distinct fresh (λ c h. to_board c (Contains-append_right (old.added ++ old.learnt) is.more c h)) (subst (λ n. AreOver n clause) (sym vars) over) is.over;
    over = λ c h. elim (Contains-push_cases is.more clause c h) [
      | inl before_it ↦ is.over c before_it
      | inr s ↦ subst (AreOver old.board.variables) s (subst (λ n. AreOver n clause) (sym vars) over)
    ];
  }

-- how much is left: n variables, l clauses learnt, s literals true, a assumptions and p levels
abbrev pub left : ℕ → ℕ → ℕ → ℕ → ℕ → ℕ
left n l s a p = ((2 ^ (2 * n + 2) - l) * (n + 1) + (n - s)) * (a + 1) + (a - p)

outer : (x y a p q : ℕ) → x < y → x * (a + 1) + (a - p) < y * (a + 1) + (a - q)
outer x y a p q h =
    let d : ℕ = y - (x + 1) in
    let e : y ≡ x + 1 + d = omega (arith, h) in
    rw e (spread x d a p q)
  where
    spread : (x d a p q : ℕ) → x * (a + 1) + (a - p) < (x + 1 + d) * (a + 1) + (a - q)
    spread x d a p q = omega arith

pub left_learnt : (n l m s t a p q : ℕ) → m ≡ l + 1 → m ≤ 2 ^ (2 * n + 2) → t ≤ n → left n m t a q < left n l s a p
left_learnt n l m s t a p q e h k = outer _ _ a q p (falls_learnt (2 ^ (2 * n + 2)) l m n s t e h k)

pub left_grown : (n l s t a p q : ℕ) → s < t → t ≤ n → left n l t a q < left n l s a p
left_grown n l s t a p q h k = outer _ _ a q p (falls_decided (2 ^ (2 * n + 2)) l n s t h k)

pub left_opened : (n l s t a p q : ℕ) → s ≤ t → t ≤ n → p < a → q ≡ p + 1 → left n l t a q < left n l s a p
left_opened n l s t a p q h k b e = elim (cases_lt s t) [
  | inl more ↦ left_grown n l s t a p q more k
  | inr same ↦
      let f : t ≡ s = omega (arith, h, same) in
      rw (f, e) (step _ a p b)
]
  where
    step : (x a p : ℕ) → p < a → x + (a - (p + 1)) < x + (a - p)
    step x a p b = omega arith

-- after a turn that wasn't the last
pub searched_on : (assumptions : List ℤ) (old mid new : Search) (t : Turn) → (t ≡ Learnt) ⊎ (t ≡ Decided) → IsSearched assumptions old mid → IsSearch mid → mid.added ≡ old.added → mid.board.variables ≡ old.board.variables → IsTurn assumptions mid new t → IsSearched assumptions old new
searched_on assumptions old mid new t (inl e) is facts added vars turn =
    let (clause, grew, follows, fresh, over, unsettled) = subst (IsTurn assumptions mid new) e turn in
    searched_more assumptions old mid new is facts added clause (sym vars) grew follows fresh over unsettled
searched_on assumptions old mid new t (inr e) is facts added vars turn =
    let (same, forward) = subst (IsTurn assumptions mid new) e turn in
    searched_same assumptions old mid new is same

-- the measure falls with each turn that isn't the last
pub left_falls : (assumptions : List ℤ) (old mid new : Search) (t : Turn) → (t ≡ Learnt) ⊎ (t ≡ Decided) → IsSearched assumptions old mid → IsSearched assumptions old new → IsSearch new → mid.board.variables ≡ old.board.variables → new.board.variables ≡ mid.board.variables → IsTurn assumptions mid new t
    → left old.board.variables (length new.learnt - length old.learnt) (length new.board.past.literals) (length assumptions) (length new.board.levels) < left old.board.variables (length mid.learnt - length old.learnt) (length mid.board.past.literals) (length assumptions) (length mid.board.levels)
left_falls assumptions old mid new t (inl e) is then facts vars vars' turn =
    let (clause, grew, follows, fresh, over, unsettled) = subst (IsTurn assumptions mid new) e turn in
    let before : length mid.learnt ≡ length old.learnt + length is.more = ap length is.learnt ∙ length-append old.learnt is.more in
    let after : length new.learnt ≡ length old.learnt + length then.more = ap length then.learnt ∙ length-append old.learnt then.more in
    let one : length new.learnt ≡ length mid.learnt + 1 = ap length grew ∙ length_push mid.learnt clause in
    left_learnt old.board.variables (length mid.learnt - length old.learnt) (length new.learnt - length old.learnt) (length mid.board.past.literals) (length new.board.past.literals) (length assumptions) (length mid.board.levels) (length new.board.levels)
    (omega (arith, before, one)) (omega (arith, after, at_most old.board.variables then.more then.distinct)) (omega (arith, facts.kept.most, vars, vars'))
left_falls assumptions old mid new t (inr e) is then facts vars vars' turn =
    let (same, forward) = subst (IsTurn assumptions mid new) e turn in
    let n : length new.learnt ≡ length mid.learnt = ap length same in
    let most : length new.board.past.literals ≤ old.board.variables = omega (arith, facts.kept.most, vars, vars') in
    rw n (elim forward [
      | inl more ↦ left_grown old.board.variables (length mid.learnt - length old.learnt) (length mid.board.past.literals) (length new.board.past.literals) (length assumptions) (length mid.board.levels) (length new.board.levels) more most
      | inr (long, low, opened) ↦ left_opened old.board.variables (length mid.learnt - length old.learnt) (length mid.board.past.literals) (length new.board.past.literals) (length assumptions) (length mid.board.levels) (length new.board.levels) long most low opened
    ])
