-- The answers of a search: models and cores.
use Rattle.std.proofs.Common.{◌≡◌, ◌≢◌, ◌⊎◌, inl, inr, ℕ, suc, zero, ◌-◌, ◌<◌, ◌≤◌, List, ◌++◌, [], ◌∷◌, length, set, take, refl, sym, ap, ◌∙◌, subst, arith, Bool, true, false, append_assoc}
use Rattle.std.specs.Prelude.{Option, None, Some, ℤ, neg_ℤ, nat_abs, Contains}
use Rattle.std.proofs.lemmas.List.{get_or-set_same, get_or-set_other, get_or-take, length-take-le, append-nil}
use Rattle.std.proofs.lemmas.List.Elements.{Contains-append_left, Contains-append_right, Contains-append_cases}
use Rattle.l2_cnf.specs.Lit.{positive}
use Rattle.l2_cnf.specs.Assignment.{value_of, MakesTrue, completed}
use Rattle.l2_cnf.specs.Logic.{literal_true, Satisfies, Follows, Settles}
use Rattle.l2_cnf.proofs.Laws.{decide, not_both, no_model, same_or_not, one_in}
use Rattle.l2_cnf.proofs.Models.{MakesTrue-literal_true}
use Rattle.l2_watch.specs.Board.{Board}
use Rattle.l2_order.specs.Choice.{HasFree}
use Rattle.l2_cdcl.specs.Learning.{AreLearnt, IsLearning}
use Rattle.l2_cdcl.specs.Search.{Search, IsWhole}
use Rattle.l2_cdcl.specs.Searched.{IsSearch, IsSearched}
use Rattle.l2_cdcl.specs.Answering.{IsModel, IsCore}
use Rattle.l2_cdcl.proofs.Searches.{settles_same, follows_same, AreLearnt-push}

-- the value of a variable after one was set
set_here : (values : List (Option Bool)) (n : ℕ) (x : Option Bool) → 1 ≤ n → n ≤ length values → value_of (set values (n - 1) x) n ≡ x
set_here values zero x h k = absurd (omega (arith, h))
set_here values (suc n) x h k = let e : suc n - 1 ≡ n = omega arith in rw e (get_or-set_same values n x None (omega (arith, k)))

set_there : (values : List (Option Bool)) (n m : ℕ) (x : Option Bool) → 1 ≤ n → m ≢ n → value_of (set values (n - 1) x) m ≡ value_of values m
set_there values zero m x h ne = absurd (omega (arith, h))
set_there values (suc n) zero x h ne = refl
set_there values (suc n) (suc m) x h ne = let e : suc n - 1 ≡ n = omega arith in rw e (get_or-set_other values n m x None (λ s. ne (ap suc s)))

pub set_true : (values : List (Option Bool)) (l : ℤ) → 1 ≤ nat_abs l → nat_abs l ≤ length values → MakesTrue (set values (nat_abs l - 1) (Some (positive l))) l
set_true values l h k = set_here values (nat_abs l) (Some (positive l)) h k

pub set_kept : (values : List (Option Bool)) (l m : ℤ) (x : Option Bool) → 1 ≤ nat_abs l → nat_abs m ≢ nat_abs l → MakesTrue values m → MakesTrue (set values (nat_abs l - 1) x) m
set_kept values l m x h ne is = set_there values (nat_abs l) (nat_abs m) x h ne ∙ is

-- a literal stands in a list or not
pub has_or_not : (list : List ℤ) (l : ℤ) → Contains list l ⊎ (¬ Contains list l)
has_or_not [] l = inr (λ h. omega (arith, h.1))
has_or_not (x ∷ xs) l = elim (same_or_not x l) [
  | inl e ↦ inl (0, omega arith, e)
  | inr ne ↦ elim (has_or_not xs l) [
    | inl h ↦ inl (Contains-append_right (x ∷ []) xs l h)
    | inr none ↦ inr (λ h. elim (Contains-append_cases (x ∷ []) xs l h) [
      | inl here ↦ ne (one_in x l here)
      | inr there ↦ none there
    ])
  ]
]

-- where no variable is free each literal is true or false
total : (b : Board) (l : ℤ) → ¬ HasFree b.past.literals b.variables → 1 ≤ nat_abs l → nat_abs l ≤ b.variables → Contains b.past.literals l ⊎ Contains b.past.literals (neg_ℤ l)
total b l none some over = elim (has_or_not b.past.literals l) [
  | inl h ↦ inl h
  | inr unset ↦ elim (has_or_not b.past.literals (neg_ℤ l)) [
    | inl h ↦ inr h
    | inr live ↦ absurd (none (l, record { some = some; over = over; unset = unset; live = live }))
  ]
]

-- a whole board gives a model
pub whole_model : (s : Search) (assumptions : List ℤ) (values : List (Option Bool)) → IsSearch s → IsWhole assumptions s.board → ((l : ℤ) → Contains s.board.past.literals l → MakesTrue values l) → IsModel values s.added assumptions
whole_model s assumptions values facts whole makes = record {
  clauses_met = λ clause h.
      let b = s.board in
      let inside : Contains b.clauses clause = facts.inside clause (Contains-append_left s.added s.learnt clause h) in
      let each : (l : ℤ) → Contains clause l → Contains b.past.literals l ⊎ Contains b.past.literals (neg_ℤ l) = λ l c. (let o = facts.kept.over clause inside l c in total b l whole.none o.0 o.1) in
      let v : ℕ → Bool = completed values in
      elim (decide v clause) [
        | inl (l, c, t) ↦ elim (each l c) [
          | inl true_one ↦ (l, c, makes l true_one)
          | inr false_one ↦ absurd (not_both v l t (MakesTrue-literal_true values (neg_ℤ l) (makes (neg_ℤ l) false_one)))
        ]
        | inr all ↦ absurd (whole.closed.live clause inside (λ m c. elim (each m c) [
          | inl true_one ↦ absurd (let t : true ≡ false = sym (MakesTrue-literal_true values m (makes m true_one)) ∙ all m c in cc)
          | inr false_one ↦ false_one
        ]))
      ];
  assumptions_met = λ l h. makes l (whole.met l h);
}

-- what the board settles has no model
settled_none : (s : Search) (core : List ℤ) → IsSearch s → Settles s.board.clauses core → (v : ℕ → Bool) → Satisfies v s.added → ((l : ℤ) → Contains core l → literal_true v l ≡ true) → ⊥
settled_none s core facts (inl (l, a, b)) v model holds = not_both v l (holds l a) (holds (neg_ℤ l) b)
settled_none s core facts (inr conflict) v model holds = no_model v s.board.clauses (Contains core) conflict (facts.implied v model) holds

take_part : (list : List ℤ) (n : ℕ) (l : ℤ) → n ≤ length list → Contains (take n list) l → Contains list l
take_part list n l h (k, b, e) =
    let before : k < n = omega (arith, b, length-take-le n list h) in
    (k, omega (arith, before, h), sym (get_or-take n list k l before) ∙ e)

-- a core
pub core_is : (s : Search) (assumptions core : List ℤ) (n : ℕ) → IsSearch s → core ≡ take n assumptions → n ≤ length assumptions → Settles s.board.clauses (take n assumptions) → IsCore core assumptions s.added s.learnt
core_is s assumptions core n facts e h settled =
    let here : Settles s.board.clauses core = subst (Settles s.board.clauses) (sym e) settled in
    record {
      part = λ l k. take_part assumptions n l h (subst (λ x. Contains x l) e k);
      none = settled_none s core facts here;
      settled = settles_same s.board.clauses (s.added ++ s.learnt) core facts.all here;
    }

-- an empty clause settles all
pub empty_settles : (s : Search) (core : List ℤ) → IsSearch s → Contains s.learnt [] → Settles s.board.clauses core
empty_settles s core facts h = inr ([], facts.inside [] (Contains-append_right s.added s.learnt [] h), (λ m k. absurd (omega (arith, k.1))))

-- nothing was learnt
pub learning_none : (assumptions : List ℤ) (added old new : List (List ℤ)) → new ≡ old → IsLearning assumptions added old new
learning_none assumptions added old new e = record { more = []; learnt = e ∙ sym (append-nil old); all = tt; settled = λ h. inl refl }

-- what a search learnt
pub learning_search : (assumptions : List ℤ) (s t : Search) (added old new : List (List ℤ)) → IsSearched assumptions s t → s.added ≡ added → s.learnt ≡ old → new ≡ t.learnt → IsLearning assumptions added old new
learning_search assumptions s t added old new is e f g = record {
  more = is.more;
  learnt = g ∙ is.learnt ∙ ap (λ x. x ++ is.more) f;
  all = subst (λ x. AreLearnt x old is.more) e (subst (λ x. AreLearnt s.added x is.more) f is.all);
  settled = λ h. inl (is.settled (subst (λ x. Settles (x ++ s.learnt) assumptions) (sym e) (subst (λ x. Settles (added ++ x) assumptions) (sym f) h)));
}

-- and then the empty clause
pub learning_closed : (assumptions : List ℤ) (s t : Search) (added old new : List (List ℤ)) → IsSearched assumptions s t → IsSearch t → t.added ≡ added → s.added ≡ added → s.learnt ≡ old → new ≡ t.learnt ++ [] ∷ [] → ¬ Contains old [] → Follows t.board.clauses [] → IsLearning assumptions added old new
unfolding learning_search
learning_closed assumptions s t added old new is facts d e f g first follows =
    let base = learning_search assumptions s t added old t.learnt is e f refl in
    let before : t.learnt ≡ old ++ is.more = is.learnt ∙ ap (λ x. x ++ is.more) f in
    record {
      more = is.more ++ [] ∷ [];
      learnt = g ∙ ap (λ x. x ++ [] ∷ []) before ∙ append_assoc old is.more ([] ∷ []);
      all = AreLearnt-push added old is.more [] base.all (record {
        follows = follows_same t.board.clauses (added ++ (old ++ is.more)) [] (λ c h. subst (λ x. Contains x c) (λ i. d i ++ before i) (facts.all c h)) follows;
        new = inl (refl, (λ h. elim (Contains-append_cases old is.more [] h) [ inl there ↦ first there | inr there ↦ is.some [] there refl ]));
      });
      settled = λ h. elim (base.settled h) [
        | inl none ↦ inr (ap (λ x. x ++ [] ∷ []) none)
        | inr one ↦ absurd (is.some [] (subst (λ x. Contains x []) (sym one) (0, omega arith, refl)) refl)
      ];
    }

-- the empty clause alone
pub learning_empty : (assumptions : List ℤ) (s : Search) (added old new : List (List ℤ)) → IsSearch s → s.added ≡ added → s.learnt ≡ old → new ≡ old ++ [] ∷ [] → ¬ Contains old [] → Follows s.board.clauses [] → IsLearning assumptions added old new
learning_empty assumptions s added old new facts e f g first follows = record {
  more = [] ∷ [];
  learnt = g;
  all = (record { follows = follows_same s.board.clauses (added ++ old) [] (λ c h. subst (λ x. Contains x c) (λ i. e i ++ f i) (facts.all c h)) follows; new = inl (refl, first) }, tt);
  settled = λ h. inr refl;
}
