-- Events that are true, and the last clauses of goals.
use Rattle.std.proofs.Common.{◌≡◌, ◌⊎◌, inl, inr, ℕ, Bool, true, false, not, ◌==◌, ◌&&◌, if◌then◌else◌, List, [], ◌∷◌, refl, sym, ap, ◌∙◌, subst, arith}
use Rattle.std.proofs.lemmas.Bool.Decides.{nat_tests}
use Rattle.l2_gates.specs.Gates.{Lit, Pos, Neg, F, same}
use Rattle.l2_gates.specs.Models.{value, some_of, some_true}
use Rattle.l2_ssa.specs.Steps.{Names, on}
use Rattle.l2_ssa.specs.Walks.{Goal, RowGoal, RankGoal, CheckGoal, Event}
use Rattle.l2_ssa.specs.Law.{HasEvent}
use Rattle.l2_blast.specs.Words.{Env, literal}
use Rattle.l2_goals.specs.Formulas.{same_goal, unless_false, literals}

equal_is : (n m : ℕ) → (n == m) ≡ true → n ≡ m
equal_is n m e = grind (arith, nat_tests)

self : (n : ℕ) → (n == n) ≡ true
self n = grind (arith, nat_tests)

both_true : (a b : Bool) → (a && b) ≡ true → (a ≡ true) × (b ≡ true)
both_true true true h = (refl, refl)
both_true true false h = absurd (cc h)
both_true false b h = absurd (cc h)

pub goal_is : (a b : Goal) → same_goal a b ≡ true → a ≡ b
goal_is (RowGoal l i) (RowGoal m j) h =
    let t = both_true (l == m) (i == j) h in
    ap (λ n. RowGoal n i) (equal_is l m t.0) ∙ ap (λ n. RowGoal m n) (equal_is i j t.1)
goal_is (RowGoal l i) (RankGoal m) h = absurd (cc h)
goal_is (RowGoal l i) (CheckGoal d) h = absurd (cc h)
goal_is (RankGoal l) (RowGoal m j) h = absurd (cc h)
goal_is (RankGoal l) (RankGoal m) h = ap RankGoal (equal_is l m h)
goal_is (RankGoal l) (CheckGoal d) h = absurd (cc h)
goal_is (CheckGoal c) (RowGoal m j) h = absurd (cc h)
goal_is (CheckGoal c) (RankGoal m) h = absurd (cc h)
goal_is (CheckGoal c) (CheckGoal d) h = ap CheckGoal (equal_is c d h)

pub goal_self : (a : Goal) → same_goal a a ≡ true
goal_self (RowGoal l i) = ap (λ b. b && (i == i)) (self l) ∙ self i
goal_self (RankGoal l) = self l
goal_self (CheckGoal c) = self c

lit_is : (a b : Lit) → same a b ≡ true → a ≡ b
lit_is (Pos n) (Pos m) h = ap Pos (equal_is n m h)
lit_is (Pos n) (Neg m) h = absurd (cc h)
lit_is (Neg n) (Pos m) h = absurd (cc h)
lit_is (Neg n) (Neg m) h = ap Neg (equal_is n m h)

-- each event's literal has the event's value
abbrev pub Agree : (ℕ → Bool) → Env → Names → List Event → Type 0
Agree v env s [] = Unit {0}
Agree v env s (e ∷ es) = (on s e.literal ≡ value v (literal env e.literal)) × Agree v env s es

module _ (v : ℕ → Bool) (one : v 0 ≡ true) (env : Env) (s : Names) where
  false_value : (l : Lit) → same l F ≡ true → value v l ≡ false
  false_value l h = ap (value v) (lit_is l F h) ∙ ap not one

  some_more : (a b : Bool) → b ≡ true → some_of a b ≡ true
  some_more true b h = refl
  some_more false b h = h

  some_first : (a b : Bool) → a ≡ true → some_of a b ≡ true
  some_first true b h = refl
  some_first false b h = absurd (cc h)

  literal_first : (l : Lit) (rest : List Lit) → value v l ≡ true → some_true v (unless_false l rest) ≡ true
  literal_first l rest h = go (same l F) refl
    where
      go : (b : Bool) → same l F ≡ b → some_true v (if b then rest else l ∷ rest) ≡ true
      go true e = absurd (apart (value v l) h (false_value l e))
        where
          apart : (x : Bool) → x ≡ true → x ≡ false → ⊥
          apart x p q = cc
      go false e = some_first (value v l) (some_true v rest) h

  literal_rest : (l : Lit) (rest : List Lit) → some_true v rest ≡ true → some_true v (unless_false l rest) ≡ true
  literal_rest l rest h = go (same l F)
    where
      go : (b : Bool) → some_true v (if b then rest else l ∷ rest) ≡ true
      go true = h
      go false = some_more (value v l) (some_true v rest) h

  pub event_literal : (goal : Goal) (es : List Event) → Agree v env s es → HasEvent s goal es → some_true v (literals env goal es) ≡ true
  event_literal goal [] a h = absurd h
  event_literal goal (e ∷ es) a (inl (is, t)) =
      subst (λ b. some_true v (if b then unless_false (literal env e.literal) (literals env goal es) else literals env goal es) ≡ true)
      (sym (ap (λ g. same_goal g goal) is ∙ goal_self goal)) (literal_first (literal env e.literal) (literals env goal es) (sym a.0 ∙ t))
  event_literal goal (e ∷ es) a (inr k) = go (same_goal e.goal goal) (event_literal goal es a.1 k)
    where
      go : (b : Bool) → some_true v (literals env goal es) ≡ true → some_true v (if b then unless_false (literal env e.literal) (literals env goal es) else literals env goal es) ≡ true
      go true h = literal_rest (literal env e.literal) (literals env goal es) h
      go false h = h

  split : (l : Lit) (rest : List Lit) → some_true v (unless_false l rest) ≡ true → (value v l ≡ true) ⊎ (some_true v rest ≡ true)
  split l rest h = go (same l F) h
    where
      either : (a b : Bool) → some_of a b ≡ true → (a ≡ true) ⊎ (b ≡ true)
      either true b h = inl refl
      either false b h = inr h

      go : (b : Bool) → some_true v (if b then rest else l ∷ rest) ≡ true → (value v l ≡ true) ⊎ (some_true v rest ≡ true)
      go true h = inr h
      go false h = either (value v l) (some_true v rest) h

  pub literal_event : (goal : Goal) (es : List Event) → Agree v env s es → some_true v (literals env goal es) ≡ true → HasEvent s goal es
  literal_event goal [] a h = absurd (cc h)
  literal_event goal (e ∷ es) a h = go (same_goal e.goal goal) refl h (literal_event goal es a.1)
    where
      go : (b : Bool) → same_goal e.goal goal ≡ b → some_true v (if b then unless_false (literal env e.literal) (literals env goal es) else literals env goal es) ≡ true → (some_true v (literals env goal es) ≡ true → HasEvent s goal es) → HasEvent s goal (e ∷ es)
      go true is h rest = on_split (split (literal env e.literal) (literals env goal es) h)
        where
          on_split : (value v (literal env e.literal) ≡ true) ⊎ (some_true v (literals env goal es) ≡ true) → HasEvent s goal (e ∷ es)
          on_split (inl t) = inl (goal_is e.goal goal is, a.0 ∙ t)
          on_split (inr k) = inr (rest k)
      go false is h rest = inr (rest h)
