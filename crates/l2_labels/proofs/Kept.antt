-- What merging labels keeps.
use Rattle.l2_runs.specs.Loops.{Tests}
use Rattle.l2_runs.specs.Runs.{Result}
use Rattle.l2_code.specs.Modes.{Mode, Real, Short, Cut, limit_of, run_code, start}
use Rattle.std.proofs.Common.{arith, ◌≡◌, refl, ap, ◌∙◌, sym, subst, ℤ, ℕ, zero, suc, ◌<◌, Bool, true, false, List, [], ◌∷◌, ◌++◌}
use Rattle.l2_code.specs.declared.action.Action.{Action}
use Rattle.l2_code.specs.declared.action.Action.TheVariants as action
use Rattle.l2_code.specs.Trees.{Node, Do, Block, Loop, Nodes, none, more, CodeTree}
use Rattle.l2_code.specs.Sets.{Family, IsClosedAction, IsClosedNode, AreClosed, IsResolved}
use Rattle.l2_code.specs.WellFormed.{IsEnd, EndsWithEnd, JumpsOut, HasJumps, HaveJumps, result_of, node_results, results, Names, Scope, IsTypedAction, behind, behind_node, IsTypedNode, AreTyped, empty_scope, names_of, IsStuck}
use Rattle.l2_labels.specs.Labels.{blocks_left, redirected, where_last, single, at_end, merged, one_label}
use Rattle.l2_labels.specs.Law.{StaysWellFormed, StaysResolved}
use Rattle.l2_labels.proofs.Runs.{runs_law}

by_case : (P : Nodes → Type 0) (rest last other : Nodes) → (rest ≡ none → P last) → P other → P (where_last rest last other)
by_case P none last other p q = p refl
by_case P (more x rest) last other p q = q

-- ---- jumps

pub record Fits (stays : List Bool) (n m : ℕ) : Type 0 where
  pub at : (i : ℕ) → i < n → blocks_left stays i < m

fits_kept : (stays : List Bool) (n m : ℕ) → Fits stays n m → Fits (true ∷ stays) (suc n) (suc m)
fits_kept stays n m h = record { at = λ i p. go i p }
  where
    go : (i : ℕ) → i < suc n → blocks_left (true ∷ stays) i < suc m
    go zero p = omega arith
    go (suc i) p = let q = h.at i (omega arith) in omega arith

fits_merged : (stays : List Bool) (n m : ℕ) → 0 < m → Fits stays n m → Fits (false ∷ stays) (suc n) m
fits_merged stays n m w h = record { at = λ i p. go i p }
  where
    go : (i : ℕ) → i < suc n → blocks_left (false ∷ stays) i < m
    go zero p = w
    go (suc i) p = h.at i (omega arith)

jump_fits : (stays : List Bool) (n m : ℕ) → Fits stays n m → (a : Action) → JumpsOut n a → JumpsOut m (redirected stays a)
jump_fits stays n m h (action.Unless a i) j = h.at i j
jump_fits stays n m h (action.Goto i) j = h.at i j
jump_fits stays n m h (action.Compute i c) j = tt
jump_fits stays n m h (action.Read i ty a) j = tt
jump_fits stays n m h (action.Write ty a x) j = tt
jump_fits stays n m h (action.Choice i ty) j = tt
jump_fits stays n m h (action.Assume a) j = tt
jump_fits stays n m h (action.Check i a) j = tt
jump_fits stays n m h (action.Live i) j = tt
jump_fits stays n m h (action.Dead i) j = tt
jump_fits stays n m h action.End j = tt

abbrev Roomy : Bool → ℕ → Type 0
Roomy true m = 0 < m
Roomy false m = Unit {0}

mutual
  single_jumps : (stays : List Bool) (n m : ℕ) → Fits stays n m → (x : Node) → HasJumps n x → HasJumps m (single stays x)
  single_jumps stays n m h (Do a) j = jump_fits stays n m h a j
  single_jumps stays n m h (Block all) j = merged_jumps (true ∷ stays) true (suc n) (suc m) (omega arith) (fits_kept stays n m h) all j
  single_jumps stays n m h (Loop l all) j = merged_jumps stays false n m tt h all j

  last_jumps : (stays : List Bool) (inside : Bool) (n m : ℕ) → Roomy inside m → Fits stays n m → (x : Node) → HasJumps n x → HaveJumps m (at_end stays inside x)
  last_jumps stays true n m w h (Block all) j = merged_jumps (false ∷ stays) true (suc n) m w (fits_merged stays n m w h) all j
  last_jumps stays false n m w h (Block all) j = (merged_jumps (true ∷ stays) true (suc n) (suc m) (omega arith) (fits_kept stays n m h) all j, tt)
  last_jumps stays inside n m w h (Do a) j = (jump_fits stays n m h a j, tt)
  last_jumps stays inside n m w h (Loop l all) j = (merged_jumps stays false n m tt h all j, tt)

  merged_jumps : (stays : List Bool) (inside : Bool) (n m : ℕ) → Roomy inside m → Fits stays n m → (xs : Nodes) → HaveJumps n xs → HaveJumps m (merged stays inside xs)
  merged_jumps stays inside n m w h none j = tt
  merged_jumps stays inside n m w h (more x rest) j =
      by_case (HaveJumps m) rest (at_end stays inside x) (more (single stays x) (merged stays inside rest)) (λ e. last_jumps stays inside n m w h x j.0)
      (single_jumps stays n m h x j.0, merged_jumps stays inside n m w h rest j.1)

-- ---- results

append_none : (xs : List ℕ) → xs ++ [] ≡ xs
append_none [] = refl
append_none (x ∷ xs) = ap (λ ys. x ∷ ys) (append_none xs)

result_same : (stays : List Bool) (a : Action) → result_of (redirected stays a) ≡ result_of a
result_same stays (action.Unless a i) = refl
result_same stays (action.Goto i) = refl
result_same stays (action.Compute i c) = refl
result_same stays (action.Read i ty a) = refl
result_same stays (action.Write ty a x) = refl
result_same stays (action.Choice i ty) = refl
result_same stays (action.Assume a) = refl
result_same stays (action.Check i a) = refl
result_same stays (action.Live i) = refl
result_same stays (action.Dead i) = refl
result_same stays action.End = refl

results_by : (x : Node) (rest last other : Nodes) → results last ≡ node_results x → results other ≡ node_results x ++ results rest → results (where_last rest last other) ≡ node_results x ++ results rest
results_by x none last other p q = p ∙ sym (append_none (node_results x))
results_by x (more y rest) last other p q = q

mutual
  single_results : (stays : List Bool) (x : Node) → node_results (single stays x) ≡ node_results x
  single_results stays (Do a) = result_same stays a
  single_results stays (Block all) = merged_results (true ∷ stays) true all
  single_results stays (Loop l all) = merged_results stays false all

  last_results : (stays : List Bool) (inside : Bool) (x : Node) → results (at_end stays inside x) ≡ node_results x
  last_results stays true (Block all) = merged_results (false ∷ stays) true all
  last_results stays false (Block all) = append_none (results (merged (true ∷ stays) true all)) ∙ merged_results (true ∷ stays) true all
  last_results stays inside (Do a) = append_none (result_of (redirected stays a)) ∙ result_same stays a
  last_results stays inside (Loop l all) = append_none (results (merged stays false all)) ∙ merged_results stays false all

  merged_results : (stays : List Bool) (inside : Bool) (xs : Nodes) → results (merged stays inside xs) ≡ results xs
  merged_results stays inside none = refl
  merged_results stays inside (more x rest) =
      results_by x rest (at_end stays inside x) (more (single stays x) (merged stays inside rest)) (last_results stays inside x)
      (ap (λ (ns : List ℕ). ns ++ results (merged stays inside rest)) (single_results stays x) ∙ ap (λ (ns : List ℕ). node_results x ++ ns) (merged_results stays inside rest))

-- ---- types

typed_same : (names : Names) (scope : Scope) (stays : List Bool) (a : Action) → IsTypedAction names scope a → IsTypedAction names scope (redirected stays a)
typed_same names scope stays (action.Unless a i) h = h
typed_same names scope stays (action.Goto i) h = h
typed_same names scope stays (action.Compute i c) h = h
typed_same names scope stays (action.Read i ty a) h = h
typed_same names scope stays (action.Write ty a x) h = h
typed_same names scope stays (action.Choice i ty) h = h
typed_same names scope stays (action.Assume a) h = h
typed_same names scope stays (action.Check i a) h = h
typed_same names scope stays (action.Live i) h = h
typed_same names scope stays (action.Dead i) h = h
typed_same names scope stays action.End h = h

behind_same : (scope : Scope) (stays : List Bool) (a : Action) → behind scope (redirected stays a) ≡ behind scope a
behind_same scope stays (action.Unless a i) = refl
behind_same scope stays (action.Goto i) = refl
behind_same scope stays (action.Compute i c) = refl
behind_same scope stays (action.Read i ty a) = refl
behind_same scope stays (action.Write ty a x) = refl
behind_same scope stays (action.Choice i ty) = refl
behind_same scope stays (action.Assume a) = refl
behind_same scope stays (action.Check i a) = refl
behind_same scope stays (action.Live i) = refl
behind_same scope stays (action.Dead i) = refl
behind_same scope stays action.End = refl

behind_single : (scope : Scope) (stays : List Bool) (x : Node) → behind_node scope (single stays x) ≡ behind_node scope x
behind_single scope stays (Do a) = behind_same scope stays a
behind_single scope stays (Block all) = refl
behind_single scope stays (Loop l all) = refl

mutual
  single_typed : (names : Names) (scope : Scope) (stays : List Bool) (x : Node) → IsTypedNode names scope x → IsTypedNode names scope (single stays x)
  single_typed names scope stays (Do a) h = typed_same names scope stays a h
  single_typed names scope stays (Block all) h = merged_typed names scope (true ∷ stays) true all h
  single_typed names scope stays (Loop l all) h = (h.0, merged_typed names scope stays false all h.1)

  last_typed : (names : Names) (scope : Scope) (stays : List Bool) (inside : Bool) (x : Node) → IsTypedNode names scope x → AreTyped names scope (at_end stays inside x)
  last_typed names scope stays true (Block all) h = merged_typed names scope (false ∷ stays) true all h
  last_typed names scope stays false (Block all) h = (merged_typed names scope (true ∷ stays) true all h, tt)
  last_typed names scope stays inside (Do a) h = (typed_same names scope stays a h, tt)
  last_typed names scope stays inside (Loop l all) h = ((h.0, merged_typed names scope stays false all h.1), tt)

  merged_typed : (names : Names) (scope : Scope) (stays : List Bool) (inside : Bool) (xs : Nodes) → AreTyped names scope xs → AreTyped names scope (merged stays inside xs)
  merged_typed names scope stays inside none h = tt
  merged_typed names scope stays inside (more x rest) h =
      by_case (AreTyped names scope) rest (at_end stays inside x) (more (single stays x) (merged stays inside rest)) (λ e. last_typed names scope stays inside x h.0)
      (single_typed names scope stays x h.0, subst (λ (z : Scope). AreTyped names z (merged stays inside rest)) (sym (behind_single scope stays x)) (merged_typed names (behind_node scope x) stays inside rest h.1))

-- ---- sets

closed_same : (f : Family) (stays : List Bool) (a : Action) → IsClosedAction f a → IsClosedAction f (redirected stays a)
closed_same f stays (action.Unless a i) h = h
closed_same f stays (action.Goto i) h = h
closed_same f stays (action.Compute i c) h = h
closed_same f stays (action.Read i ty a) h = h
closed_same f stays (action.Write ty a x) h = h
closed_same f stays (action.Choice i ty) h = h
closed_same f stays (action.Assume a) h = h
closed_same f stays (action.Check i a) h = h
closed_same f stays (action.Live i) h = h
closed_same f stays (action.Dead i) h = h
closed_same f stays action.End h = h

mutual
  single_closed : (f : Family) (stays : List Bool) (x : Node) → IsClosedNode f x → IsClosedNode f (single stays x)
  single_closed f stays (Do a) h = closed_same f stays a h
  single_closed f stays (Block all) h = merged_closed f (true ∷ stays) true all h
  single_closed f stays (Loop l all) h = merged_closed f stays false all h

  last_closed : (f : Family) (stays : List Bool) (inside : Bool) (x : Node) → IsClosedNode f x → AreClosed f (at_end stays inside x)
  last_closed f stays true (Block all) h = merged_closed f (false ∷ stays) true all h
  last_closed f stays false (Block all) h = (merged_closed f (true ∷ stays) true all h, tt)
  last_closed f stays inside (Do a) h = (closed_same f stays a h, tt)
  last_closed f stays inside (Loop l all) h = (merged_closed f stays false all h, tt)

  merged_closed : (f : Family) (stays : List Bool) (inside : Bool) (xs : Nodes) → AreClosed f xs → AreClosed f (merged stays inside xs)
  merged_closed f stays inside none h = tt
  merged_closed f stays inside (more x rest) h =
      by_case (AreClosed f) rest (at_end stays inside x) (more (single stays x) (merged stays inside rest)) (λ e. last_closed f stays inside x h.0)
      (single_closed f stays x h.0, merged_closed f stays inside rest h.1)

pub resolved_law : StaysResolved
resolved_law c f z = record {
  closed = record { actions = merged_closed f [] false c.body z.closed.actions; objects = λ n o e. z.closed.objects n o e };
  over = record { objects = λ n o e. z.over.objects n o e; temps = λ n o e. z.over.temps n o e };
}

open_same : (f : Family) (stays : List Bool) (a : Action) → IsClosedAction f (redirected stays a) → IsClosedAction f a
open_same f stays (action.Unless a i) h = h
open_same f stays (action.Goto i) h = h
open_same f stays (action.Compute i c) h = h
open_same f stays (action.Read i ty a) h = h
open_same f stays (action.Write ty a x) h = h
open_same f stays (action.Choice i ty) h = h
open_same f stays (action.Assume a) h = h
open_same f stays (action.Check i a) h = h
open_same f stays (action.Live i) h = h
open_same f stays (action.Dead i) h = h
open_same f stays action.End h = h

open_by : (f : Family) (x : Node) (rest last : Nodes) (y : Node) (ys : Nodes) → (AreClosed f last → IsClosedNode f x) → (IsClosedNode f y → IsClosedNode f x) → (AreClosed f ys → AreClosed f rest)
    → AreClosed f (where_last rest last (more y ys)) → AreClosed f (more x rest)
open_by f x none last y ys p q r h = (p h, tt)
open_by f x (more z rest) last y ys p q r h = (q h.0, r h.1)

-- ---- well-formed code

end_alone : (stays : List Bool) (x : Node) → IsEnd x → EndsWithEnd (at_end stays false x)
end_alone stays (Do action.End) e = tt
end_alone stays (Do (action.Unless a i)) e = absurd e
end_alone stays (Do (action.Goto i)) e = absurd e
end_alone stays (Do (action.Compute i c)) e = absurd e
end_alone stays (Do (action.Read i ty a)) e = absurd e
end_alone stays (Do (action.Write ty a x)) e = absurd e
end_alone stays (Do (action.Choice i ty)) e = absurd e
end_alone stays (Do (action.Assume a)) e = absurd e
end_alone stays (Do (action.Check i a)) e = absurd e
end_alone stays (Do (action.Live i)) e = absurd e
end_alone stays (Do (action.Dead i)) e = absurd e
end_alone stays (Block all) e = absurd e
end_alone stays (Loop l all) e = absurd e

ends_behind : (x : Node) (xs : Nodes) → EndsWithEnd xs → EndsWithEnd (more x xs)
ends_behind x none e = absurd e
ends_behind x (more y rest) e = e

merged_end : (stays : List Bool) (xs : Nodes) → EndsWithEnd xs → EndsWithEnd (merged stays false xs)
merged_end stays none e = absurd e
merged_end stays (more x none) e = end_alone stays x e
merged_end stays (more x (more y rest)) e = ends_behind (single stays x) (merged stays false (more y rest)) (merged_end stays (more y rest) e)

same_limit : (c : CodeTree) (f : Family) (mode : Mode) → limit_of (one_label c) f mode ≡ limit_of c f mode
same_limit c f Real = refl
same_limit c f (Short n) = refl
same_limit c f (Cut n starts) = refl

-- each family with which the merged code may be resolved is one of the code
mutual
  single_open : (f : Family) (stays : List Bool) (x : Node) → IsClosedNode f (single stays x) → IsClosedNode f x
  single_open f stays (Do a) h = open_same f stays a h
  single_open f stays (Block all) h = merged_open f (true ∷ stays) true all h
  single_open f stays (Loop l all) h = merged_open f stays false all h

  last_open : (f : Family) (stays : List Bool) (inside : Bool) (x : Node) → AreClosed f (at_end stays inside x) → IsClosedNode f x
  last_open f stays true (Block all) h = merged_open f (false ∷ stays) true all h
  last_open f stays false (Block all) h = merged_open f (true ∷ stays) true all h.0
  last_open f stays inside (Do a) h = open_same f stays a h.0
  last_open f stays inside (Loop l all) h = merged_open f stays false all h.0

  merged_open : (f : Family) (stays : List Bool) (inside : Bool) (xs : Nodes) → AreClosed f (merged stays inside xs) → AreClosed f xs
  merged_open f stays inside none h = tt
  merged_open f stays inside (more x rest) h =
      open_by f x rest (at_end stays inside x) (single stays x) (merged stays inside rest) (last_open f stays inside x) (single_open f stays x) (merged_open f stays inside rest) h

pub well_formed_law : StaysWellFormed
well_formed_law c w = record {
  ends = merged_end [] c.body w.ends;
  jumps = merged_jumps [] false 0 0 tt (record { at = λ i p. omega arith }) c.body w.jumps;
  temps = merged_results [] false c.body ∙ w.temps;
  typed = merged_typed (names_of c) empty_scope [] false c.body w.typed;
  few_objects = w.few_objects;
  objects = λ n o e. w.objects n o e;
  pointed = λ n p e. w.pointed n p e;
  loops = λ n l e. w.loops n l e;
  never_stuck = λ f z mode tests choices turns. stays_free f z mode tests choices turns;
}
  where
    resolved : (f : Family) → IsResolved (one_label c) f → IsResolved c f
    resolved f z = record {
      closed = record { actions = merged_open f [] false c.body z.closed.actions; objects = λ n o e. z.closed.objects n o e };
      over = record { objects = λ n o e. z.over.objects n o e; temps = λ n o e. z.over.temps n o e };
    }

    stays_free : (f : Family) → IsResolved (one_label c) f → (mode : Mode) (tests : Tests) (choices : List ℤ) (turns : ℕ) → ¬ IsStuck (run_code (one_label c) (limit_of (one_label c) f mode) tests (start (one_label c) choices turns))
    stays_free f z mode tests choices turns stuck =
        w.never_stuck f (resolved f z) mode tests choices turns
        (subst (λ (r : Result (Unit {0})). IsStuck r)
        (ap (λ l. run_code (one_label c) l tests (start c choices turns)) (same_limit c f mode) ∙ runs_law c (limit_of c f mode) tests (start c choices turns)) stuck)
