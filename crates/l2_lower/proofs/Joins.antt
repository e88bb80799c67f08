-- Items behind items do what the first and then the others do.
use Rattle.std.proofs.Common.{◌≡◌, Bool, refl, sym, subst}
use Rattle.l2_runs.specs.Fits.{Layout}
use Rattle.l2_runs.specs.Runs.{End, Result, Go, Halt, Run, on_go, and_then, done}
use Rattle.l2_code.specs.declared.action.Action.{Action}
use Rattle.l2_code.specs.Trees.{Node, Nodes, none, more, join}
use Rattle.l2_code.specs.Values.{Temps}
use Rattle.l2_code.specs.Machine.{Setting, Way, On, Out, follow, act, node, nodes}
use Rattle.l2_lower.specs.Emitting.{only}
use Rattle.l2_code.proofs.Joins.{nodes-join}
use Rattle.l2_lower.proofs.Matches.{Matches, then_matches}

module _ {A B C : Type 0} where
  pub assoc_at : (x : Result A) (h : A → Run B) (k : B → Run C) → on_go (on_go x h) k ≡ on_go x (λ a. and_then (h a) k)
  assoc_at (Go a s) h k = refl
  assoc_at (Halt o s) h k = refl

  pub assoc_twice : {D : Type 0} (x : Result A) (h : A → Run B) (k : B → Run C) (m : C → Run D) → on_go (on_go (on_go x h) k) m ≡ on_go x (λ a. and_then (and_then (h a) k) m)
  assoc_twice (Go a s) h k m = refl
  assoc_twice (Halt o s) h k m = refl

-- a run that comes to its end is itself
pub then_done : {A : Type 0} (x : Result A) → on_go x done ≡ x
then_done (Go a s) = refl
then_done (Halt e s) = refl

module _ (g : Setting) (b : Bool) where
  pub join_is : (xs ys : Nodes) (t : Temps) → nodes g b (join xs ys) t ≡ and_then (nodes g b xs t) (follow (nodes g b ys))
  join_is xs ys t = λ i s. nodes-join g b xs ys t s i

  -- what is done by the first items, and then by the others
  pub join_matches : {A A' : Type 0} {S : A → Way → Type 0} {T : A' → Way → Type 0} (layout : Layout) (Fine : End → Type 0) (xs ys : Nodes) (t : Temps) (r : Run A) (f : A → Run A') →
      Matches layout Fine S r (nodes g b xs t) → ((a : A) (w : Way) → S a w → Matches layout Fine T (f a) (follow (nodes g b ys) w)) → Matches layout Fine T (and_then r f) (nodes g b (join xs ys) t)
  join_matches {T = T} layout Fine xs ys t r f h next = subst (λ (q : Run Way). Matches layout Fine T (and_then r f) q) (sym (join_is xs ys t)) (then_matches layout Fine h next)

  follow_done : (x : Result Way) → on_go x (follow (λ t. done (On t))) ≡ x
  follow_done (Go (On t) s) = refl
  follow_done (Go (Out n) s) = refl
  follow_done (Halt e s) = refl

  -- one item alone
  pub one_is : (x : Node) (t : Temps) → nodes g b (more x none) t ≡ node g b x t
  one_is x t = λ i s. follow_done (node g b x t s) i

  pub only_is : (a : Action) (t : Temps) → nodes g b (only a) t ≡ act g b a t
  only_is a t = λ i s. follow_done (act g b a t s) i
