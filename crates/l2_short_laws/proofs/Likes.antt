-- A short run does what the cut run does that enters each loop.
use Rattle.std.proofs.Common.{◌≡◌, ℕ, zero, suc, pos, Bool, true, false, refl, sym, subst, [], Option, Some, None}
use Rattle.std.specs.Prelude.{◌||◌, ◌==◌}
use Rattle.l2_runs.specs.declared.cells.CellValue.{CellValue}
use Rattle.l2_runs.specs.declared.outcome.Outcome.TheVariants.{Broken}
use Rattle.l2_runs.specs.Store.{Store, Address}
use Rattle.l2_runs.specs.Runs.{End, Over, Run, on_go, and_then, done, stop, either, read, write, demand}
use Rattle.l2_runs.specs.Loops.{no_tests, or_events, tally}
use Rattle.l2_code.specs.declared.action.Action.{Action}
use Rattle.l2_code.specs.declared.action.Action.TheVariants as action
use Rattle.l2_code.specs.Trees.{Node, Do, Block, Loop, Nodes, none, more}
use Rattle.l2_code.specs.Values.{Temps, with_temp, operand_value, is_true, compute, cell_of}
use Rattle.l2_code.specs.Machine.{Way, On, Out, or_stuck, close}
use Rattle.l2_supply.specs.Supply.{Supply, nil, one, two, left, right, Place, at, Come, Goes, Ends, Supplied, on_goes, then_with, without, come_of}
use Rattle.l2_supply.specs.Going as going
use Rattle.l2_supply.specs.Going.{Setting, machine_of, next_with, rounds_with, seen, tested_with, loop_with, act_with, follow_with, node_with, nodes_with}

-- ---- supplies

-- those of a loop's turns, without their arrivals
abbrev pub turns_enter : (Supply → Supply) → ℕ → Supply → Supply
turns_enter f zero u = u
turns_enter f (suc n) u = two (f (right (left u))) (turns_enter f n (right u))

module _ (k : ℕ) where
  -- the supply of a short run, where each loop is entered
  abbrev mutual
    pub node_enters : Node → Supply → Supply
    node_enters (Do a) u = u
    node_enters (Block all) u = nodes_enters all u
    node_enters (Loop l all) u = two (one (pos 0)) (two nil (turns_enter (nodes_enters all) k u))

    pub nodes_enters : Nodes → Supply → Supply
    nodes_enters none u = u
    nodes_enters (more x rest) u = two (node_enters x (left u)) (nodes_enters rest (right u))

-- ---- the same but for arrivals

abbrev pub Like : {A : Type 0} → Come A → Come A → Type 0
Like (Goes a p) (Goes b q) = (a ≡ b) × (p.store ≡ q.store)
Like (Goes a p) (Ends y q) = ⊥
Like (Ends x p) (Goes b q) = ⊥
Like (Ends x p) (Ends y q) = x ≡ y

then_like : {A B : Type 0} (e e' : Come A) (f f' : A → Place → Come B) → Like e e' → ((a : A) (p q : Place) → p.store ≡ q.store → Like (f a p) (f' a q)) → Like (on_goes e f) (on_goes e' f')
then_like (Goes a p) (Goes b q) f f' h k = subst (λ c. Like (f a p) (f' c q)) h.0 (k a p q h.1)
then_like (Goes a p) (Ends y q) f f' h k = absurd h
then_like (Ends x p) (Goes b q) f f' h k = absurd h
then_like (Ends x p) (Ends y q) f f' h k = h

abbrev place : Store → ℕ → Place
place st n = record { store = st; arrivals = n }

abbrev Alike : {A : Type 0} → Run A → Store → ℕ → ℕ → Type 0
Alike r st n m = Like (come_of (r (at (place st n) [] 0))) (come_of (r (at (place st m) [] 0)))

demand_like : (b : Bool) (e : End) (ok : Bool) (t : Temps) (st : Store) (n m : ℕ) → Alike (and_then (demand b e ok) (λ u. done (On t))) st n m
demand_like b e true t st n m = (refl, refl)
demand_like true e false t st n m = refl
demand_like false e false t st n m = refl

module _ (g : Setting) (b : Bool) (t : Temps) (st : Store) (n m : ℕ) where
  compute_like : (i : ℕ) (x : Option CellValue) → Alike (and_then (or_stuck x) (λ v. done (On (with_temp t i v)))) st n m
  compute_like i None = refl
  compute_like i (Some v) = (refl, refl)

  read_like : (i : ℕ) (x : Option Address) → Alike (and_then (or_stuck x) (λ ad. and_then (read ad) (λ v. done (On (with_temp t i v))))) st n m
  read_like i None = refl
  read_like i (Some ad) = (refl, refl)

  write_like : (v : CellValue) (x : Option Address) → Alike (and_then (or_stuck x) (λ ad. and_then (write ad v) (λ u. done (On t)))) st n m
  write_like v None = refl
  write_like v (Some ad) = (refl, refl)

  assume_like : (x : Bool) → Alike (either x (done (On t)) stop) st n m
  assume_like true = (refl, refl)
  assume_like false = refl

  unless_like : (d : ℕ) (x : Bool) → Alike (either x (done (On t)) (done (Out d))) st n m
  unless_like d true = (refl, refl)
  unless_like d false = (refl, refl)

  act_like : (h : Setting) → h.types ≡ g.types → (a : Action) (u : Supply) → Like (act_with g b a t u (place st n)) (act_with h b a t u (place st m))
  act_like h e (action.Compute i c) u = subst (λ ty. Like (act_with g b (action.Compute i c) t u (place st n)) (come_of (on_go (or_stuck (compute ty st t c) (at (place st m) [] 0)) (λ v. done (On (with_temp t i v)))))) (sym e) (compute_like i (compute g.types st t c))
  act_like h e (action.Read i ty a) u =
      subst (λ z. Like (act_with g b (action.Read i ty a) t u (place st n)) (come_of (on_go (or_stuck (cell_of z.objects ty (operand_value t a)) (at (place st m) [] 0)) (λ ad. and_then (read ad) (λ v. done (On (with_temp t i v))))))) (sym e)
      (read_like i (cell_of g.types.objects ty (operand_value t a)))
  act_like h e (action.Write ty a x) u =
      subst (λ z. Like (act_with g b (action.Write ty a x) t u (place st n)) (come_of (on_go (or_stuck (cell_of z.objects ty (operand_value t a)) (at (place st m) [] 0)) (λ ad. and_then (write ad (operand_value t x)) (λ u. done (On t)))))) (sym e)
      (write_like (operand_value t x) (cell_of g.types.objects ty (operand_value t a)))
  act_like h e (action.Choice i ty) u = (refl, refl)
  act_like h e (action.Assume a) u = assume_like (is_true (operand_value t a))
  act_like h e (action.Check i a) u = demand_like b (Over (Broken i)) (i == 0 || is_true (operand_value t a)) t st n m
  act_like h e (action.Unless a d) u = unless_like d (is_true (operand_value t a))
  act_like h e (action.Goto d) u = (refl, refl)
  act_like h e (action.Live o) u = (refl, refl)
  act_like h e (action.Dead o) u = (refl, refl)
  act_like h e action.End u = refl

-- ---- code

module _ (k0 : ℕ) (starts : ℕ → Store → Bool) (g : Setting) where
  abbrev pub short : Setting
  short = record g { heads = going.Short (suc k0); tests = no_tests }

  abbrev pub cut : Setting
  cut = record g { heads = going.Cut (suc k0) starts; tests = no_tests }

  -- with stores that are equal
  stores : {A : Type 0} (r q : Place → Come A) → ((st : Store) (n m : ℕ) → Like (r (place st n)) (q (place st m))) → (x y : Place) → x.store ≡ y.store → Like (r x) (q y)
  stores r q h x y e = subst (λ st. Like (r x) (q (place st y.arrivals))) e (h x.store x.arrivals y.arrivals)

  follow_like : (f f' : Temps → Supplied Way) (v v' : Supply) → ((t : Temps) (p q : Place) → p.store ≡ q.store → Like (f t v p) (f' t v' q)) → (w : Way) (p q : Place) → p.store ≡ q.store → Like (follow_with f w v p) (follow_with f' w v' q)
  follow_like f f' v v' h (On t) p q e = h t p q e
  follow_like f f' v v' h (Out n) p q e = (refl, e)

  abbrev tested : ℕ → (Bool → Supplied Way) → Bool → Supplied (Unit {0} × Option ℕ)
  tested l turn d = tested_with no_tests l d (seen (λ w. (tt {0}, close w)) (turn d))

  ends_like : (l : ℕ) (d : Bool) (old old' : Store) (u u' : Supply) (x : Unit {0} × Option ℕ) (p q : Place) → p.store ≡ q.store
      → Like (without (or_events d l [] old x) u p) (without (or_events d l [] old' x) u' q)
  ends_like l d old old' u u' (c, None) p q e = (refl, e)
  ends_like l d old old' u u' (c, Some j) p q e = (refl, e)

  tested_like : (l : ℕ) (turn turn' : Bool → Supplied Way) (d : Bool) (v v' : Supply) → ((p q : Place) → p.store ≡ q.store → Like (turn d v p) (turn' d v' q)) → (p q : Place) → p.store ≡ q.store → Like (tested l turn d v p) (tested l turn' d v' q)
  tested_like l turn turn' d v v' h p q e =
      then_like (seen (λ w. (tt {0}, close w)) (turn d) v p) (seen (λ w. (tt {0}, close w)) (turn' d) v' q) _ _
      (then_like (turn d v p) (turn' d v' q) _ _ (h p q e) (λ w x y i. (refl, i))) (λ x y z i. ends_like l d p.store q.store v v' x y z i)

  next_like : (f f' : Supplied (Unit {0} × ℕ)) (v v' : Supply) → ((p q : Place) → p.store ≡ q.store → Like (f v p) (f' v' q)) → (x : Unit {0} × Option ℕ) (p q : Place) → p.store ≡ q.store → Like (next_with f x v p) (next_with f' x v' q)
  next_like f f' v v' h (c, None) p q e = h p q e
  next_like f f' v v' h (c, Some j) p q e = (refl, e)

  rounds_like : (l : ℕ) (turn turn' : Bool → Supplied Way) (f : Supply → Supply) (d : Bool) → ((v : Supply) (p q : Place) → p.store ≡ q.store → Like (turn d v p) (turn' d (f v) q))
      → (n : ℕ) (u : Supply) (p q : Place) → p.store ≡ q.store
      → Like (rounds_with n (then_with (without tally) (λ w. tested l turn d)) u p) (rounds_with n (tested l turn' d) (turns_enter f n u) q)
  rounds_like l turn turn' f d h zero u p q e = refl
  rounds_like l turn turn' f d h (suc n) u p q e =
      then_like (tested l turn d (right (left u)) (record p { arrivals = suc p.arrivals })) (tested l turn' d (f (right (left u))) q) _ _
      (tested_like l turn turn' d (right (left u)) (f (right (left u))) (h (right (left u))) (record p { arrivals = suc p.arrivals }) q e)
      (λ x y z i. next_like (rounds_with n (then_with (without tally) (λ w. tested l turn d))) (rounds_with n (tested l turn' d)) (right u) (turns_enter f n (right u)) (rounds_like l turn turn' f d h n (right u)) x y z i)

  mutual
    node_like : (b : Bool) (x : Node) (t : Temps) (u : Supply) (p q : Place) → p.store ≡ q.store → Like (node_with short b x t u p) (node_with cut b x t (node_enters (suc k0) x u) q)
    node_like b (Do a) t u p q e = stores (act_with short b a t u) (act_with cut b a t u) (λ st n m. act_like short b t st n m cut refl a u) p q e
    node_like b (Block all) t u p q e = then_like (nodes_with short b all t u p) (nodes_with cut b all t (nodes_enters (suc k0) all u) q) _ _ (nodes_like b all t u p q e) (λ w x y i. (refl, i))
    node_like b (Loop l all) t u p q e =
        then_like (loop_with short (going.Short (suc k0)) l (tested l (λ c. nodes_with short c all t)) b u p)
        (loop_with cut (going.Cut (suc k0) starts) l (tested l (λ c. nodes_with cut c all t)) b (node_enters (suc k0) (Loop l all) u) q) _ _
        (rounds_like l (λ c. nodes_with short c all t) (λ c. nodes_with cut c all t) (nodes_enters (suc k0) all) b (λ v x y i. nodes_like b all t v x y i) (suc k0) u p q e)
        (λ r x y i. (refl, i))

    pub nodes_like : (b : Bool) (xs : Nodes) (t : Temps) (u : Supply) (p q : Place) → p.store ≡ q.store → Like (nodes_with short b xs t u p) (nodes_with cut b xs t (nodes_enters (suc k0) xs u) q)
    nodes_like b none t u p q e = (refl, e)
    nodes_like b (more x rest) t u p q e =
        then_like (node_with short b x t (left u) p) (node_with cut b x t (node_enters (suc k0) x (left u)) q) _ _ (node_like b x t (left u) p q e)
        (λ w y z i. follow_like (nodes_with short b rest) (nodes_with cut b rest) (right u) (nodes_enters (suc k0) rest (right u)) (λ t p q e. nodes_like b rest t (right u) p q e) w y z i)
