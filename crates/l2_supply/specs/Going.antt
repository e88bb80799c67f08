-- The runs of code by a supply, cut and short ones.
use Rattle.std.specs.Prelude.{ℕ, zero, suc, pos, Bool, true, false, List, [], ◌∷◌, Option, Some, None}
use Rattle.std.specs.Ordering.{int_eq}
use Rattle.l2_bits.specs.Values.{wrap}
use Rattle.l2_runs.specs.declared.cells.CellType.{CellType}
use Rattle.l2_runs.specs.declared.cells.CellType.TheVariants.{Integer, Pointer}
use Rattle.l2_runs.specs.declared.cells.CellValue.{CellValue}
use Rattle.l2_runs.specs.declared.cells.CellValue.TheVariants.{Number}
use Rattle.l2_runs.specs.declared.member.Member.{Member}
use Rattle.l2_runs.specs.Fits.{Layout}
use Rattle.l2_runs.specs.Store.{Store}
use Rattle.l2_runs.specs.Runs.{Run, done, stop, either, write}
use Rattle.l2_runs.specs.Loops as loops
use Rattle.l2_runs.specs.Loops.{Limit, Tests, or_events, tally}
use Rattle.l2_runs.specs.Back.{pointer_of, on_member, back}
use Rattle.l2_code.specs.declared.action.Action.{Action}
use Rattle.l2_code.specs.declared.action.Action.TheVariants as action
use Rattle.l2_code.specs.Trees.{Node, Do, Block, Loop, Nodes, none, more}
use Rattle.l2_code.specs.Values.{Types, Temps, with_temp}
use Rattle.l2_code.specs.Machine as machine
use Rattle.l2_code.specs.Machine.{Way, On, Out, act, leave, close}
use Rattle.l2_supply.specs.Supply.{Supplied, on_goes, then_with, without, with_choice, Agrees}

-- ---- single runs

abbrev pub goes : {A : Type 0} → A → Supplied A
goes a = without (done a)

abbrev pub stops : {A : Type 0} → Supplied A
stops = without stop

-- what a run gives, seen otherwise
abbrev pub seen : {A B : Type 0} → (A → B) → Supplied A → Supplied B
seen f q u p = on_goes (q u p) (λ a. without (done (f a)) u)

abbrev pub on_bool : {A : Type 0} → Bool → Supplied A → Supplied A → Supplied A
on_bool true q w = q
on_bool false q w = w

-- ---- loops

-- a turn with the tests at its end
abbrev pub tested_with : {C F : Type 0} → Tests → ℕ → Bool → Supplied (C × Option F) → Supplied (C × Option F)
tested_with tests l counted q u p = on_goes (q u p) (λ x. without (or_events counted l (tests counted l) p.store x) u)

abbrev pub next_with : {C F : Type 0} → Supplied (C × F) → C × Option F → Supplied (C × F)
next_with q (c, None) = q
next_with q (c, Some f) = goes (c, f)

abbrev pub stop_with : {C F : Type 0} → Supplied (C × F) → C × Option F → Supplied (C × F)
stop_with q (c, None) = q
stop_with q (c, Some f) = stops

-- at most so many turns, each of which may leave the loop
abbrev pub rounds_with : {C F : Type 0} → ℕ → Supplied (C × Option F) → Supplied (C × F)
rounds_with zero q = stops
rounds_with (suc n) q = then_with q (next_with (rounds_with n q))

-- so many turns before one, which alone may leave the loop and counts
abbrev pub later_with : {C F : Type 0} → ℕ → (Bool → Supplied (C × Option F)) → Bool → Supplied (C × F)
later_with zero q b = rounds_with 1 (q b)
later_with (suc n) q b = then_with (q false) (stop_with (later_with n q b))

-- ---- back starts

abbrev pub any_with : Layout → (Member → Bool) → CellType → Supplied CellValue
any_with cells set (Integer ty) = seen (λ z. Number (wrap ty z)) with_choice
any_with cells set Pointer = then_with with_choice (λ sel. then_with with_choice (λ off. without (on_member set (pointer_of cells sel off) done)))

abbrev pub cells_with : Layout → (Member → Bool) → ℕ → ℕ → List CellType → Supplied (Unit {0})
cells_with cells set o f [] = goes tt
cells_with cells set o f (t ∷ ts) =
    then_with (any_with cells set t) (λ v. then_with (without (write (record { object = o; offset = f }) v)) (λ u. cells_with cells set o (suc f) ts))

abbrev pub scatter_with : Layout → (ℕ → Member → Bool) → List ℕ → Supplied (Unit {0})
scatter_with cells sets [] = goes tt
scatter_with cells sets (o ∷ os) = then_with (cells_with cells (sets o) o 0 (cells o)) (λ u. scatter_with cells sets os)

-- stopped where the store doesn't pass
abbrev pub passing : (Store → Bool) → Run (Unit {0})
passing starts s = either (starts s.store) (done tt) stop s

abbrev pub back_with : Layout → (ℕ → Member → Bool) → List ℕ → (Store → Bool) → Supplied (Unit {0})
back_with cells sets mods starts = then_with (scatter_with cells sets mods) (λ u. without (passing starts))

-- ---- code

-- short runs of so many arrivals, and cut runs of so many copies where back starts pass these tests
pub data Heads : Type 0 where
  Short : ℕ → Heads
  Cut : ℕ → (ℕ → Store → Bool) → Heads

pub record Setting : Type 0 where
  pub heads : Heads
  pub tests : Tests
  pub types : Types
  pub sets : ℕ → Member → Bool
  pub mods : ℕ → List ℕ

abbrev pub limit_of : Setting → Heads → Limit
limit_of g (Short k) = loops.Short k
limit_of g (Cut k starts) = loops.Cut k (back g.types.objects g.sets g.mods starts)

-- the machine's setting
abbrev pub machine_of : Setting → machine.Setting
machine_of g = record { limit = limit_of g g.heads; tests = g.tests; types = g.types }

-- a choice of 0 enters the loop, every other one starts back
abbrev pub cut_with : {C F : Type 0} → ℕ → Supplied (Unit {0}) → (Bool → Supplied (C × Option F)) → Bool → Supplied (C × F)
cut_with zero back q b = stops
cut_with (suc n) back q b =
    then_with with_choice (λ z. on_bool (int_eq z (pos 0)) (then_with (goes (tt {0})) (λ u. rounds_with (suc n) (q b))) (then_with back (λ u. later_with n q b)))

abbrev pub loop_with : {C F : Type 0} → Setting → Heads → ℕ → (Bool → Supplied (C × Option F)) → Bool → Supplied (C × F)
loop_with g (Short k) l q b = rounds_with k (then_with (without tally) (λ u. q b))
loop_with g (Cut k starts) l q b = cut_with k (back_with g.types.objects g.sets (g.mods l) (starts l)) q b

abbrev pub act_with : Setting → Bool → Action → Temps → Supplied Way
act_with g b (action.Choice n ty) t = seen (λ z. On (with_temp t n (Number (wrap ty z)))) with_choice
act_with g b a t = without (act (machine_of g) b a t)

abbrev pub follow_with : (Temps → Supplied Way) → Way → Supplied Way
follow_with next (On t) = next t
follow_with next (Out n) = goes (Out n)

abbrev mutual
  pub node_with : Setting → Bool → Node → Temps → Supplied Way
  node_with g b (Do a) t = act_with g b a t
  node_with g b (Block all) t = seen (leave t) (nodes_with g b all t)
  node_with g b (Loop l all) t =
      seen (λ (r : Unit {0} × ℕ). Out r.1) (loop_with g g.heads l (λ c. tested_with g.tests l c (seen (λ w. (tt, close w)) (nodes_with g c all t))) b)

  pub nodes_with : Setting → Bool → Nodes → Temps → Supplied Way
  nodes_with g b none t = goes (On t)
  nodes_with g b (more x rest) t = then_with (node_with g b x t) (follow_with (nodes_with g b rest))

-- runs of code on lists of choices and by supplies do the same
abbrev pub RunsAgree : Type 0
RunsAgree = (g : Setting) (b : Bool) (xs : Nodes) (t : Temps) → Agrees (machine.nodes (machine_of g) b xs t) (nodes_with g b xs t)
