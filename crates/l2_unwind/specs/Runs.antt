-- What unwound code does.
use Rattle.std.specs.Prelude.{ℕ, pos, Bool, true, false, Option, Some, None}
use Rattle.std.specs.Ordering.{int_eq}
use Rattle.l2_runs.specs.Store.{Store}
use Rattle.l2_runs.specs.Runs.{Run, and_then, done, stop, either, choose}
use Rattle.l2_runs.specs.Loops.{Tests, Real, tested}
use Rattle.l2_runs.specs.Back.{back}
use Rattle.l2_code.specs.Trees.{CodeTree}
use Rattle.l2_code.specs.Values.{Types, Temps, no_temps}
use Rattle.l2_code.specs.Machine as machine
use Rattle.l2_code.specs.Machine.{Way, On, Out, act, follow, leave, close}
use Rattle.l2_code.specs.Sets.{Family}
use Rattle.l2_code.specs.Modes.{types_of, mods_of}
use Rattle.l2_unwind.specs.Flat.{FlatNode, Do, Block, Loop, FlatNodes, none, more, Copies, no_copies, copy, unwound}

-- how a loop starts back, the tests at the ends of copies, and the types of cells
pub record Setting : Type 0 where
  pub back : ℕ → Run (Unit {0})
  pub tests : Tests
  pub types : Types

-- instructions don't look at the limit on loops
abbrev pub plain : Setting → machine.Setting
plain g = record { limit = Real; tests = g.tests; types = g.types }

-- a copy of a turn with the tests at its end
abbrev pub tested_copy : Setting → ℕ → (Bool → Run (Option ℕ)) → Bool → Run (Unit {0} × Option ℕ)
tested_copy g l turn b = tested g.tests l (λ c (u : Unit {0}). and_then (turn c) (λ o. done (tt, o))) b tt

-- on to the next copy where the loop isn't left
abbrev pub or_on : Run ℕ → Unit {0} × Option ℕ → Run ℕ
or_on next (u, None) = next
or_on next (u, Some n) = done n

-- on to the next copy, and stopped where the loop is left
abbrev pub or_stopped : Run ℕ → Unit {0} × Option ℕ → Run ℕ
or_stopped next (u, None) = next
or_stopped next (u, Some n) = stop

-- a choice of 0 enters the loop, every other one starts back; a loop without copies is stopped
abbrev pub enter : Copies → Run ℕ → Run ℕ → Run ℕ
enter no_copies entered returned = stop
enter (copy turn rest) entered returned = and_then choose (λ z. either (int_eq z (pos 0)) entered returned)

-- whether a copy counts after a back start, by those that follow: the last one alone
abbrev pub counts : Copies → Bool → Bool
counts no_copies b = b
counts (copy turn rest) b = false

-- the last copy alone may leave the loop after a back start
abbrev pub or_leave : Copies → Run ℕ → Unit {0} × Option ℕ → Run ℕ
or_leave no_copies next = or_on next
or_leave (copy turn rest) next = or_stopped next

abbrev mutual
  pub flat_node : Setting → Bool → FlatNode → Temps → Run Way
  flat_node g b (Do a) t = act (plain g) b a t
  flat_node g b (Block all) t = and_then (flat_nodes g b all t) (λ w. done (leave t w))
  flat_node g b (Loop l all) t =
      and_then (enter all (after_entry g b l all t) (and_then (g.back l) (λ u. after_back g b l all t))) (λ n. done (Out n))

  pub flat_nodes : Setting → Bool → FlatNodes → Temps → Run Way
  flat_nodes g b none t = done (On t)
  flat_nodes g b (more x rest) t = and_then (flat_node g b x t) (follow (flat_nodes g b rest))

  -- each copy may leave the loop, and behind the last one the run is stopped
  pub after_entry : Setting → Bool → ℕ → Copies → Temps → Run ℕ
  after_entry g b l no_copies t = stop
  after_entry g b l (copy turn rest) t = and_then (tested_copy g l (λ c. and_then (flat_nodes g c turn t) (λ w. done (close w))) b) (or_on (after_entry g b l rest t))

  pub after_back : Setting → Bool → ℕ → Copies → Temps → Run ℕ
  after_back g b l no_copies t = stop
  after_back g b l (copy turn rest) t = and_then (tested_copy g l (λ c. and_then (flat_nodes g c turn t) (λ w. done (close w))) (counts rest b)) (or_leave rest (after_back g b l rest t))

-- the run of code with k copies of each turn, over sets, where a loop starts back in stores that pass its test
abbrev pub run_flat : CodeTree → Family → ℕ → (ℕ → Store → Bool) → Tests → Run (Unit {0})
run_flat c f k starts tests =
    and_then (flat_nodes (record { back = back (types_of c).objects f.object (mods_of c) starts; tests = tests; types = types_of c }) true (unwound k c.body) no_temps) (λ w. stop)
