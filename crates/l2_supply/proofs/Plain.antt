-- Runs that take no choice.
use Rattle.std.proofs.Common.{◌≡◌, refl, sym, ap, ◌∙◌, ℕ, ℤ, Bool, true, false, List, [], ◌∷◌, Option, Some, None}
use Rattle.std.specs.Prelude.{◌||◌, ◌==◌}
use Rattle.l2_runs.specs.declared.outcome.Outcome.TheVariants.{Broken}
use Rattle.l2_runs.specs.declared.cells.CellValue.{CellValue}
use Rattle.l2_runs.specs.declared.member.Member.{Member}
use Rattle.l2_runs.specs.Members.{is_in}
use Rattle.l2_runs.specs.Store.{Store}
use Rattle.l2_runs.specs.Runs.{State, End, Over, Fallen, Result, Go, Halt, Run, on_go, and_then, done, over, stop, either, read, write, demand, check}
use Rattle.l2_runs.specs.Loops.{Test, events, or_events}
use Rattle.l2_runs.specs.Back.{on_member}
use Rattle.l2_code.specs.declared.action.Action.{Action}
use Rattle.l2_code.specs.declared.action.Action.TheVariants as action
use Rattle.l2_code.specs.declared.action.Computation.{Computation}
use Rattle.l2_code.specs.Values.{Types, Temps, with_temp, operand_value, is_true, cell_of, compute}
use Rattle.l2_code.specs.Machine.{Setting, On, Out, or_stuck, computed, act}
use Rattle.l2_supply.specs.Supply.{place_of, at, come_of, result_of}
use Rattle.l2_supply.specs.Going.{passing}
use Rattle.l2_supply.proofs.Agreeing.{TakesNone}

abbrev state_in : {A : Type 0} → Result A → State
state_in (Go a s) = s
state_in (Halt e s) = s

pub plain_then : {A B : Type 0} (r : Run A) (f : A → Run B) → TakesNone r → ((a : A) → TakesNone (f a)) → TakesNone (and_then r f)
plain_then r f h k = record { same = λ p cs t. ap (λ x. on_go x f) (h.same p cs t) ∙ go cs t (r (at p [] 0)) (h.same p [] 0) }
  where
    go : (cs : List ℤ) (t : ℕ) (x : Result _) → x ≡ result_of (come_of x) [] 0 → on_go (result_of (come_of x) cs t) f ≡ result_of (come_of (on_go x f)) cs t
    go cs t (Go a s) e = (k a).same (place_of s) cs t ∙ ap (λ z. result_of (come_of (f a z)) cs t) (sym (ap state_in e))
    go cs t (Halt end s) e = refl

pub plain_done : {A : Type 0} (a : A) → TakesNone (done a)
plain_done a = record { same = λ p cs t. refl }

pub plain_over : {A : Type 0} (e : End) → TakesNone (over {A = A} e)
plain_over e = record { same = λ p cs t. refl }

pub plain_stop : {A : Type 0} → TakesNone (stop {A = A})
plain_stop = record { same = λ p cs t. refl }

pub plain_either : {A : Type 0} (b : Bool) (r q : Run A) → TakesNone r → TakesNone q → TakesNone (either b r q)
plain_either true r q h k = record { same = λ p cs t. h.same p cs t }
plain_either false r q h k = record { same = λ p cs t. k.same p cs t }

pub plain_stuck : {A : Type 0} (x : Option A) → TakesNone (or_stuck x)
plain_stuck None = record { same = λ p cs t. refl }
plain_stuck (Some a) = record { same = λ p cs t. refl }

pub plain_demand : (b : Bool) (e : End) (ok : Bool) → TakesNone (demand b e ok)
plain_demand b e true = record { same = λ p cs t. refl }
plain_demand true e false = record { same = λ p cs t. refl }
plain_demand false e false = record { same = λ p cs t. refl }

pub plain_check : (b : Bool) (c : ℕ) (ok : Bool) → TakesNone (check b c ok)
plain_check b c ok = plain_demand b (Over (Broken c)) (c == 0 || ok)

-- a run that looks at the store first
pub plain_look : {A : Type 0} (f : Store → Run A) → ((st : Store) → TakesNone (f st)) → TakesNone (λ s. f s.store s)
plain_look f h = record { same = λ p cs t. (h p.store).same p cs t }

plain_test : (b : Bool) (l : ℕ) (t : Test) (a : Store) → TakesNone (λ s. demand b (Fallen l t.row) (t.holds a s.store) s)
plain_test b l t a = plain_look (λ st. demand b (Fallen l t.row) (t.holds a st)) (λ st. plain_demand b (Fallen l t.row) (t.holds a st))

pub plain_events : (b : Bool) (l : ℕ) (ts : List Test) (a : Store) → TakesNone (events b l ts a)
plain_events b l [] a = record { same = λ p cs t. refl }
plain_events b l (x ∷ ts) a = record { same = λ p cs t. (plain_then (λ s. demand b (Fallen l x.row) (x.holds a s.store) s) (λ u. events b l ts a) (plain_test b l x a) (λ u. plain_events b l ts a)).same p cs t }

pub plain_or_events : {C F : Type 0} (b : Bool) (l : ℕ) (ts : List Test) (a : Store) (x : C × Option F) → TakesNone (or_events b l ts a x)
plain_or_events b l ts a (c, None) = record { same = λ p cs t. (plain_then (events b l ts a) (λ u. done (c, None)) (plain_events b l ts a) (λ u. plain_done (c, None))).same p cs t }
plain_or_events b l ts a (c, Some f) = record { same = λ p cs t. refl }

pub plain_passing : (starts : Store → Bool) → TakesNone (passing starts)
plain_passing starts = plain_look (λ st. either (starts st) (done tt) stop) (λ st. plain_either (starts st) (done tt) stop (plain_done tt) plain_stop)

pub plain_member : (set : Member → Bool) (x : Option CellValue) → TakesNone (on_member set x done)
plain_member set None = record { same = λ p cs t. refl }
plain_member set (Some v) = plain_either (is_in set v) (done v) stop (plain_done v) plain_stop

plain_computed : (types : Types) (t : Temps) (c : Computation) → TakesNone (computed types t c)
plain_computed types t c = plain_look (λ st. or_stuck (compute types st t c)) (λ st. plain_stuck (compute types st t c))

abbrev pub IsNoChoice : Action → Type 0
IsNoChoice (action.Choice n ty) = ⊥
IsNoChoice a = Unit {0}

pub plain_act : (g : Setting) (b : Bool) (a : Action) (t : Temps) → IsNoChoice a → TakesNone (act g b a t)
plain_act g b (action.Compute n c) t h = plain_then (computed g.types t c) (λ v. done (On (with_temp t n v))) (plain_computed g.types t c) (λ v. plain_done (On (with_temp t n v)))
plain_act g b (action.Read n ty a) t h =
    plain_then (or_stuck (cell_of g.types.objects ty (operand_value t a))) (λ at. and_then (read at) (λ v. done (On (with_temp t n v)))) (plain_stuck (cell_of g.types.objects ty (operand_value t a)))
    (λ at. plain_then (read at) (λ v. done (On (with_temp t n v))) (record { same = λ p cs t. refl }) (λ v. plain_done (On (with_temp t n v))))
plain_act g b (action.Write ty a x) t h =
    plain_then (or_stuck (cell_of g.types.objects ty (operand_value t a))) (λ at. and_then (write at (operand_value t x)) (λ u. done (On t))) (plain_stuck (cell_of g.types.objects ty (operand_value t a)))
    (λ at. plain_then (write at (operand_value t x)) (λ u. done (On t)) (record { same = λ p cs t. refl }) (λ v. plain_done (On t)))
plain_act g b (action.Choice n ty) t h = absurd h
plain_act g b (action.Assume a) t h = plain_either (is_true (operand_value t a)) (done (On t)) stop (plain_done (On t)) plain_stop
plain_act g b (action.Check c a) t h = plain_then (check b c (is_true (operand_value t a))) (λ u. done (On t)) (plain_check b c (is_true (operand_value t a))) (λ u. plain_done (On t))
plain_act g b (action.Unless a n) t h = plain_either (is_true (operand_value t a)) (done (On t)) (done (Out n)) (plain_done (On t)) (plain_done (Out n))
plain_act g b (action.Goto n) t h = plain_done (Out n)
plain_act g b (action.Live o) t h = record { same = λ p cs t. refl }
plain_act g b (action.Dead o) t h = record { same = λ p cs t. refl }
plain_act g b action.End t h = record { same = λ p cs t. refl }
