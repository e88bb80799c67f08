-- What a solution shows of each instruction.
use Rattle.std.proofs.Common.{arith, ◌≡◌, inl, inr, ℕ, suc, ◌+◌, ◌<◌, ◌≤◌, Bool, true, false, not, refl, sym, ap, ◌∙◌, subst, List, [], ◌∷◌, length, Option, Some, None, IfSome, cond}
use Rattle.std.specs.Prelude.{◌&&◌, ◌||◌, ◌==◌, slice_get}
use Rattle.l2_bits.specs.Values.{wrap}
use Rattle.l2_runs.specs.declared.cells.CellType.{CellType}
use Rattle.l2_runs.specs.declared.cells.CellValue.{CellValue}
use Rattle.l2_runs.specs.declared.cells.CellValue.TheVariants.{Number, Null, Invalid, At}
use Rattle.l2_runs.specs.declared.member.Member.TheVariants as member
use Rattle.l2_runs.specs.declared.outcome.Outcome.TheVariants.{Stopped, Broken}
use Rattle.l2_runs.specs.Members.{targets}
use Rattle.l2_runs.specs.Store as runs
use Rattle.l2_runs.specs.Store.{Store, Address}
use Rattle.l2_runs.specs.Runs.{End, Over, Fallen, Run, on_go, and_then, done, over, stop, either, check, demand}
use Rattle.l2_runs.specs.Runs as r
use Rattle.l2_runs.specs.Loops.{Tests}
use Rattle.l2_code.specs.declared.action.Operand.{Operand}
use Rattle.l2_code.specs.declared.action.Operand.TheVariants.{Constant, Temp}
use Rattle.l2_code.specs.declared.action.Action.{Action}
use Rattle.l2_code.specs.declared.action.Action.TheVariants as action
use Rattle.l2_code.specs.Values as values
use Rattle.l2_code.specs.Values.{Temps, operand_value, is_true, cell_of, compute}
use Rattle.l2_code.specs.Machine.{Way, On, Out, or_stuck}
use Rattle.l2_code.specs.Sets.{IsClosedAction}
use Rattle.l2_code.specs.WellFormed.{Scope, IsTypedAction}
use Rattle.l2_code_laws.specs.Holding.{StoreHolds}
use Rattle.l2_supply.specs.Supply.{Supply, number_of, Place, at, Come, Goes, Ends, come_of}
use Rattle.l2_supply.specs.Going as going
use Rattle.l2_supply.specs.Going.{Heads, act_with}
use Rattle.l2_ssa.specs.Steps.{Step, Both, But, Names, on, bit, Solves}
use Rattle.l2_ssa.specs.Law.{Matches}
use Rattle.l2_ssa.specs.Walks as walks
use Rattle.l2_ssa.specs.Walks.{Setting, Walk, Frame, Given, nothing, CheckGoal, past, stepped, goes_on, now, read_at, write_at, write_steps, candidates, zero_of, leave_steps, leave_path, on_unless, on_goto, on_check, walk_action, with_path, with_live, with_cell, compute_step}
use Rattle.l2_ssa.proofs.Shows.{Spot, Off, At, Start, Standing, SlotsRead, Stands, TempsShow, Begins, OneIf, Shows, Stops, solves_first, solves_second}
use Rattle.l2_ssa.proofs.Labels.{bit_on}
use Rattle.l2_ssa.proofs.Slots.{cell_reads, cell_writes, live_writes, sized_cell, sized_live}
use Rattle.l2_ssa.proofs.Acts.{meaning, names, Held, operand_now, step_value}
use Rattle.l2_ssa.proofs.Reaches.{Found, found, is_candidate, cell_set, read_gives, write_gives, write_sized, write_path, write_temps}
use Rattle.l2_ssa.proofs.Frames.{outs_of, leave_gives, let_out, allow, NotStuck}

has_length : (ts : List CellType) (i : ℕ) (u : CellType) → slice_get ts i ≡ Some u → 0 < length ts
has_length [] i u e = cc
has_length (t ∷ ts) i u e = omega arith

module _ (row : ℕ → ℕ → List CellValue → Bool) (lower : ℕ → List CellValue → List CellValue → Bool) (s : Names) (g : Setting) (checks loops : ℕ)
    (small : (n : ℕ) → length (g.types.objects n) ≤ 65536) (there : (o : ℕ) → 0 < length (g.types.objects o) → (1 ≤ o) × (o < 1 + g.objects)) (heads : Heads) (tests : Tests) where
  abbrev m : Rattle.l2_ssa.specs.Steps.Meaning
  m = meaning row lower s g checks loops small there

  -- the setting of the runs
  abbrev pub run : going.Setting
  run = record { heads = heads; tests = tests; types = g.types; sets = g.family.object; mods = g.mods }

  abbrev pub Stand : Operand → List walks.Slot → Spot → Type 0
  Stand p slots q = Stands m s g p slots q

  abbrev pub Show : walks.Out → Come Way → Type 0
  Show o e = Shows m s g o e

  abbrev pub Stop : walks.Out → Type 0
  Stop o = Stops m s g o

  abbrev pub Begin : Walk → Start → Type 0
  Begin w st = Begins m s g w st

  goes_show : (steps : List Step) (given : Given) (w : Walk) (t : Temps) (p : Place) → Stand w.path w.slots (At p.store) → TempsShow m s g w.temps (Standing t p)
      → Show (record (stepped steps w) { given = given }) (Goes (On t) p)
  goes_show steps given w t p h k = record { after = record { stands = h; temps = k }; entries = tt; events = tt }

  ends_show : (steps : List Step) (w : Walk) (p : Place) → Stand w.path w.slots Off → Show (stepped steps w) (Ends (Over Stopped) p)
  ends_show steps w p h = record { after = record { stands = h; temps = tt }; entries = tt; events = tt }

  temp_shows : (w : Walk) (t : Temps) (p : Place) (i : ℕ) (a : Operand) (v : CellValue) → TempsShow m s g w.temps (Standing t p) → operand_value s a ≡ v
      → TempsShow m s g (walks.with_temp w i a).temps (Standing (values.with_temp t i v) p)
  temp_shows w t p i a v h e j = go (j == i)
    where
      go : (x : Bool) → operand_value s (cond x a (w.temps j)) ≡ cond x v (t j)
      go true = e
      go false = h j

  module _ (fs : List Frame) (c : Operand) (n : ℕ) (w : Walk) (t : Temps) (p : Place) (scope : Scope) (held : Held row lower s g checks loops small there scope t) (stored : StoreHolds g.types.objects g.family p.store) (h : Begin w (Standing t p)) where
    operand : (a : Operand) → operand_value s (now w a) ≡ operand_value t a
    operand a = operand_now row lower s g checks loops small there w t p.store scope held h.stands.0 h.temps h.stands.2 a

    abbrev out : Come Way → Come Way
    out e = allow (outs_of s fs) e

    -- ---- computations

    compute_case : (i : ℕ) (steps : List Step) (x : Option CellValue) → IfSome x (λ v. s n ≡ v) → NotStuck (come_of (on_go (or_stuck x (at p [] 0)) (λ v. done (On (values.with_temp t i v)))))
        → Show (stepped steps (walks.with_temp w i (Temp n))) (out (come_of (on_go (or_stuck x (at p [] 0)) (λ v. done (On (values.with_temp t i v))))))
    compute_case i steps None k ns = absurd ns
    compute_case i steps (Some v) k ns = goes_show steps nothing (walks.with_temp w i (Temp n)) (values.with_temp t i v) p h.stands (temp_shows w t p i (Temp n) v h.temps k)

    -- ---- reads

    value_read : (ty : CellType) (a : Operand) (ad : Address) → Found g.types.objects ty (operand_value t a) ad → Solves m s n (read_at g w ty a n).steps → operand_value s (read_at g w ty a n).value ≡ runs.cell_at p.store ad
    value_read ty (Constant (At o f)) ad k ok = cell_reads m s g w.slots p.store o f h.stands.2 ∙ ap (λ v. runs.cell_at p.store (place_of v)) k.is
      where
        place_of : CellValue → Address
        place_of (At o f) = record { object = o; offset = f }
        place_of v = record { object = 0; offset = 0 }
    value_read ty (Constant (Number z)) ad k ok = let e = k.is in cc
    value_read ty (Constant Null) ad k ok = let e = k.is in cc
    value_read ty (Constant Invalid) ad k ok = let e = k.is in cc
    value_read ty (Temp i) ad k ok =
        let z = there ad.object (has_length (g.types.objects ad.object) ad.offset k.type k.there) in
        read_gives m s g (w.temps i) ty ad.object ad.offset (h.temps i ∙ k.is) w (runs.cell_at p.store ad) (candidates g (g.family.temp i) ty 1 g.objects) (zero_of ty) n h.stands.0
        (cell_reads m s g w.slots p.store ad.object ad.offset h.stands.2) ok
        (inr (is_candidate g (g.family.temp i) ty ad.object ad.offset k.type k.there k.same
        (held.sets i (member.Object ad.object) (subst (λ (v : CellValue). targets v (member.Object ad.object) ≡ true) (sym k.is) (grind arith))) 1 g.objects z.0 z.1))

    read_case : (i : ℕ) (ty : CellType) (a : Operand) (x : Option Address) → IfSome x (Found g.types.objects ty (operand_value t a)) → Solves m s n (read_at g w ty a n).steps
        → NotStuck (come_of (on_go (or_stuck x (at p [] 0)) (λ ad. and_then (r.read ad) (λ v. done (On (values.with_temp t i v))))))
        → Show (stepped (read_at g w ty a n).steps (walks.with_temp w i (read_at g w ty a n).value)) (out (come_of (on_go (or_stuck x (at p [] 0)) (λ ad. and_then (r.read ad) (λ v. done (On (values.with_temp t i v)))))))
    read_case i ty a None k ok ns = absurd ns
    read_case i ty a (Some ad) k ok ns =
        goes_show (read_at g w ty a n).steps nothing (walks.with_temp w i (read_at g w ty a n).value) (values.with_temp t i (runs.cell_at p.store ad)) p h.stands
        (temp_shows w t p i (read_at g w ty a n).value (runs.cell_at p.store ad) h.temps (value_read ty a ad k ok))

    -- ---- writes

    abbrev after_write : Address → CellValue → Place
    after_write ad v = record p { store = runs.with_cell p.store ad v }

    value_written : (ty : CellType) (a x : Operand) (ad : Address) → Found g.types.objects ty (operand_value t a) ad → Solves m s n (write_at g w ty a (now w x) n).steps
        → Stand (write_at g w ty a (now w x) n).walk.path (write_at g w ty a (now w x) n).walk.slots (At (runs.with_cell p.store ad (operand_value t x)))
    value_written ty (Constant (At o f)) x ad k ok = (
      h.stands.0,
      sized_cell m s g w o f (now w x) h.stands.1,
      subst (λ (z : Address). SlotsRead m s g (with_cell w o f (now w x)).slots (runs.with_cell p.store z (operand_value t x))) (ap place_of k.is) (cell_writes m s g w p.store o f (now w x) (operand_value t x) h.stands.2 (operand x)),
    )
      where
        place_of : CellValue → Address
        place_of (At o f) = record { object = o; offset = f }
        place_of v = record { object = 0; offset = 0 }
    value_written ty (Constant (Number z)) x ad k ok = let e = k.is in cc
    value_written ty (Constant Null) x ad k ok = let e = k.is in cc
    value_written ty (Constant Invalid) x ad k ok = let e = k.is in cc
    value_written ty (Temp i) x ad k ok =
        let z = there ad.object (has_length (g.types.objects ad.object) ad.offset k.type k.there) in
        let ps = candidates g (g.family.temp i) ty 1 g.objects in (
          subst (λ (q : Operand). on s q ≡ true) (sym (write_path (w.temps i) ty (now w x) w ps n)) h.stands.0,
          write_sized m s g (w.temps i) ty (now w x) w ps n h.stands.1,
          subst (λ (v : CellValue). SlotsRead m s g (write_steps (w.temps i) ty (now w x) ps n w).walk.slots (runs.with_cell p.store ad v)) (operand x)
              (write_gives m s g (w.temps i) ty ad.object ad.offset (h.temps i ∙ k.is) (now w x) p.store
              (cell_set g.types.objects g.family p.store ad.object ad.offset k.type (operand_value s (now w x)) k.there stored) w ps n h.stands.0 ok
              (inl (
                h.stands.2,
                is_candidate g (g.family.temp i) ty ad.object ad.offset k.type k.there k.same
                    (held.sets i (member.Object ad.object) (subst (λ (v : CellValue). targets v (member.Object ad.object) ≡ true) (sym k.is) (grind arith))) 1 g.objects z.0 z.1,
              ))),
        )

    written_temps : (ty : CellType) (a x : Operand) → (write_at g w ty a x n).walk.temps ≡ w.temps
    written_temps ty (Constant (At o f)) x = refl
    written_temps ty (Constant (Number z)) x = refl
    written_temps ty (Constant Null) x = refl
    written_temps ty (Constant Invalid) x = refl
    written_temps ty (Temp i) x = write_temps (w.temps i) ty x w (candidates g (g.family.temp i) ty 1 g.objects) n

    write_case : (ty : CellType) (a x : Operand) (y : Option Address) → IfSome y (Found g.types.objects ty (operand_value t a)) → Solves m s n (write_at g w ty a (now w x) n).steps
        → NotStuck (come_of (on_go (or_stuck y (at p [] 0)) (λ ad. and_then (r.write ad (operand_value t x)) (λ u. done (On t)))))
        → Show (stepped (write_at g w ty a (now w x) n).steps (write_at g w ty a (now w x) n).walk) (out (come_of (on_go (or_stuck y (at p [] 0)) (λ ad. and_then (r.write ad (operand_value t x)) (λ u. done (On t))))))
    write_case ty a x None k ok ns = absurd ns
    write_case ty a x (Some ad) k ok ns =
        goes_show (write_at g w ty a (now w x) n).steps nothing (write_at g w ty a (now w x) n).walk t (after_write ad (operand_value t x)) (value_written ty a x ad k ok)
        (subst (λ (z : ℕ → Operand). TempsShow m s g z (Standing t (after_write ad (operand_value t x)))) (sym (written_temps ty a (now w x))) h.temps)

    -- ---- paths

    path_case : (steps : List Step) (k : ℕ) (a : Operand) (b : Bool) → is_true (operand_value t a) ≡ b → s k ≡ bit (on s w.path && on s (now w a)) → on s (Temp k) ≡ b
    path_case steps k a b e q = ap is_true q ∙ bit_on (on s w.path && on s (now w a)) ∙ ap (λ x. x && on s (now w a)) h.stands.0 ∙ ap is_true (operand a) ∙ e

    assume_case : (a : Operand) (b : Bool) → is_true (operand_value t a) ≡ b → Solves m s n (Both w.path (now w a) ∷ [])
        → Show (stepped (Both w.path (now w a) ∷ []) (with_path w (Temp n))) (out (come_of (either b (done (On t)) stop (at p [] 0))))
    assume_case a true e ok = goes_show (Both w.path (now w a) ∷ []) nothing (with_path w (Temp n)) t p (path_case [] n a true e ok.0, h.stands.1, h.stands.2) h.temps
    assume_case a false e ok = ends_show (Both w.path (now w a) ∷ []) (with_path w (Temp n)) p (path_case [] n a false e ok.0, h.stands.1)

    -- where checks are stops
    stop_case : (k : ℕ) (a : Operand) (b ok : Bool) → is_true (operand_value t a) ≡ ok → g.ranks ≡ true → Solves m s n (Both w.path (now w a) ∷ [])
        → Show (stepped (Both w.path (now w a) ∷ []) (with_path w (Temp n))) (out (come_of (on_go (demand b (Over (Broken k)) ok (at p [] 0)) (λ u. done (On t)))))
    stop_case k a b true e q ok = goes_show (Both w.path (now w a) ∷ []) nothing (with_path w (Temp n)) t p (path_case [] n a true e ok.0, h.stands.1, h.stands.2) h.temps
    stop_case k a true false e q ok = record {
      after = record { stands = (path_case [] n a false e ok.0, h.stands.1); temps = tt };
      entries = tt;
      events = subst (λ x. OneIf m s g (not x) (Over (Broken k)) []) (sym q) tt;
    }
    stop_case k a false false e q ok = ends_show (Both w.path (now w a) ∷ []) (with_path w (Temp n)) p (path_case [] n a false e ok.0, h.stands.1)

    abbrev check_steps : Operand → List Step
    check_steps a = Both w.path c ∷ But (Temp n) (now w a) ∷ Both w.path (now w a) ∷ []

    event_bit : (a : Operand) (b : Bool) → is_true (operand_value t a) ≡ b → Solves m s n (check_steps a) → on s (Temp (suc n)) ≡ (on s c && not b)
    event_bit a b e ok =
        ap is_true ok.1.0 ∙ bit_on (on s (Temp n) && not (on s (now w a)))
        ∙ (λ i. ((ap is_true ok.0 ∙ bit_on (on s w.path && on s c) ∙ ap (λ x. x && on s c) h.stands.0) i) && not ((ap is_true (operand a) ∙ e) i))

    and_false : (x : Bool) → (x && false) ≡ false
    and_false true = refl
    and_false false = refl

    and_true : (x : Bool) → (x && true) ≡ x
    and_true true = refl
    and_true false = refl

    check_case : (k : ℕ) (a : Operand) (b ok : Bool) → on s c ≡ b → is_true (operand_value t a) ≡ ok → g.ranks ≡ false → Solves m s n (check_steps a)
        → Show (on_check false k c (now w a) n w) (out (come_of (on_go (demand b (Over (Broken k)) ok (at p [] 0)) (λ u. done (On t)))))
    check_case k a b true d e q ok = record {
      after = record { stands = (path_case [] (suc (suc n)) a true e ok.1.1.0, h.stands.1, h.stands.2); temps = h.temps };
      entries = tt;
      events = (event_bit a true e ok ∙ and_false (on s c), tt);
    }
    check_case k a true false d e q ok = record {
      after = record { stands = (path_case [] (suc (suc n)) a false e ok.1.1.0, h.stands.1); temps = tt };
      entries = tt;
      events = subst (λ x. OneIf m s g (not x) (Over (Broken k)) (record { goal = CheckGoal k; literal = Temp (suc n) } ∷ [])) (sym q) (inl (refl, event_bit a false e ok ∙ and_true (on s c) ∙ d, tt));
    }
    check_case k a false false d e q ok = record {
      after = record { stands = (path_case [] (suc (suc n)) a false e ok.1.1.0, h.stands.1); temps = tt };
      entries = tt;
      events = (event_bit a false e ok ∙ and_true (on s c) ∙ d, tt);
    }

    positive : (k : ℕ) (ok : Bool) → 1 ≤ k → (k == 0 || ok) ≡ ok
    positive k ok e = ap (λ x. x || ok) (zero_false e)
      where
        zero_false : 1 ≤ k → (k == 0) ≡ false
        zero_false e = grind arith

    check_any : (rk : Bool) (k : ℕ) (a : Operand) → g.ranks ≡ rk → 1 ≤ k → Solves m s n (on_check rk k c (now w a) n w).steps
        → Show (on_check rk k c (now w a) n w) (out (come_of (on_go (check (on s c) k (is_true (operand_value t a)) (at p [] 0)) (λ u. done (On t)))))
    check_any true k a q e ok =
        subst (λ x. Show (on_check true k c (now w a) n w) (out (come_of (on_go (demand (on s c) (Over (Broken k)) x (at p [] 0)) (λ u. done (On t)))))) (sym (positive k (is_true (operand_value t a)) e))
        (stop_case k a (on s c) (is_true (operand_value t a)) refl q ok)
    check_any false k a q e ok =
        subst (λ x. Show (on_check false k c (now w a) n w) (out (come_of (on_go (demand (on s c) (Over (Broken k)) x (at p [] 0)) (λ u. done (On t)))))) (sym (positive k (is_true (operand_value t a)) e))
        (check_case k a (on s c) (is_true (operand_value t a)) refl refl q ok)

    -- ---- jumps

    leave_open : (b : Bool) (d : ℕ) (q : Operand) (out_bit : Bool) → out_bit ≡ outs_of s fs d → on s q ≡ out_bit → (after' : Walk) → Stand after'.path after'.slots Off → (steps : List Step)
        → Show (record { after = after'; steps = steps; entries = walks.entry d q w ∷ []; events = []; given = nothing; heads = [] }) (let_out out_bit d p)
    leave_open b d q true e o after' k steps = record { after = record { stands = k; temps = tt }; entries = inl (refl, (o, h.stands.1, h.stands.2), tt); events = tt }
    leave_open b d q false e o after' k steps = record { after = record { stands = k; temps = tt }; entries = ((o, h.stands.1), tt); events = tt }

    unless_case : (a : Operand) (d : ℕ) (b : Bool) → is_true (operand_value t a) ≡ b → Solves m s n (on_unless fs d (now w a) n w).steps
        → Show (on_unless fs d (now w a) n w) (out (come_of (either b (done (On t)) (done (Out d)) (at p [] 0))))
    unless_case a d true e ok = record {
      after = record { stands = (path_case [] _ a true e (solves_second m s g (suc n) (leave_steps fs d (Temp n) (suc n)) _ ok.1).0, h.stands.1, h.stands.2); temps = h.temps };
      entries = ((leave_gives s m fs d (Temp n) (suc n) (solves_first m s g (suc n) (leave_steps fs d (Temp n) (suc n)) _ ok.1) ∙ ap (λ x. x && outs_of s fs d) shut, h.stands.1), tt);
      events = tt;
    }
      where
        shut : on s (Temp n) ≡ false
        shut = ap is_true ok.0 ∙ bit_on (on s w.path && not (on s (now w a))) ∙ (λ i. h.stands.0 i && not ((ap is_true (operand a) ∙ e) i))
    unless_case a d false e ok =
        leave_open false d (leave_path fs d (Temp n) (suc n)) (outs_of s fs d) refl
        (leave_gives s m fs d (Temp n) (suc n) (solves_first m s g (suc n) (leave_steps fs d (Temp n) (suc n)) _ ok.1) ∙ ap (λ x. x && outs_of s fs d) opened)
        (with_path w (Temp (past (suc n) (leave_steps fs d (Temp n) (suc n)))))
        (path_case [] _ a false e (solves_second m s g (suc n) (leave_steps fs d (Temp n) (suc n)) _ ok.1).0, h.stands.1)
        (on_unless fs d (now w a) n w).steps
      where
        opened : on s (Temp n) ≡ true
        opened = ap is_true ok.0 ∙ bit_on (on s w.path && not (on s (now w a))) ∙ (λ i. h.stands.0 i && not ((ap is_true (operand a) ∙ e) i))

    goto_case : (d : ℕ) → Solves m s n (leave_steps fs d w.path n) → Show (on_goto fs d n w) (let_out (outs_of s fs d) d p)
    goto_case d ok =
        leave_open false d (leave_path fs d w.path n) (outs_of s fs d) refl (leave_gives s m fs d w.path n ok ∙ ap (λ x. x && outs_of s fs d) h.stands.0)
        (with_path w walks.F) (refl, h.stands.1) (leave_steps fs d w.path n)

    -- ---- all instructions

    pub act_shows : (a : Action) (u : Supply) → IsTypedAction (names row lower s g checks loops small there) scope a → IsClosedAction g.family a → Solves m s n (walk_action g fs c n w a).steps
        → Matches g.types.objects s (walk_action g fs c n w a).given u → NotStuck (act_with run (on s c) a t u p) → Show (walk_action g fs c n w a) (out (act_with run (on s c) a t u p))
    act_shows (action.Compute i x) u k z ok mt ns =
        compute_case i (compute_step g w x ∷ []) (compute g.types p.store t x) (step_value row lower s g checks loops small there w t p.store scope held h.stands.0 h.temps h.stands.2 n x k ok.0) ns
    act_shows (action.Read i ty a) u k z ok mt ns = read_case i ty a (cell_of g.types.objects ty (operand_value t a)) (found g.types.objects ty (operand_value t a)) ok ns
    act_shows (action.Write ty a x) u k z ok mt ns = write_case ty a x (cell_of g.types.objects ty (operand_value t a)) (found g.types.objects ty (operand_value t a)) ok ns
    act_shows (action.Choice i ty) u k z ok mt ns =
        goes_show _ _ (walks.with_temp w i (Temp n)) (values.with_temp t i (Number (wrap ty (number_of u)))) p h.stands (temp_shows w t p i (Temp n) (Number (wrap ty (number_of u))) h.temps (mt h.stands.0))
    act_shows (action.Assume a) u k z ok mt ns = assume_case a (is_true (operand_value t a)) refl ok
    act_shows (action.Check i a) u k z ok mt ns = check_any g.ranks i a refl k.0.0 ok
    act_shows (action.Unless a d) u k z ok mt ns = unless_case a d (is_true (operand_value t a)) refl ok
    act_shows (action.Goto d) u k z ok mt ns = goto_case d ok
    act_shows (action.Live o) u k z ok mt ns =
        goes_show [] nothing (with_live w o walks.T) t (record p { store = runs.with_live p.store o true }) (h.stands.0, sized_live m s g w o walks.T h.stands.1, live_writes m s g w p.store o walks.T true h.stands.2 refl) h.temps
    act_shows (action.Dead o) u k z ok mt ns =
        goes_show [] nothing (with_live w o walks.F) t (record p { store = runs.with_live p.store o false }) (h.stands.0, sized_live m s g w o walks.F h.stands.1, live_writes m s g w p.store o walks.F false h.stands.2 refl) h.temps
    act_shows action.End u k z ok mt ns = record { after = record { stands = (refl, h.stands.1); temps = tt }; entries = tt; events = tt }

  -- ---- where the path is off

  module _ (fs : List Frame) (c : Operand) (n : ℕ) (w : Walk) (h : Stand w.path w.slots Off) where
    stops_on : (steps : List Step) (given : Given) (w' : Walk) → Stand w'.path w'.slots Off → Stop (record (stepped steps w') { given = given })
    stops_on steps given w' k = record { after = k; entries = tt; events = tt }

    both_off : (k : ℕ) (a : Operand) → s k ≡ bit (on s w.path && on s a) → on s (Temp k) ≡ false
    both_off k a q = ap is_true q ∙ bit_on (on s w.path && on s a) ∙ ap (λ x. x && on s a) h.0

    but_off : (k : ℕ) (a : Operand) → s k ≡ bit (on s w.path && not (on s a)) → on s (Temp k) ≡ false
    but_off k a q = ap is_true q ∙ bit_on (on s w.path && not (on s a)) ∙ ap (λ x. x && not (on s a)) h.0

    write_off : (ty : CellType) (a x : Operand) → Stand (write_at g w ty a x n).walk.path (write_at g w ty a x n).walk.slots Off
    write_off ty (Constant (At o f)) x = (h.0, sized_cell m s g w o f x h.1)
    write_off ty (Constant (Number z)) x = h
    write_off ty (Constant Null) x = h
    write_off ty (Constant Invalid) x = h
    write_off ty (Temp i) x = (
      subst (λ (q : Operand). on s q ≡ false) (sym (write_path (w.temps i) ty x w (candidates g (g.family.temp i) ty 1 g.objects) n)) h.0,
      write_sized m s g (w.temps i) ty x w (candidates g (g.family.temp i) ty 1 g.objects) n h.1,
    )

    check_off : (rk : Bool) (k : ℕ) (a : Operand) → Solves m s n (on_check rk k c a n w).steps → Stop (on_check rk k c a n w)
    check_off true k a ok = stops_on _ nothing (with_path w (Temp n)) (both_off n a ok.0, h.1)
    check_off false k a ok = record {
      after = (both_off (suc (suc n)) a ok.1.1.0, h.1);
      entries = tt;
      events = (ap is_true ok.1.0 ∙ bit_on (on s (Temp n) && not (on s a)) ∙ ap (λ x. x && not (on s a)) (both_off n c ok.0), tt);
    }

    pub act_stops : (a : Action) → Solves m s n (walk_action g fs c n w a).steps → Stop (walk_action g fs c n w a)
    act_stops (action.Compute i x) ok = stops_on _ nothing (walks.with_temp w i (Temp n)) h
    act_stops (action.Read i ty a) ok = stops_on _ nothing (walks.with_temp w i (read_at g w ty a n).value) h
    act_stops (action.Write ty a x) ok = stops_on _ nothing (write_at g w ty a (now w x) n).walk (write_off ty a (now w x))
    act_stops (action.Choice i ty) ok = stops_on _ _ (walks.with_temp w i (Temp n)) h
    act_stops (action.Assume a) ok = stops_on _ nothing (with_path w (Temp n)) (both_off n (now w a) ok.0, h.1)
    act_stops (action.Check k a) ok = check_off g.ranks k (now w a) ok
    act_stops (action.Unless a d) ok = record {
      after = (both_off _ (now w a) (solves_second m s g (suc n) (leave_steps fs d (Temp n) (suc n)) _ ok.1).0, h.1);
      entries = ((leave_gives s m fs d (Temp n) (suc n) (solves_first m s g (suc n) (leave_steps fs d (Temp n) (suc n)) _ ok.1) ∙ ap (λ x. x && outs_of s fs d) (but_off n (now w a) ok.0), h.1), tt);
      events = tt;
    }
    act_stops (action.Goto d) ok = record {
      after = (refl, h.1);
      entries = ((leave_gives s m fs d w.path n ok ∙ ap (λ x. x && outs_of s fs d) h.0, h.1), tt);
      events = tt;
    }
    act_stops (action.Live o) ok = stops_on [] nothing (with_live w o walks.T) (h.0, sized_live m s g w o walks.T h.1)
    act_stops (action.Dead o) ok = stops_on [] nothing (with_live w o walks.F) (h.0, sized_live m s g w o walks.F h.1)
    act_stops action.End ok = stops_on [] nothing (with_path w walks.F) (refl, h.1)
