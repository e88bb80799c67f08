-- Starts and back starts of loops keep what cells hold, and so do whole runs.
use Rattle.std.proofs.Common.{arith, ◌≡◌, refl, ap, sym, subst, ◌<◌, ◌≤◌, ℕ, zero, suc, ℤ, pos, negsuc, Bool, true, false, List, [], ◌∷◌, length, Option, Some, None, IfSome, map}
use Rattle.std.specs.Prelude.{slice_get, nat_le}
use Rattle.std.specs.Ordering.{int_eq}
use Rattle.std.proofs.lemmas.Bool.{eqb-true, leb-true}
use Rattle.l2_bits.proofs.Wraps.{wrap_value}
use Rattle.l2_bits.specs.Values.{wrap}
use Rattle.l2_runs.specs.declared.cells.CellType.{CellType}
use Rattle.l2_runs.specs.declared.cells.CellType.TheVariants.{Integer, Pointer}
use Rattle.l2_runs.specs.declared.cells.CellValue.{CellValue}
use Rattle.l2_runs.specs.declared.cells.CellValue.TheVariants.{Number, Null, Invalid, At}
use Rattle.l2_runs.specs.declared.member.Member.{Member}
use Rattle.l2_runs.specs.declared.member.Member.TheVariants as member
use Rattle.l2_runs.specs.Fits.{Layout, CellFits, CellsFit}
use Rattle.l2_runs.specs.Members.{same_member, targets, is_in, Within}
use Rattle.l2_runs.specs.Numbers.{at_number}
use Rattle.l2_runs.specs.Store.{Object, Store, or_nothing, object_at}
use Rattle.l2_runs.specs.Runs.{State, Run, Result, Go, Halt, done, stop, either, choose, write, and_then}
use Rattle.l2_runs.specs.Keeps.{Anything}
use Rattle.l2_runs.specs.Back.{where_so, pointer_of, on_member, any_value, scatter_cells, scatter, back}
use Rattle.l2_runs.proofs.Stores.{from, from_next}
use Rattle.l2_code.specs.declared.code.CodeObject.{CodeObject}
use Rattle.l2_code.specs.Trees.{CodeTree}
use Rattle.l2_code.specs.Values.{Types, no_temps}
use Rattle.l2_code.specs.Machine.{Setting, Way, nodes}
use Rattle.l2_code.specs.Sets.{Family, AreHeld, HasCell, IsClosedObject}
use Rattle.l2_code.specs.Modes.{Real, Short, Cut, object_cells, types_of, mods_of, first_object, limit_of, start}
use Rattle.l2_code.specs.WellFormed.{IsConstant, IsObject, IsWellFormed, names_of, empty_scope}
use Rattle.l2_code_laws.specs.Preserved.{ResultHolds, Preserves}
use Rattle.l2_code_laws.specs.Holding.{CellHolds, CellsHold, StoreHolds, TempsHold, EndHolds, NodesHold, LimitsHold, RunsHold}
use Rattle.l2_code_laws.proofs.Preserving.{then_keep, done_keep, choose_keep, write_keep}
use Rattle.l2_code_laws.proofs.Values.{no_target}
use Rattle.l2_code_laws.proofs.Stores.{hold_write}
use Rattle.l2_code_laws.proofs.Acts.{nodes_hold}

-- ---- values of back starts

-- a pointer whose offset is within its object
abbrev Near : Layout → CellValue → Type 0
Near cells (Number z) = ⊥
Near cells Null = Unit {0}
Near cells Invalid = Unit {0}
Near cells (At o f) = f ≤ length (cells o)

so : (P : CellValue → Type 0) (v : CellValue) (t : Bool) → (t ≡ true → P v) → IfSome (where_so v t) P
so P v true h = h refl
so P v false h = tt

pointer_near : (cells : Layout) (sel off : ℤ) → IfSome (pointer_of cells sel off) (Near cells)
pointer_near cells (pos zero) off = so (Near cells) Null (int_eq off (pos 0)) (λ e. tt)
pointer_near cells (pos (suc zero)) off = so (Near cells) Invalid (int_eq off (pos 0)) (λ e. tt)
pointer_near cells (pos (suc (suc n))) (pos f) = so (Near cells) (At (suc n) f) (nat_le f (length (cells (suc n)))) (λ e. leb-true f (length (cells (suc n))) e)
pointer_near cells (pos (suc (suc n))) (negsuc f) = tt
pointer_near cells (negsuc n) off = tt

same_members : (set : Member → Bool) (a b : Member) → same_member a b ≡ true → set a ≡ true → set b ≡ true
same_members set member.Null member.Null e h = h
same_members set member.Invalid member.Invalid e h = h
same_members set (member.Object o) (member.Object p) e h = subst (λ n. set (member.Object n) ≡ true) (eqb-true o p e) h
same_members set member.Null member.Invalid e h = cc
same_members set member.Null (member.Object p) e h = cc
same_members set member.Invalid member.Null e h = cc
same_members set member.Invalid (member.Object p) e h = cc
same_members set (member.Object o) member.Null e h = cc
same_members set (member.Object o) member.Invalid e h = cc

in_set : (set : Member → Bool) (v : CellValue) → is_in set v ≡ true → Within (targets v) set
in_set set (Number z) e m t = cc
in_set set Null e m t = same_members set member.Null m t e
in_set set Invalid e m t = same_members set member.Invalid m t e
in_set set (At o f) e m t = same_members set (member.Object o) m t e

module _ (cells : Layout) (f : Family) (small : (n : ℕ) → length (cells n) ≤ 65536) (over : (n o : ℕ) → f.object n (member.Object o) ≡ true → 0 < length (cells o)) where
  abbrev Inv : Store → Type 0
  Inv store = StoreHolds cells f store

  near_holds : (n : ℕ) (v : CellValue) → Near cells v → is_in (f.object n) v ≡ true → CellHolds cells (f.object n) Pointer v
  near_holds n (Number z) h e = absurd h
  near_holds n Null h e = (tt, in_set (f.object n) Null e)
  near_holds n Invalid h e = (tt, in_set (f.object n) Invalid e)
  near_holds n (At o i) h e = ((over n o e, let s = small o in omega arith), in_set (f.object n) (At o i) e)

  member_keep : (n : ℕ) (x : Option CellValue) → IfSome x (Near cells) → Preserves Inv (CellHolds cells (f.object n) Pointer) (on_member (f.object n) x done)
  member_keep n None h = record { by = λ s k. k }
  member_keep n (Some v) h = record { by = λ s k. go (is_in (f.object n) v) refl s k }
    where
      go : (t : Bool) → is_in (f.object n) v ≡ t → (s : State) → Inv s.store → ResultHolds Inv (CellHolds cells (f.object n) Pointer) (either t (done v) stop s)
      go true e s k = (near_holds n v h e, k)
      go false e s k = k

  value_keep : (n : ℕ) (ty : CellType) → Preserves Inv (CellHolds cells (f.object n) ty) (any_value cells (f.object n) ty)
  value_keep n (Integer ty) = then_keep Inv (choose_keep Inv) (λ z w. done_keep Inv (Number (wrap ty z)) (wrap_value ty z, no_target (f.object n) (wrap ty z)))
  value_keep n Pointer = then_keep Inv (choose_keep Inv) (λ sel w. then_keep Inv (choose_keep Inv) (λ off u. member_keep n (pointer_of cells sel off) (pointer_near cells sel off)))

  get_from : (xs : List CellType) (i : ℕ) (t : CellType) (ts : List CellType) → from i xs ≡ t ∷ ts → slice_get xs i ≡ Some t
  get_from [] zero t ts e = cc
  get_from [] (suc i) t ts e = cc
  get_from (x ∷ xs) zero t ts e = cc
  get_from (x ∷ xs) (suc i) t ts e = get_from xs i t ts e

  cells_keep : (n i : ℕ) (ts : List CellType) → from i (cells n) ≡ ts → Preserves Inv Anything (scatter_cells cells (f.object n) n i ts)
  cells_keep n i [] e = done_keep Inv tt tt
  cells_keep n i (t ∷ ts) e =
      then_keep Inv (value_keep n t)
      (λ v p. then_keep Inv (write_keep Inv (record { object = n; offset = i }) v (λ st k. hold_write cells f st (record { object = n; offset = i }) t v (get_from (cells n) i t ts e) p k))
      (λ u q. cells_keep n (suc i) ts (from_next (cells n) i t ts e)))

  scatter_keep : (ns : List ℕ) → Preserves Inv Anything (scatter cells f.object ns)
  scatter_keep [] = done_keep Inv tt tt
  scatter_keep (n ∷ ns) = then_keep Inv (cells_keep n 0 (cells n) refl) (λ u p. scatter_keep ns)

  pub back_keep : (mods : ℕ → List ℕ) (starts : ℕ → Store → Bool) (l : ℕ) → Preserves Inv Anything (back cells f.object mods starts l)
  back_keep mods starts l = then_keep Inv (scatter_keep (mods l)) (λ u p. record { by = λ s k. go (starts l s.store) s k })
    where
      go : (t : Bool) (s : State) → Inv s.store → ResultHolds Inv Anything (either t (done {A = Unit {0}} tt) stop s)
      go true s k = (tt, k)
      go false s k = k

  -- ---- the start

  fit_constant : (ty : CellType) (v : CellValue) → CellFits cells ty v → IsConstant cells ty v
  fit_constant (Integer ty) (Number z) h = h
  fit_constant (Integer ty) Null h = absurd h
  fit_constant (Integer ty) Invalid h = absurd h
  fit_constant (Integer ty) (At o i) h = absurd h
  fit_constant Pointer (Number z) h = absurd h
  fit_constant Pointer Null h = tt
  fit_constant Pointer Invalid h = tt
  fit_constant Pointer (At o i) (p, q) = (p, let s = small o in omega arith)

  start_cells : (set : Member → Bool) (types : List CellType) (vs : List CellValue) → CellsFit cells types vs → AreHeld set vs → CellsHold cells set types vs
  start_cells set [] [] h k = tt
  start_cells set [] (v ∷ vs) h k = absurd h
  start_cells set (t ∷ types) [] h k = absurd h
  start_cells set (t ∷ types) (v ∷ vs) (p, q) (m, r) = ((fit_constant t v p, m), start_cells set types vs q r)

  first_at : Option CodeObject → Object
  first_at None = or_nothing None
  first_at (Some o) = first_object o

  first_slice : (xs : List CodeObject) (i : ℕ) → or_nothing (slice_get (map first_object xs) i) ≡ first_at (slice_get xs i)
  unfolding first_at
  first_slice [] i = refl
  first_slice (x ∷ xs) zero = refl
  first_slice (x ∷ xs) (suc i) = first_slice xs i

  first_object_at : (xs : List CodeObject) (n : ℕ) → object_at (map first_object xs) n ≡ first_at (at_number xs n)
  unfolding first_at
  first_object_at xs zero = refl
  first_object_at xs (suc i) = first_slice xs i

  start_at : (n : ℕ) (x : Option CodeObject) → ((o : CodeObject) → x ≡ Some o → IsObject cells o × IsClosedObject (f.object n) o)
      → CellsHold cells (f.object n) (object_cells x) (first_at x).cells
  unfolding first_at
  start_at n None h = tt
  start_at n (Some o) h = let p = h o refl in start_cells (f.object n) o.cells o.start p.0.fits p.1.start

  pub start_holds : (xs : List CodeObject) → ((n : ℕ) → cells n ≡ object_cells (at_number xs n))
      → ((n : ℕ) (o : CodeObject) → at_number xs n ≡ Some o → IsObject cells o × IsClosedObject (f.object n) o) → Inv (map first_object xs)
  start_holds xs same h = record { objects = at }
    where
      at : (n : ℕ) → CellsHold cells (f.object n) (cells n) (object_at (map first_object xs) n).cells
      at n = subst (λ (ts : List CellType). CellsHold cells (f.object n) ts (object_at (map first_object xs) n).cells) (sym (same n))
          (subst (λ (o : Object). CellsHold cells (f.object n) (object_cells (at_number xs n)) o.cells) (sym (first_object_at xs n)) (start_at n (at_number xs n) (h n)))

-- ---- runs

small_object : (x : Option CodeObject) → ((o : CodeObject) → x ≡ Some o → length o.cells ≤ 65536) → length (object_cells x) ≤ 65536
small_object None h = omega arith
small_object (Some o) h = h o refl

pub small_objects : (c : CodeTree) → IsWellFormed c → (n : ℕ) → length ((types_of c).objects n) ≤ 65536
small_objects c w n = small_object (at_number c.objects n) (λ o e. (w.objects n o e).sized.1)

cell_there : (x : Option CodeObject) → HasCell x → 0 < length (object_cells x)
cell_there None h = absurd h
cell_there (Some o) h = h

pub limits_hold : LimitsHold
limits_hold c f w z Real = tt
limits_hold c f w z (Short k) = tt
limits_hold c f w z (Cut k starts) =
    back_keep (types_of c).objects f (small_objects c w) (λ n o e. cell_there (at_number c.objects o) (z.over.objects n o e)) (mods_of c) starts

set_types : (c : CodeTree) (f : Family) (g : Setting) (e : g.types ≡ types_of c) → (types_of c).objects ≡ g.types.objects
set_types c f g e = ap (λ (t : Types). t.objects) (sym e)

pub nodes_do : NodesHold
nodes_do c f w z g e limits xs scope h k b t held =
    nodes_hold (names_of c) f (small_objects c w) g (ap (λ (t : Types). t.objects) e) limits b xs scope t h k held

no_temps_hold : (cells : Layout) (f : Family) → TempsHold cells f empty_scope no_temps
no_temps_hold cells f = record { sets = λ n. no_target (f.temp n) (pos 0); types = λ n. tt }

end_holds : (cells : Layout) (f : Family) (P : Way → Type 0) (r : Result Way) → ResultHolds (StoreHolds cells f) P r → EndHolds cells f (Rattle.l2_runs.specs.Runs.on_go r (λ w. stop))
end_holds cells f P (Go w s) (p, k) = k
end_holds cells f P (Halt e s) k = k

pub runs_do : RunsHold
runs_do c f w z mode tests choices turns =
    end_holds (types_of c).objects f _ (nodes (record { limit = limit_of c f mode; tests = tests; types = types_of c }) true c.body no_temps (start c choices turns))
    ((nodes_do c f w z (record { limit = limit_of c f mode; tests = tests; types = types_of c }) refl (limits_hold c f w z mode) c.body empty_scope w.typed z.closed.actions true no_temps (no_temps_hold (types_of c).objects f)).by
    (start c choices turns)
    (start_holds (types_of c).objects f (small_objects c w) (λ n o e. cell_there (at_number c.objects o) (z.over.objects n o e)) c.objects (λ n. refl)
    (λ n o e. (w.objects n o e, z.closed.objects n o e))))
