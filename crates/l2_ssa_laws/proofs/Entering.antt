-- A supply may as well enter each loop at Bottom, and name no object without cells: where it doesn't, the run is stopped.
use Rattle.std.proofs.Common.{arith, ◌≡◌, inl, inr, ℕ, zero, suc, ◌<◌, pos, length, IfSome, Bool, true, false, refl, sym, ap, subst, List, [], ◌∷◌, Option, Some, None}
use Rattle.std.specs.Ordering.{int_eq}
use Rattle.l2_runs.specs.declared.cells.CellType.{CellType}
use Rattle.l2_runs.specs.declared.cells.CellType.TheVariants.{Integer, Pointer}
use Rattle.l2_runs.specs.declared.cells.CellValue.{CellValue}
use Rattle.l2_runs.specs.declared.cells.CellValue.TheVariants as value
use Rattle.l2_runs.specs.declared.member.Member.{Member}
use Rattle.l2_runs.specs.declared.member.Member.TheVariants as member
use Rattle.l2_runs.specs.declared.outcome.Outcome.TheVariants.{Ended, Stopped, Broken, OutOfChoices, OutOfTurns}
use Rattle.l2_runs.specs.Fits.{Layout}
use Rattle.l2_runs.specs.Members.{is_in}
use Rattle.l2_runs.specs.Store.{Store}
use Rattle.l2_runs.specs.Runs.{Over, Fallen, done, stop, either, write}
use Rattle.l2_runs.specs.Loops.{Tests}
use Rattle.l2_runs.specs.Back.{pointer_of, on_member}
use Rattle.l2_code.specs.declared.action.Operand.{Operand}
use Rattle.l2_code.specs.declared.action.Operand.TheVariants.{Temp}
use Rattle.l2_code.specs.declared.action.Action.{Action}
use Rattle.l2_code.specs.declared.action.Action.TheVariants as action
use Rattle.l2_code.specs.Trees.{Node, Do, Block, Loop, Nodes, none, more}
use Rattle.l2_code.specs.Values.{Temps}
use Rattle.l2_code.specs.Machine.{Way, On, Out, close}
use Rattle.l2_supply.specs.Supply.{Supply, nil, one, two, left, right, number_of, Place, at, Come, Goes, Ends, Supplied, on_goes, then_with, without, come_of}
use Rattle.l2_supply.specs.Going as going
use Rattle.l2_supply.specs.Going.{Cut, any_with, cells_with, scatter_with, passing, back_with, tested_with, rounds_with, later_with, seen, loop_with, act_with, follow_with, node_with, nodes_with}
use Rattle.l2_ssa.specs.Walks as walks
use Rattle.l2_ssa.specs.Walks.{Setting, Walk, Frame, Given, nothing, entering, chosen, taken, halves, pair, Kind, Bottom, Plain, Rows, past, is_last, copy_frame, count_steps, count_name, scatter_one, scatter_cells, scatter, head_rows, end_turn, walk_copies, walk_loop, walk_action, walk_node, walk}
use Rattle.l2_ssa.specs.Law.{RowsOf, starts, starts_of}
use Rattle.l2_ssa.proofs.Enters.{Halted, Same}
use Rattle.l2_ssa_laws.specs.Entering.{HasCells, Enters}
use Rattle.l2_ssa.proofs.Copies.{counts, leaves, pass, turns, entry_turns, back_turns}

-- where the pointer's object has no cells, one that is none
abbrev settled_at : List CellType → Supply → Supply
settled_at [] u = two (one (pos 0)) (two (one (pos 1)) nil)
settled_at (t ∷ ts) u = u

abbrev settled : Layout → Option CellValue → Supply → Supply
settled cells None u = u
settled cells (Some (value.Number z)) u = u
settled cells (Some value.Null) u = u
settled cells (Some value.Invalid) u = u
settled cells (Some (value.At o f)) u = settled_at (cells o) u

abbrev pub named : Layout → Supply → Option CellValue
named cells u = pointer_of cells (number_of (left u)) (number_of (left (right u)))

-- the same supply, but that loops without back starts are entered, and no object without cells is named
abbrev pub enters : Layout → Given → Supply → Supply
enters cells nothing u = u
enters cells entering u = one (pos 0)
enters cells (chosen g n) u = u
enters cells (taken g n ty) u = u
enters cells (halves g n) u = settled cells (named cells u) u
enters cells (pair x y) u = two (enters cells x (left u)) (enters cells y (right u))

has_cells : (cells : Layout) (x : Option CellValue) (u : Supply) → named cells u ≡ x → IfSome (named cells (settled cells x u)) (HasCells cells)
has_cells cells None u e = subst (λ y. IfSome y (HasCells cells)) (sym e) tt
has_cells cells (Some (value.Number z)) u e = subst (λ y. IfSome y (HasCells cells)) (sym e) (λ o f i. let j = i in cc)
has_cells cells (Some value.Null) u e = subst (λ y. IfSome y (HasCells cells)) (sym e) (λ o f i. let j = i in cc)
has_cells cells (Some value.Invalid) u e = subst (λ y. IfSome y (HasCells cells)) (sym e) (λ o f i. let j = i in cc)
has_cells cells (Some (value.At o f)) u e = go (cells o) refl
  where
    some_cells : (t : CellType) (ts : List CellType) → cells o ≡ t ∷ ts → HasCells cells (value.At o f)
    some_cells t ts c p g i = let same : o ≡ p = cc in subst (λ n. 0 < length (cells n)) same (subst (λ xs. 0 < length xs) (sym c) (omega arith))

    go : (ts : List CellType) → cells o ≡ ts → IfSome (named cells (settled_at ts u)) (HasCells cells)
    go [] c = tt
    go (t ∷ ts) c = subst (λ y. IfSome y (HasCells cells)) (sym e) (some_cells t ts c)

pub enters_enter : (cells : Layout) (x : Given) (u : Supply) → Enters cells x (enters cells x u)
enters_enter cells nothing u = tt
enters_enter cells entering u = refl
enters_enter cells (chosen g n) u = tt
enters_enter cells (taken g n ty) u = tt
enters_enter cells (halves g n) u = has_cells cells (named cells u) u refl
enters_enter cells (pair x y) u = (enters_enter cells x (left u), enters_enter cells y (right u))

-- ---- runs

halted_then : {A B : Type 0} (e : Come A) (f : A → Place → Come B) → Halted e → Halted (on_goes e f)
halted_then (Goes a p) f h = absurd h
halted_then (Ends (Over Ended) p) f h = absurd h
halted_then (Ends (Over Stopped) p) f h = tt
halted_then (Ends (Over (Broken c)) p) f h = absurd h
halted_then (Ends (Over OutOfChoices) p) f h = absurd h
halted_then (Ends (Over OutOfTurns) p) f h = absurd h
halted_then (Ends (Fallen l row) p) f h = absurd h

on_same : {A B : Type 0} (e : Come A) (f h : A → Place → Come B) → ((a : A) (p : Place) → Same (f a p) (h a p)) → Same (on_goes e f) (on_goes e h)
on_same (Goes a p) f h k = k a p
on_same (Ends e p) f h k = inl refl

then_same : {A B : Type 0} (e x : Come A) (f h : A → Place → Come B) → Same e x → ((a : A) (p : Place) → Same (f a p) (h a p)) → Same (on_goes e f) (on_goes x h)
then_same e x f h (inl q) k = subst (λ y. Same (on_goes e f) (on_goes y h)) q (on_same e f h k)
then_same e x f h (inr q) k = inr (halted_then e f q)

-- ---- back starts

abbrev Mild : {A : Type 0} → Come A → Type 0
Mild (Goes a p) = Unit {0}
Mild (Ends (Over Ended) p) = ⊥
Mild (Ends (Over Stopped) p) = Unit {0}
Mild (Ends (Over (Broken c)) p) = ⊥
Mild (Ends (Over OutOfChoices) p) = ⊥
Mild (Ends (Over OutOfTurns) p) = ⊥
Mild (Ends (Fallen l row) p) = ⊥

mild_then : {A B : Type 0} (e : Come A) (f : A → Place → Come B) → Mild e → ((a : A) (p : Place) → Mild (f a p)) → Mild (on_goes e f)
mild_then (Goes a p) f h k = k a p
mild_then (Ends (Over Ended) p) f h k = h
mild_then (Ends (Over Stopped) p) f h k = tt
mild_then (Ends (Over (Broken c)) p) f h k = h
mild_then (Ends (Over OutOfChoices) p) f h k = h
mild_then (Ends (Over OutOfTurns) p) f h k = h
mild_then (Ends (Fallen l row) p) f h k = h

-- a mild run that goes nowhere is halted
mild_halts : {A B : Type 0} (e : Come A) (f : A → Place → Come B) → Mild e → ((a : A) (p : Place) → Halted (f a p)) → Halted (on_goes e f)
mild_halts (Goes a p) f h k = k a p
mild_halts (Ends (Over Ended) p) f h k = h
mild_halts (Ends (Over Stopped) p) f h k = tt
mild_halts (Ends (Over (Broken c)) p) f h k = h
mild_halts (Ends (Over OutOfChoices) p) f h k = h
mild_halts (Ends (Over OutOfTurns) p) f h k = h
mild_halts (Ends (Fallen l row) p) f h k = h

member_mild : (set : Member → Bool) (x : Option CellValue) (q : Place) → Mild (come_of (on_member set x done (at q [] 0)))
member_mild set None q = tt
member_mild set (Some v) q = go (is_in set v)
  where
    go : (b : Bool) → Mild (come_of (either b (done v) stop (at q [] 0)))
    go true = tt
    go false = tt

any_mild : (cells : Layout) (set : Member → Bool) (t : CellType) (u : Supply) (q : Place) → Mild (any_with cells set t u q)
any_mild cells set (Integer ty) u q = tt
any_mild cells set Pointer u q = member_mild set (pointer_of cells (number_of (left u)) (number_of (left (right u)))) q

cells_mild : (cells : Layout) (set : Member → Bool) (o f : ℕ) (ts : List CellType) (u : Supply) (q : Place) → Mild (cells_with cells set o f ts u q)
cells_mild cells set o f [] u q = tt
cells_mild cells set o f (t ∷ ts) u q = mild_then (any_with cells set t (left u) q) _ (any_mild cells set t (left u) q) (λ v z. cells_mild cells set o (suc f) ts (right (right u)) _)

scatter_mild : (cells : Layout) (sets : ℕ → Member → Bool) (os : List ℕ) (u : Supply) (q : Place) → Mild (scatter_with cells sets os u q)
scatter_mild cells sets [] u q = tt
scatter_mild cells sets (o ∷ os) u q = mild_then (cells_with cells (sets o) o 0 (cells o) (left u) q) _ (cells_mild cells (sets o) o 0 (cells o) (left u) q) (λ v z. scatter_mild cells sets os (right u) z)

pass_halts : (starts : Store → Bool) (z : Place) → starts z.store ≡ false → Halted (come_of (passing starts (at z [] 0)))
pass_halts starts z e = subst (λ b. Halted (come_of (either b (done (tt {0})) stop (at z [] 0)))) (sym e) tt

-- a pointer to an object without cells is in no set
pointer_same : (cells : Layout) (set : Member → Bool) → ((o : ℕ) → set (member.Object o) ≡ true → 0 < length (cells o)) → (q : Place) (u : Supply) (x : Option CellValue) → named cells u ≡ x
    → Same (come_of (on_member set (named cells u) done (at q [] 0))) (come_of (on_member set (named cells (settled cells x u)) done (at q [] 0)))
pointer_same cells set over q u None e = inl refl
pointer_same cells set over q u (Some (value.Number z)) e = inl refl
pointer_same cells set over q u (Some value.Null) e = inl refl
pointer_same cells set over q u (Some value.Invalid) e = inl refl
pointer_same cells set over q u (Some (value.At o f)) e = go (cells o) refl
  where
    not_in : cells o ≡ [] → (b : Bool) → set (member.Object o) ≡ b → Halted (come_of (either b (done (value.At o f)) stop (at q [] 0)))
    not_in c true i = let some = over o i in let none : length (cells o) ≡ 0 = ap length c in absurd (omega (arith, some, none))
    not_in c false i = tt

    go : (ts : List CellType) → cells o ≡ ts → Same (come_of (on_member set (named cells u) done (at q [] 0))) (come_of (on_member set (named cells (settled_at ts u)) done (at q [] 0)))
    go [] c = inr (subst (λ y. Halted (come_of (on_member set y done (at q [] 0)))) (sym e) (not_in c (set (member.Object o)) refl))
    go (t ∷ ts) c = inl refl

module _ (g : Setting) (over : (n o : ℕ) → g.family.object n (member.Object o) ≡ true → 0 < length (g.types.objects o)) where
  cells_enter : (p b : Operand) (o f : ℕ) (ts : List CellType) (n : ℕ) (w : Walk) (u : Supply) (q : Place)
      → Same (cells_with g.types.objects (g.family.object o) o f ts u q) (cells_with g.types.objects (g.family.object o) o f ts (enters g.types.objects (scatter_cells g p b o f ts n w).given u) q)
  cells_enter p b o f [] n w u q = inl refl
  cells_enter p b o f (Integer ty ∷ ts) n w u q =
      let x = scatter_one g p b o f (Integer ty) n w in
      then_same (any_with g.types.objects (g.family.object o) (Integer ty) (left u) q) (any_with g.types.objects (g.family.object o) (Integer ty) (left u) q) _ _ (inl refl)
      (λ v z. then_same (without (write (record { object = o; offset = f }) v) (left (right u)) z) (without (write (record { object = o; offset = f }) v) (left (right u)) z) _ _ (inl refl)
      (λ y z'. cells_enter p b o (suc f) ts (past n x.steps) x.after (right (right u)) z'))
  cells_enter p b o f (Pointer ∷ ts) n w u q =
      let x = scatter_one g p b o f Pointer n w in
      then_same (any_with g.types.objects (g.family.object o) Pointer (left u) q) (any_with g.types.objects (g.family.object o) Pointer (settled g.types.objects (named g.types.objects (left u)) (left u)) q) _ _
      (pointer_same g.types.objects (g.family.object o) (over o) q (left u) (named g.types.objects (left u)) refl)
      (λ v z. then_same (without (write (record { object = o; offset = f }) v) (left (right u)) z) (without (write (record { object = o; offset = f }) v) (left (right u)) z) _ _ (inl refl)
      (λ y z'. cells_enter p b o (suc f) ts (past n x.steps) x.after (right (right u)) z'))

  scatter_enter : (p b : Operand) (os : List ℕ) (n : ℕ) (w : Walk) (u : Supply) (q : Place)
      → Same (scatter_with g.types.objects g.family.object os u q) (scatter_with g.types.objects g.family.object os (enters g.types.objects (scatter g p b os n w).given u) q)
  scatter_enter p b [] n w u q = inl refl
  scatter_enter p b (o ∷ os) n w u q =
      let x = scatter_cells g p b o 0 (g.types.objects o) n w in
      then_same (cells_with g.types.objects (g.family.object o) o 0 (g.types.objects o) (left u) q) (cells_with g.types.objects (g.family.object o) o 0 (g.types.objects o) (enters g.types.objects x.given (left u)) q) _ _
      (cells_enter p b o 0 (g.types.objects o) n w (left u) q) (λ v z. scatter_enter p b os (past n x.steps) x.after (right u) z)

  module _ (row : RowsOf) (ts : Tests) (k0 : ℕ) (copies : g.copies ≡ suc k0) where
    abbrev run : going.Setting
    run = record { heads = Cut (suc k0) (starts row g); tests = ts; types = g.types; sets = g.family.object; mods = g.mods }

    -- ---- loops

    module _ (l : ℕ) (body : Frame → Operand → ℕ → Walk → walks.Out) (turn : Bool → Supplied Way)
        (turn_enter : (f : Frame) (d : Operand) (n : ℕ) (w : Walk) (D : Bool) (v : Supply) (p : Place) → Same (turn D v p) (turn D (enters g.types.objects (body f d n w).given v) p)) where
      abbrev q : Bool → Supplied (Unit {0} × Option ℕ)
      q d = tested_with (ts) l d (seen (λ w. (tt {0}, close w)) (turn d))

      pass_enter : (lv : Bool) (next : Supplied (Unit {0} × ℕ)) (v v' : Supply) → ((p : Place) → Same (next v p) (next v' p)) → (x : Unit {0} × Option ℕ) (p : Place) → Same (pass lv next x v p) (pass lv next x v' p)
      pass_enter true next v v' h (y, None) p = h p
      pass_enter true next v v' h (y, Some j) p = inl refl
      pass_enter false next v v' h (y, None) p = h p
      pass_enter false next v v' h (y, Some j) p = inl refl

      q_enter : (D : Bool) (v v' : Supply) → ((p : Place) → Same (turn D v p) (turn D v' p)) → (p : Place) → Same (q D v p) (q D v' p)
      q_enter D v v' h p =
          then_same (seen (λ w. (tt {0}, close w)) (turn D) v p) (seen (λ w. (tt {0}, close w)) (turn D) v' p) _ _
          (then_same (turn D v p) (turn D v' p) _ _ (h p) (λ a z. inl refl)) (λ a z. inl refl)

      turns_enter : (kind : Kind) (b c : Operand) (temps : ℕ → Operand) (z B : Bool) (k n : ℕ) (w : Walk) (v : Supply) (p : Place)
          → Same (turns q z B k v p) (turns q z B k (enters g.types.objects (walk_copies g body l kind b c temps k n w).given v) p)
      turns_enter kind b c temps z B zero n w v p = inl refl
      turns_enter kind b c temps z B (suc k) n w v p =
          let x = count_steps (is_last k) w.path b c in
          let d = count_name (is_last k) c n in
          let o = body (copy_frame (is_last k) b) d (past n x) (record w { temps = temps }) in
          let n1 = past (past n x) o.steps in
          let et = end_turn g kind d l w.slots n1 o.after in
          let rest = walk_copies g body l kind b c temps k (past n1 et.steps) et.after in
          then_same (q (counts (is_last k) z B) (left v) p) (q (counts (is_last k) z B) (enters g.types.objects o.given (left v)) p) _ _
          (q_enter (counts (is_last k) z B) (left v) (enters g.types.objects o.given (left v)) (turn_enter (copy_frame (is_last k) b) d (past n x) (record w { temps = temps }) (counts (is_last k) z B) (left v)) p)
          (pass_enter (leaves (is_last k) z) (turns q z B k) (right v) (enters g.types.objects rest.given (right v)) (turns_enter kind b c temps z B k (past n1 et.steps) et.after (right v)))

      -- with the setting's copies
      all_enter : (kind : Kind) (b c : Operand) (temps : ℕ → Operand) (z B : Bool) (n : ℕ) (w : Walk) (v : Supply) (p : Place)
          → Same (turns q z B (suc k0) v p) (turns q z B (suc k0) (enters g.types.objects (walk_copies g body l kind b c temps g.copies n w).given v) p)
      all_enter kind b c temps z B n w v p =
          subst (λ k. Same (turns q z B (suc k0) v p) (turns q z B (suc k0) (enters g.types.objects (walk_copies g body l kind b c temps k n w).given v) p)) (sym copies) (turns_enter kind b c temps z B (suc k0) n w v p)

      rounds_enter : (kind : Kind) (b c : Operand) (temps : ℕ → Operand) (B : Bool) (n : ℕ) (w : Walk) (v : Supply) (p : Place)
          → Same (rounds_with (suc k0) (q B) v p) (rounds_with (suc k0) (q B) (enters g.types.objects (walk_copies g body l kind b c temps g.copies n w).given v) p)
      rounds_enter kind b c temps B n w v p =
          subst (λ (f : Supplied (Unit {0} × ℕ)). Same (f v p) (f (enters g.types.objects (walk_copies g body l kind b c temps g.copies n w).given v) p)) (sym (entry_turns q B (suc k0))) (all_enter kind b c temps false B n w v p)

      later_enter : (kind : Kind) (b c : Operand) (temps : ℕ → Operand) (B : Bool) (n : ℕ) (w : Walk) (v : Supply) (p : Place)
          → Same (later_with k0 q B v p) (later_with k0 q B (enters g.types.objects (walk_copies g body l kind b c temps g.copies n w).given v) p)
      later_enter kind b c temps B n w v p =
          subst (λ (f : Supplied (Unit {0} × ℕ)). Same (f v p) (f (enters g.types.objects (walk_copies g body l kind b c temps g.copies n w).given v) p)) (sym (back_turns q B k0)) (all_enter kind b c temps true B n w v p)

      -- a loop at Bottom
      bottom_enter : g.kind l ≡ Bottom → (c : Operand) (n : ℕ) (w : Walk) (B : Bool) (u : Supply) (p : Place)
          → Same (loop_with run (Cut (suc k0) (starts row g)) l q B u p) (loop_with run (Cut (suc k0) (starts row g)) l q B (enters g.types.objects (walk_loop g Bottom body l c n w).given u) p)
      bottom_enter e c n w B u p = go (int_eq (number_of (left u)) (pos 0))
        where
          go : (x : Bool) → Same (going.on_bool x (then_with (going.goes (tt {0})) (λ v. rounds_with (suc k0) (q B))) (then_with (back_with g.types.objects g.family.object (g.mods l) (starts row g l)) (λ v. later_with k0 q B)) (right u) p)
              (rounds_with (suc k0) (q B) (enters g.types.objects (walk_copies g body l Bottom walks.F c w.temps g.copies n w).given (right (right u))) p)
          go true = rounds_enter Bottom walks.F c w.temps B n w (right (right u)) p
          go false = inr (halted_then (back_with g.types.objects g.family.object (g.mods l) (starts row g l) (left (right u)) p) _
              (mild_halts (scatter_with g.types.objects g.family.object (g.mods l) (left (left (right u))) p) _ (scatter_mild g.types.objects g.family.object (g.mods l) (left (left (right u))) p)
              (λ a z. pass_halts (starts row g l) z (ap (λ kd. starts_of row g kd l z.store) e))))

      rows_enter : (r : ℕ) (c : Operand) (n : ℕ) (w : Walk) (B : Bool) (u : Supply) (p : Place)
          → Same (loop_with run (Cut (suc k0) (starts row g)) l q B u p) (loop_with run (Cut (suc k0) (starts row g)) l q B (enters g.types.objects (walk_loop g (Rows r) body l c n w).given u) p)
      rows_enter r c n w B u p = go (int_eq (number_of (left u)) (pos 0))
        where
          go : (x : Bool) → Same (going.on_bool x (then_with (going.goes (tt {0})) (λ v. rounds_with (suc k0) (q B))) (then_with (back_with g.types.objects g.family.object (g.mods l) (starts row g l)) (λ v. later_with k0 q B)) (right u) p)
              (going.on_bool x (then_with (going.goes (tt {0})) (λ v. rounds_with (suc k0) (q B))) (then_with (back_with g.types.objects g.family.object (g.mods l) (starts row g l)) (λ v. later_with k0 q B)) (right (enters g.types.objects (walk_loop g (Rows r) body l c n w).given u)) p)
          go true =
              let x = scatter g w.path (Temp n) (g.mods l) (suc n) w in
              let n1 = past (suc n) x.steps in
              let h = head_rows g w.path (Temp n) l 1 r n1 x.after in
              rounds_enter (Rows r) (Temp n) c w.temps B (past n1 h.steps) h.walk (right (right u)) p
          go false =
              let x = scatter g w.path (Temp n) (g.mods l) (suc n) w in
              let n1 = past (suc n) x.steps in
              let h = head_rows g w.path (Temp n) l 1 r n1 x.after in
              then_same (back_with g.types.objects g.family.object (g.mods l) (starts row g l) (left (right u)) p)
              (back_with g.types.objects g.family.object (g.mods l) (starts row g l) (two (enters g.types.objects x.given (left (left (right u)))) (right (left (right u)))) p) _ _
              (then_same (scatter_with g.types.objects g.family.object (g.mods l) (left (left (right u))) p) (scatter_with g.types.objects g.family.object (g.mods l) (enters g.types.objects x.given (left (left (right u)))) p) _ _
              (scatter_enter w.path (Temp n) (g.mods l) (suc n) w (left (left (right u))) p) (λ a z. inl refl))
              (λ a z. later_enter (Rows r) (Temp n) c w.temps B (past n1 h.steps) h.walk (right (right u)) z)

    -- ---- code

    module _ (no_plain : (l : ℕ) → g.kind l ≡ Plain → ⊥) where
      loop_enter : (l : ℕ) (body : Frame → Operand → ℕ → Walk → walks.Out) (turn : Bool → Supplied Way)
          → ((f : Frame) (d : Operand) (n : ℕ) (w : Walk) (D : Bool) (v : Supply) (p : Place) → Same (turn D v p) (turn D (enters g.types.objects (body f d n w).given v) p))
          → (kd : Kind) → g.kind l ≡ kd → (c : Operand) (n : ℕ) (w : Walk) (B : Bool) (u : Supply) (p : Place)
          → Same (loop_with run (Cut (suc k0) (starts row g)) l (λ d. tested_with (ts) l d (seen (λ w. (tt {0}, close w)) (turn d))) B u p)
          (loop_with run (Cut (suc k0) (starts row g)) l (λ d. tested_with (ts) l d (seen (λ w. (tt {0}, close w)) (turn d))) B (enters g.types.objects (walk_loop g kd body l c n w).given u) p)
      loop_enter l body turn h Bottom e c n w B u p = bottom_enter l body turn h e c n w B u p
      loop_enter l body turn h Plain e c n w B u p = absurd (no_plain l e)
      loop_enter l body turn h (Rows r) e c n w B u p = rows_enter l body turn h r c n w B u p

      check_enter : (rk : Bool) (k : ℕ) (c a : Operand) (n : ℕ) (w : Walk) (u : Supply) → enters g.types.objects (walks.on_check rk k c a n w).given u ≡ u
      check_enter true k c a n w u = refl
      check_enter false k c a n w u = refl

      act_enter : (fs : List Frame) (c : Operand) (n : ℕ) (w : Walk) (a : Action) (B : Bool) (t : Temps) (u : Supply) (p : Place) → Same (act_with run B a t u p) (act_with run B a t (enters g.types.objects (walk_action g fs c n w a).given u) p)
      act_enter fs c n w (action.Compute i x) B t u p = inl refl
      act_enter fs c n w (action.Read i ty a) B t u p = inl refl
      act_enter fs c n w (action.Write ty a x) B t u p = inl refl
      act_enter fs c n w (action.Choice i ty) B t u p = inl refl
      act_enter fs c n w (action.Assume a) B t u p = inl refl
      act_enter fs c n w (action.Check k a) B t u p = inl refl
      act_enter fs c n w (action.Unless a d) B t u p = inl refl
      act_enter fs c n w (action.Goto d) B t u p = inl refl
      act_enter fs c n w (action.Live o) B t u p = inl refl
      act_enter fs c n w (action.Dead o) B t u p = inl refl
      act_enter fs c n w action.End B t u p = inl refl

      follow_enter : (f : Temps → Supplied Way) (v v' : Supply) → ((t : Temps) (p : Place) → Same (f t v p) (f t v' p)) → (w : Way) (p : Place) → Same (follow_with f w v p) (follow_with f w v' p)
      follow_enter f v v' h (On t) p = h t p
      follow_enter f v v' h (Out n) p = inl refl

      mutual
        node_enter : (x : Node) (fs : List Frame) (c : Operand) (n : ℕ) (w : Walk) (B : Bool) (t : Temps) (u : Supply) (p : Place) → Same (node_with run B x t u p) (node_with run B x t (enters g.types.objects (walk_node g x fs c n w).given u) p)
        node_enter (Do a) fs c n w B t u p = act_enter fs c n w a B t u p
        node_enter (Block all) fs c n w B t u p =
            then_same (nodes_with run B all t u p) (nodes_with run B all t (enters g.types.objects (walk g all (walks.Block ∷ fs) c n w).given u) p) _ _ (nodes_enter all (walks.Block ∷ fs) c n w B t u p) (λ a z. inl refl)
        node_enter (Loop l all) fs c n w B t u p =
            then_same (loop_with run (Cut (suc k0) (starts row g)) l (λ d. tested_with (ts) l d (seen (λ w. (tt {0}, close w)) (nodes_with run d all t))) B u p)
            (loop_with run (Cut (suc k0) (starts row g)) l (λ d. tested_with (ts) l d (seen (λ w. (tt {0}, close w)) (nodes_with run d all t))) B (enters g.types.objects (walk_node g (Loop l all) fs c n w).given u) p)
            (λ r z. Goes (Out r.1) z) (λ r z. Goes (Out r.1) z)
            (loop_enter l (λ f d k v. walk g all (f ∷ fs) d k v) (λ d. nodes_with run d all t) (λ f d k w D v z. nodes_enter all (f ∷ fs) d k w D t v z) (g.kind l) refl c n w B u p) (λ a z. inl refl)

        pub nodes_enter : (xs : Nodes) (fs : List Frame) (c : Operand) (n : ℕ) (w : Walk) (B : Bool) (t : Temps) (u : Supply) (p : Place) → Same (nodes_with run B xs t u p) (nodes_with run B xs t (enters g.types.objects (walk g xs fs c n w).given u) p)
        nodes_enter none fs c n w B t u p = inl refl
        nodes_enter (more x rest) fs c n w B t u p =
            let o = walk_node g x fs c n w in
            let q = walk g rest fs c (past n o.steps) o.after in
            then_same (node_with run B x t (left u) p) (node_with run B x t (enters g.types.objects o.given (left u)) p) _ _ (node_enter x fs c n w B t (left u) p)
            (follow_enter (nodes_with run B rest) (right u) (enters g.types.objects q.given (right u)) (λ t p. nodes_enter rest fs c (past n o.steps) o.after B t (right u) p))
