-- Choices that bring a back start from one store to another.
use Rattle.std.proofs.Common.{◌≡◌, ◌≢◌, ℕ, zero, suc, ◌≤◌, ℤ, pos, Bool, true, false, List, [], ◌∷◌, ◌++◌, length, inl, inr, refl, sym, ap, ◌∙◌, subst, append_assoc, arith}
use Rattle.std.specs.Prelude.{◌==◌, nat_le, slice_get, slice_set}
use native.Mathlib.Decide.{ℕ_discrete}
use Rattle.l2_bits.proofs.Wraps.{wrap_of_value}
use Rattle.l2_runs.specs.declared.cells.CellType.{CellType}
use Rattle.l2_runs.specs.declared.cells.CellType.TheVariants.{Integer, Pointer}
use Rattle.l2_runs.specs.declared.cells.CellValue.{CellValue}
use Rattle.l2_runs.specs.declared.cells.CellValue.TheVariants.{Number, Null, Invalid, At}
use Rattle.l2_runs.specs.declared.member.Member.{Member}
use Rattle.l2_runs.specs.declared.member.Member.TheVariants as member
use Rattle.l2_runs.specs.Store.{Object, Store, or_nothing, object_at, with_cell}
use Rattle.l2_runs.specs.Fits.{Layout, CellFits, CellsFit, StoreFits}
use Rattle.l2_runs.specs.Runs.{State, Go, Run, on_go, and_then, done, stop, either, write}
use Rattle.l2_runs.specs.Members.{targets, Within}
use Rattle.l2_runs.specs.Back.{where_so, on_member, any_value, scatter_cells, scatter, back}
use Rattle.l2_run_laws.specs.Watches.{InSets, CellsIn}
use Rattle.l2_run_laws.proofs.CutRuns.{at, Simulates}
use Rattle.l2_run_laws.proofs.Frames.{at_set, length_set, Frame, NoObject}
use Rattle.l2_run_laws.proofs.LoopFrames.{Among}

-- ---- stores with the same objects

same_object : (x y : Object) → x.cells ≡ y.cells → x.live ≡ y.live → x ≡ y
same_object x y p q =
    let first : x ≡ record { cells = y.cells; live = x.live } = ap (λ c. record { cells = c; live = x.live }) p in
    let second : record { cells = y.cells; live = x.live } ≡ y = ap (λ l. record { cells = y.cells; live = l }) q in
    first ∙ second

same_objects : (a b : Store) → length a ≡ length b → ((i : ℕ) → or_nothing (slice_get a i) ≡ or_nothing (slice_get b i)) → a ≡ b
same_objects [] [] e h = refl
same_objects [] (y ∷ ys) e h = absurd (omega (arith, e))
same_objects (x ∷ xs) [] e h = absurd (omega (arith, e))
same_objects (x ∷ xs) (y ∷ ys) e h =
    let first : x ≡ y = h zero in
    let rest : xs ≡ ys = same_objects xs ys (omega (arith, e)) (λ i. h (suc i)) in
    ap (λ z. z ∷ xs) first ∙ ap (λ zs. y ∷ zs) rest

frame_none : (a b : Store) → Frame NoObject NoObject a b → a ≡ b
frame_none a b f = same_objects a b f.long (λ i. same_object (or_nothing (slice_get a i)) (or_nothing (slice_get b i)) (f.same (suc i) (λ n. n)) (f.live (suc i) (λ n. n)))

-- ---- one object takes cells

-- cells from an offset on take these values
abbrev overwrite : ℕ → List CellValue → List CellValue → List CellValue
overwrite f [] xs = xs
overwrite f (v ∷ vs) xs = overwrite (suc f) vs (slice_set xs f v)

overwrite_behind : (f : ℕ) (vs : List CellValue) (x : CellValue) (xs : List CellValue) → overwrite (suc f) vs (x ∷ xs) ≡ x ∷ overwrite f vs xs
overwrite_behind f [] x xs = refl
overwrite_behind f (v ∷ vs) x xs = overwrite_behind (suc f) vs x (slice_set xs f v)

overwrite_all : (vs xs : List CellValue) → length xs ≡ length vs → overwrite 0 vs xs ≡ vs
overwrite_all [] [] e = refl
overwrite_all [] (x ∷ xs) e = absurd (omega (arith, e))
overwrite_all (v ∷ vs) [] e = absurd (omega (arith, e))
overwrite_all (v ∷ vs) (x ∷ xs) e = overwrite_behind 0 vs v xs ∙ ap (λ ys. v ∷ ys) (overwrite_all vs xs (omega (arith, e)))

abbrev written : ℕ → ℕ → List CellValue → Store → Store
written o f [] st = st
written o f (v ∷ vs) st = written o (suc f) vs (with_cell st (record { object = o; offset = f }) v)

cells_there : (store : Store) (i f : ℕ) (v : CellValue) → (or_nothing (slice_get (slice_set store i (record (or_nothing (slice_get store i)) { cells = slice_set (or_nothing (slice_get store i)).cells f v })) i)).cells ≡ slice_set (or_nothing (slice_get store i)).cells f v
cells_there [] i f v = refl
cells_there (x ∷ xs) zero f v = refl
cells_there (x ∷ xs) (suc i) f v = cells_there xs i f v

cells_at : (store : Store) (o f : ℕ) (v : CellValue) → (object_at (with_cell store (record { object = o; offset = f }) v) o).cells ≡ slice_set (object_at store o).cells f v
cells_at store zero f v = refl
cells_at store (suc i) f v = cells_there store i f v

written_cells : (o f : ℕ) (vs : List CellValue) (st : Store) → (object_at (written o f vs st) o).cells ≡ overwrite f vs (object_at st o).cells
written_cells o f [] st = refl
written_cells o f (v ∷ vs) st =
    written_cells o (suc f) vs (with_cell st (record { object = o; offset = f }) v) ∙ ap (overwrite (suc f) vs) (cells_at st o f v)

written_long : (o f : ℕ) (vs : List CellValue) (st : Store) → length (written o f vs st) ≡ length st
written_long o f [] st = refl
written_long o f (v ∷ vs) st = written_long o (suc f) vs (with_cell st (record { object = o; offset = f }) v) ∙ length_set st o _

-- what holds of the objects and doesn't ask for this one's cells
written_keeps : (o f : ℕ) (vs : List CellValue) (P : ℕ → Object → Type 0) → ((x : Object) (c : List CellValue) → P o x → P o (record x { cells = c })) → (st : Store) → ((n : ℕ) → P n (object_at st n)) → (n : ℕ) → P n (object_at (written o f vs st) n)
written_keeps o f [] P blind st all n = all n
written_keeps o f (v ∷ vs) P blind st all n =
    written_keeps o (suc f) vs P blind (with_cell st (record { object = o; offset = f }) v) (at_set P st o _ (blind (object_at st o) _ (all o)) all) n

abbrev taken : ℕ → Store → Store → Store
taken o a b = written o 0 (object_at b o).cells a

taken_cells : (o : ℕ) (a b : Store) → length (object_at a o).cells ≡ length (object_at b o).cells → (object_at (taken o a b) o).cells ≡ (object_at b o).cells
taken_cells o a b e = written_cells o 0 (object_at b o).cells a ∙ overwrite_all (object_at b o).cells (object_at a o).cells e

taken_frame : (o : ℕ) (os : List ℕ) (a b : Store) → Frame (Among (o ∷ os)) NoObject a b → Frame (Among os) NoObject (taken o a b) b
taken_frame o os a b f = record {
  long = written_long o 0 (object_at b o).cells a ∙ f.long;
  wide = λ n. by_object n (ℕ_discrete n o);
  same = λ n out. of_object n out (ℕ_discrete n o);
  live = λ n out. written_keeps o 0 (object_at b o).cells (λ k x. x.live ≡ (object_at b k).live) (λ x c h. h) a (λ k. f.live k (λ z. z)) n;
}
  where
    other : (n : ℕ) → n ≢ o → (object_at (taken o a b) n).cells ≡ (object_at a n).cells
    other n ne = written_keeps o 0 (object_at b o).cells (λ k x. k ≢ o → x.cells ≡ (object_at a k).cells) (λ x c h ne. absurd (ne refl)) a (λ k ne. refl) n ne

    by_object : (n : ℕ) → Dec (n ≡ o) → length (object_at (taken o a b) n).cells ≡ length (object_at b n).cells
    by_object n (yes e) = subst (λ k. length (object_at (taken o a b) k).cells ≡ length (object_at b k).cells) (sym e) (ap length (taken_cells o a b (f.wide o)))
    by_object n (no ne) = ap length (other n ne) ∙ f.wide n

    of_object : (n : ℕ) → (Among os n → ⊥) → Dec (n ≡ o) → (object_at (taken o a b) n).cells ≡ (object_at b n).cells
    of_object n out (yes e) = subst (λ k. (object_at (taken o a b) k).cells ≡ (object_at b k).cells) (sym e) (taken_cells o a b (f.wide o))
    of_object n out (no ne) = other n ne ∙ f.same n (λ z. elim z [ inl e ↦ ne e | inr m ↦ out m ])

-- ---- choices

module _ (cells : Layout) (none : cells 0 ≡ []) (sets : ℕ → Member → Bool) where
  -- some choices lead to this value and change nothing
  record Gives {A : Type 0} (r : Run A) (v : A) : Type 0 where
    cs : List ℤ
    runs : (a : Store) (rest : List ℤ) (s : State) → r (at a (cs ++ rest) s) ≡ Go v (at a rest s)

  member_goes : (set : Member → Bool) (v : CellValue) (b : Bool) → b ≡ true → (a : Store) (rest : List ℤ) (s : State) → either b (done v) stop (at a rest s) ≡ Go v (at a rest s)
  member_goes set v true e a rest s = refl
  member_goes set v false e a rest s = cc

  gives : (o : ℕ) (t : CellType) (v : CellValue) → CellFits cells t v → Within (targets v) (sets o) → Gives (any_value cells (sets o) t) v
  gives o (Integer ty) (Number z) fits inside = record { cs = z ∷ []; runs = λ a rest s. ap (λ w. Go (Number w) (at a rest s)) (wrap_of_value ty z fits) }
  gives o (Integer ty) Null fits inside = absurd fits
  gives o (Integer ty) Invalid fits inside = absurd fits
  gives o (Integer ty) (At p f) fits inside = absurd fits
  gives o Pointer (Number z) fits inside = absurd fits
  gives o Pointer Null fits inside = record { cs = pos 0 ∷ pos 0 ∷ []; runs = member_goes (sets o) Null (sets o member.Null) (inside member.Null refl) }
  gives o Pointer Invalid fits inside = record { cs = pos 1 ∷ pos 0 ∷ []; runs = member_goes (sets o) Invalid (sets o member.Invalid) (inside member.Invalid refl) }
  gives o Pointer (At zero f) fits inside = let e = ap length none in absurd (omega (arith, e, fits.0))
  gives o Pointer (At (suc n) f) fits inside = record {
    cs = pos (suc (suc n)) ∷ pos f ∷ [];
    runs = λ a rest s. ap (λ b. on_member (sets o) (where_so (At (suc n) f) b) done (at a rest s)) (is_offset f (length (cells (suc n))) fits.1)
        ∙ member_goes (sets o) (At (suc n) f) (sets o (member.Object (suc n))) (inside (member.Object (suc n)) (same_number (suc n))) a rest s;
  }
    where
      is_offset : (f g : ℕ) → f ≤ g → nat_le f g ≡ true
      is_offset f g h = grind (arith, h)

      same_number : (m : ℕ) → (m == m) ≡ true
      same_number m = grind arith

  -- choices that give an object these cells
  cells_scattered : (o f : ℕ) (types : List CellType) (vs : List CellValue) → CellsFit cells types vs → CellsIn (sets o) vs → (cs : List ℤ) × ((a : Store) (rest : List ℤ) (s : State) → scatter_cells cells (sets o) o f types (at a (cs ++ rest) s) ≡ Go tt (at (written o f vs a) rest s))
  cells_scattered o f [] [] fit inside = ([], λ a rest s. refl)
  cells_scattered o f [] (v ∷ vs) fit inside = absurd fit
  cells_scattered o f (t ∷ types) [] fit inside = absurd fit
  cells_scattered o f (t ∷ types) (v ∷ vs) fit inside =
      let first = gives o t v fit.0 inside.0 in
      let more = cells_scattered o (suc f) types vs fit.1 inside.1 in (
        first.cs ++ more.0,
        λ a rest s.
            ap (λ cs. scatter_cells cells (sets o) o f (t ∷ types) (at a cs s)) (append_assoc first.cs more.0 rest)
            ∙ ap (λ r. on_go r (λ w. and_then (write (record { object = o; offset = f }) w) (λ u. scatter_cells cells (sets o) o (suc f) types))) (first.runs a (more.0 ++ rest) s)
            ∙ more.1 (with_cell a (record { object = o; offset = f }) v) rest s,
      )

  -- choices that make the one store the other
  pub scattered : (os : List ℕ) (a b : Store) → Frame (Among os) NoObject a b → StoreFits cells b → InSets sets b → (cs : List ℤ) × ((rest : List ℤ) (s : State) → scatter cells sets os (at a (cs ++ rest) s) ≡ Go tt (at b rest s))
  scattered [] a b frame fit inside = ([], λ rest s. ap (λ st. Go tt (at st rest s)) (frame_none a b frame))
  scattered (o ∷ os) a b frame fit inside =
      let first = cells_scattered o 0 (cells o) (object_at b o).cells (fit.cells o) (inside.cells o) in
      let more = scattered os (taken o a b) b (taken_frame o os a b frame) fit inside in (
        first.0 ++ more.0,
        λ rest s.
            ap (λ cs. scatter cells sets (o ∷ os) (at a cs s)) (append_assoc first.0 more.0 rest)
            ∙ ap (λ r. on_go r (λ u. scatter cells sets os)) (first.1 a (more.0 ++ rest) s)
            ∙ more.1 rest s,
      )

  -- a back start comes to each store that differs at most at the loop's objects, and where the loop may start
  pub back_comes : (mods : ℕ → List ℕ) (starts : ℕ → Store → Bool) (l : ℕ) (a b : Store) → Frame (Among (mods l)) NoObject a b → StoreFits cells b → InSets sets b → starts l b ≡ true → Simulates (λ y w. back cells sets mods starts l) a b tt
  back_comes mods starts l a b frame fit inside ok =
      let s = scattered (mods l) a b frame fit inside in
      record { cs = s.0; runs = λ y w rest t. ap (λ r. on_go r (λ u p. either (starts l p.store) (done tt) stop p)) (s.1 rest t) ∙ ap (λ ok. either ok (done tt) stop (at b rest t)) ok }
