-- The code of a lawful program is never stuck.
use Rattle.std.proofs.Common.{◌≡◌, ℕ, zero, suc, ◌+◌, ◌<◌, ◌≤◌, ℤ, pos, negsuc, Bool, true, false, List, [], ◌∷◌, length, Option, Some, None, refl, sym, subst, arith, inl, inr}
use Rattle.std.specs.Prelude.{nat_le, ◌==◌, IfSome, if◌then◌else◌}
use Rattle.std.specs.Ordering.{int_eq}
use Rattle.std.proofs.lemmas.Bool.Decides.{nat_tests}
use Rattle.l2_bits.specs.Values.{wrap}
use Rattle.l2_bits.proofs.Wraps.{wrap_value}
use Rattle.l2_runs.specs.declared.cells.CellType.{CellType}
use Rattle.l2_runs.specs.declared.cells.CellType.TheVariants.{Integer, Pointer}
use Rattle.l2_runs.specs.declared.cells.CellValue.{CellValue}
use Rattle.l2_runs.specs.declared.cells.CellValue.TheVariants.{Number, Null, Invalid, At}
use Rattle.l2_runs.specs.declared.member.Member.TheVariants as member
use Rattle.l2_runs.specs.declared.outcome.Outcome.TheVariants.{Stopped}
use Rattle.l2_runs.specs.Numbers.{at_number, numbers_where}
use Rattle.l2_runs.specs.Store.{Store}
use Rattle.l2_runs.specs.Fits.{Layout, CellFits, StoreFits}
use Rattle.l2_runs.specs.Members.{is_in}
use Rattle.l2_runs.specs.Runs.{End, Over, Fallen, Result, Go, Halt, Run, and_then, done, stop, either, choose}
use Rattle.l2_runs.specs.Loops as loops
use Rattle.l2_runs.specs.Loops.{Limit, Tests}
use Rattle.l2_runs.specs.Back.{where_so, pointer_of, on_member, any_value, scatter_cells, scatter, back}
use Rattle.l2_runs.proofs.Stores.{from, from_next, fits_seam}
use Rattle.l2_program.specs.Names.{loops_in}
use Rattle.l2_program.specs.Programs.{ProgramTree}
use Rattle.l2_program.specs.declared.program.LoopInfo.{LoopInfo}
use Rattle.l2_meaning.specs.Execution.{cells_of}
use Rattle.l2_meaning.specs.Lawful.{IsLawful, IsIn}
use Rattle.l2_meaning.proofs.Starts as starts
use Rattle.l2_code.specs.declared.code.CodeObject.{CodeObject}
use Rattle.l2_code.specs.Values.{Types}
use Rattle.l2_code.specs.Sets.{Family, HasCell, IsResolved}
use Rattle.l2_code.specs.Modes.{object_cells, types_of, mods_of, start, Mode, Real, Short, Cut, limit_of, run_code}
use Rattle.l2_code.specs.WellFormed.{IsStuck, All as AllOf}
use Rattle.l2_lower.specs.Code.{code}
use Rattle.l2_lower.proofs.Matches.{AnyTwo, Matches, then_matches, weaker_matches, done_matches, over_matches, either_matches, choose_matches, write_matches}
use Rattle.l2_lower.proofs.MatchLoops.{AreFine, StartsAlike}
use Rattle.l2_lower.proofs.ProgramRuns.{program_types, EndsFine, run_agrees}
use Rattle.l2_lower.proofs.Executions.{start_same}

-- an end that isn't that of a stuck run
abbrev pub IsUnstuck : End → Type 0
IsUnstuck (Over o) = Unit {0}
IsUnstuck (Fallen zero row) = ⊥
IsUnstuck (Fallen (suc l) row) = Unit {0}

-- ---- back starts

module _ (cells : Layout) (f : Family) (over : (n o : ℕ) → f.object n (member.Object o) ≡ true → 0 < length (cells o)) where
  -- a run does what it does, and gives what is so
  abbrev Self : {A : Type 0} → (A → Type 0) → Run A → Type 0
  Self P r = Matches cells IsUnstuck (λ a b. (a ≡ b) × P a) r r

  self_then : {A B : Type 0} {P : A → Type 0} {Q : B → Type 0} {r : Run A} {h : A → Run B} → Self P r → ((a : A) → P a → Self Q (h a)) → Self Q (and_then r h)
  self_then {Q = Q} {h = h} m next = then_matches cells IsUnstuck m (λ a b p. subst (λ z. Matches cells IsUnstuck (λ x y. (x ≡ y) × Q x) (h a) (h z)) p.0 (next a p.1))

  self_done : {A : Type 0} {P : A → Type 0} (a : A) → P a → Self P (done a)
  self_done a p = done_matches cells IsUnstuck a a (refl, p)

  self_choose : Self (λ z. Unit {0}) choose
  self_choose = weaker_matches cells IsUnstuck (choose_matches cells IsUnstuck tt) (λ a b p. (p, tt))

  abbrev Near : CellValue → Type 0
  Near (Number z) = ⊥
  Near Null = Unit {0}
  Near Invalid = Unit {0}
  Near (At o i) = i ≤ length (cells o)

  near_where : (v : CellValue) (b : Bool) → (b ≡ true → Near v) → IfSome (where_so v b) Near
  near_where v true h = h refl
  near_where v false h = tt

  le_of : (a b : ℕ) → nat_le a b ≡ true → a ≤ b
  le_of a b e = grind (arith, nat_tests)

  pointer_near : (sel off : ℤ) → IfSome (pointer_of cells sel off) Near
  pointer_near (pos zero) off = near_where Null (int_eq off (pos 0)) (λ e. tt)
  pointer_near (pos (suc zero)) off = near_where Invalid (int_eq off (pos 0)) (λ e. tt)
  pointer_near (pos (suc (suc n))) (pos i) = near_where (At (suc n) i) (nat_le i (length (cells (suc n)))) (λ e. le_of i (length (cells (suc n))) e)
  pointer_near (pos (suc (suc n))) (negsuc i) = tt
  pointer_near (negsuc n) off = tt

  near_fits : (n : ℕ) (v : CellValue) → Near v → is_in (f.object n) v ≡ true → CellFits cells Pointer v
  near_fits n (Number z) h e = absurd h
  near_fits n Null h e = tt
  near_fits n Invalid h e = tt
  near_fits n (At o i) h e = (over n o e, h)

  member_self : (n : ℕ) (x : Option CellValue) → IfSome x Near → Self (CellFits cells Pointer) (on_member (f.object n) x done)
  member_self n None h = over_matches cells IsUnstuck (Over Stopped) tt
  member_self n (Some v) h = go (is_in (f.object n) v) refl where
    go : (t : Bool) → is_in (f.object n) v ≡ t → Self (CellFits cells Pointer) (either t (done v) stop)
    go true e = record { by = λ s k. ((refl, near_fits n v h e), refl, k) }
    go false e = record { by = λ s k. (refl, refl, tt) }

  value_self : (n : ℕ) (t : CellType) → Self (CellFits cells t) (any_value cells (f.object n) t)
  value_self n (Integer ty) = self_then self_choose (λ z p. self_done (Number (wrap ty z)) (wrap_value ty z))
  value_self n Pointer = self_then self_choose (λ sel p. self_then self_choose (λ off q. member_self n (pointer_of cells sel off) (pointer_near sel off)))

  cells_self : (n i : ℕ) (ts : List CellType) → from i (cells n) ≡ ts → Self (λ u. Unit {0}) (scatter_cells cells (f.object n) n i ts)
  cells_self n i [] e = self_done tt tt
  cells_self n i (t ∷ ts) e = self_then (value_self n t)
      (λ v p. self_then {P = λ u. Unit {0}} (weaker_matches cells IsUnstuck (write_matches cells IsUnstuck (record { object = n; offset = i }) v (fits_seam cells (cells n) i t ts v e p)) (λ a b q. (refl, tt))) (λ u q. cells_self n (suc i) ts (from_next (cells n) i t ts e)))

  scatter_self : (ns : List ℕ) → Self (λ u. Unit {0}) (scatter cells f.object ns)
  scatter_self [] = self_done tt tt
  scatter_self (n ∷ ns) = self_then (cells_self n 0 (cells n) refl) (λ u p. scatter_self ns)

  passes_self : (t : Bool) → Self (λ u. Unit {0}) (either {A = Unit {0}} t (done tt) stop)
  passes_self t = either_matches cells IsUnstuck t (self_done tt tt) (over_matches cells IsUnstuck (Over Stopped) tt)

  pub back_starts : (mods : ℕ → List ℕ) (test : ℕ → Store → Bool) (l : ℕ) → Matches cells IsUnstuck AnyTwo (back cells f.object mods test l) (back cells f.object mods test l)
  back_starts mods test l = weaker_matches cells IsUnstuck (self_then {Q = λ u. Unit {0}} (scatter_self (mods l)) (λ u p. record { by = λ s k. (passes_self (test l s.store)).by s k })) (λ a b p. tt)

-- ---- numbers

with_first : (P : ℕ → Type 0) (n : ℕ) (b : Bool) (ns : List ℕ) → P n → AllOf P ns → AllOf P (if b then n ∷ ns else ns)
with_first P n true ns p q = (p, q)
with_first P n false ns p q = q

-- what holds of each number from n on holds of those that pass a test
pub numbers_all : {A : Type 0} (P : ℕ → Type 0) (f : A → Bool) (n : ℕ) (xs : List A) → ((i : ℕ) → i < length xs → P (n + i)) → AllOf P (numbers_where f n xs)
numbers_all P f n [] h = tt
numbers_all P f n (x ∷ xs) h =
    with_first P n (f x) (numbers_where f (suc n) xs) (let e : n + 0 ≡ n = omega arith in subst P e (h 0 (omega arith)))
    (numbers_all P f (suc n) xs (λ i l. let e : n + (i + 1) ≡ suc n + i = omega arith in subst P e (h (i + 1) (omega arith))))

pub all_in : (P : ℕ → Type 0) (xs : List ℕ) (l : ℕ) → AllOf P xs → IsIn l xs → P l
all_in P [] l h k = absurd k
all_in P (x ∷ xs) l (p, q) (inl e) = subst P (sym e) p
all_in P (x ∷ xs) l (p, q) (inr k) = all_in P xs l q k

-- ---- lawful programs

cells_there : (o : Option CodeObject) → HasCell o → 0 < length (object_cells o)
cells_there None h = absurd h
cells_there (Some o) h = h

unstuck : (layout : Layout) (x : Result (Unit {0})) → EndsFine layout IsUnstuck x → ¬ IsStuck x
unstuck layout (Go u s) h k = h
unstuck layout (Halt (Over o) s) h k = k
unstuck layout (Halt (Fallen zero row) s) h k = h
unstuck layout (Halt (Fallen (suc l) row) s) h k = k

module _ (p : ProgramTree) (lawful : IsLawful p) (f : Family) (resolved : IsResolved (code p) f) where
  over : (n o : ℕ) → f.object n (member.Object o) ≡ true → 0 < length (cells_of p o)
  over n o e = subst (λ (t : Types). 0 < length (t.objects o)) (program_types p) (cells_there (at_number (code p).objects o) (resolved.over.objects n o e))

  -- the limit, where the types of the objects are these
  abbrev limit_over : Types → Mode → Limit
  limit_over t Real = loops.Real
  limit_over t (Short k) = loops.Short k
  limit_over t (Cut k test) = loops.Cut k (back t.objects f.object (mods_of (code p)) test)

  starts_over : (mode : Mode) → StartsAlike (cells_of p) IsUnstuck (limit_over (record { objects = cells_of p; pointed = (types_of (code p)).pointed }) mode)
  starts_over Real = tt
  starts_over (Short k) = tt
  starts_over (Cut k test) = back_starts (cells_of p) f over (mods_of (code p)) test

  limit_is : (mode : Mode) → limit_of (code p) f mode ≡ limit_over (types_of (code p)) mode
  limit_is Real = refl
  limit_is (Short k) = refl
  limit_is (Cut k test) = refl

  limit_starts : (mode : Mode) → StartsAlike (cells_of p) IsUnstuck (limit_of (code p) f mode)
  limit_starts mode = subst (λ limit. StartsAlike (cells_of p) IsUnstuck limit) (sym (limit_is mode)) (subst (λ (t : Types). StartsAlike (cells_of p) IsUnstuck (limit_over t mode)) (sym (program_types p)) (starts_over mode))

  loops_fine : (l : ℕ) → IsIn l (loops_in lawful.main_function.body) → AreFine (cells_of p) IsUnstuck l
  loops_fine l h =
      let main = lawful.functions lawful.main lawful.main_function lawful.has_main in
      fine l (all_in (λ n. 1 ≤ n) (loops_in lawful.main_function.body) l (subst (λ ls. AllOf (λ n. 1 ≤ n) ls) main.loops (numbers_all (λ n. 1 ≤ n) (λ (l : LoopInfo). l.function == lawful.main) 1 p.loops (λ i q. omega arith))) h) where
        fine : (l : ℕ) → 1 ≤ l → AreFine (cells_of p) IsUnstuck l
        fine zero q = absurd (omega arith)
        fine (suc l) q = record { over = λ o. tt; fallen = λ row. tt }

  start_fits : (choices : List ℤ) (turns : ℕ) → StoreFits (cells_of p) (start (code p) choices turns).store
  start_fits choices turns = subst (λ store. StoreFits (cells_of p) store) (sym (start_same p)) (starts.first_fits p lawful)

  pub never_stuck : (mode : Mode) (tests : Tests) (choices : List ℤ) (turns : ℕ) → ¬ IsStuck (run_code (code p) (limit_of (code p) f mode) tests (start (code p) choices turns))
  never_stuck mode tests choices turns =
      unstuck (cells_of p) (run_code (code p) (limit_of (code p) f mode) tests (start (code p) choices turns))
      (run_agrees IsUnstuck (λ o. tt) p lawful (limit_of (code p) f mode) tests (limit_starts mode) loops_fine (start (code p) choices turns) (start_fits choices turns)).1
