-- What runs under a stronger point come to holds at a weaker one that infers.
use Rattle.std.proofs.Common.{◌≡◌, ℕ, suc, ◌+◌, ◌<◌, Bool, true, false, List, [], ◌∷◌, ◌++◌, length, map, ◌⊎◌, inl, inr, refl, sym, ap, ◌∙◌, subst, if◌then◌else◌, arith}
use Rattle.std.specs.Prelude.{◌==◌}
use Rattle.l2_runs.specs.declared.member.Member.{Member}
use Rattle.l2_runs.specs.declared.outcome.Outcome.TheVariants.{Stopped}
use Rattle.l2_runs.specs.Store.{Store}
use Rattle.l2_runs.specs.Runs.{State, End, Over, Fallen, Result, Go, Halt, on_go, demand}
use Rattle.l2_runs.specs.Loops.{Test, numbered, events}
use Rattle.l2_runs.specs.Back.{back, scatter}
use Rattle.l2_run_laws.specs.Watches.{HoldAll, alone}
use Rattle.l2_run_laws.proofs.CutRuns.{EndsIn}
use Rattle.l2_run_laws.proofs.Judging.{FailsAt, hold_alone, judge}
use Rattle.l2_run_laws.proofs.Meeting.{HasFallen}
use Rattle.l2_program.specs.Programs.{ProgramTree}
use Rattle.l2_templates.specs.declared.point.LoopPoint.{LoopPoint}
use Rattle.l2_templates.specs.declared.point.LoopPoint.TheVariants.{Bottom, Rows}
use Rattle.l2_templates.specs.Points.{holds, IsStronger}
use Rattle.l2_meaning.specs.Execution.{cells_of, calls_of, run_program, main_among}
use Rattle.l2_cuts.specs.Points.{values_of, point_at, row_test, rows_of, starts}
use Rattle.l2_cuts.specs.Cuts.{mods_of, cut_limit, rows_at, Infers}
use Rattle.l2_cuts.specs.Strongest.{before_rows, Reaches}
use Rattle.l2_cut_laws.proofs.PointFacts.{rows_from, stronger_starts, stronger_tests}
use Rattle.l2_cut_laws.proofs.Following.{start, ends_in, has_fallen}
use Rattle.l2_point_laws.proofs.Weaker.{WeakerAt, then_weaker, same_weaker, start_weaker}
use Rattle.l2_point_laws.proofs.TreeWeaker.{main_weaker}

-- ---- numbers of rows

row_below : (l n : ℕ) (hs : List (Store → Store → Bool)) (a : Store) (s : State) (m row : ℕ) → EndsIn (events true l (numbered n hs) a s) (Fallen m row) → row < n + length hs
row_below l n [] a s m row h = absurd h
row_below l n (f ∷ hs) a s m row h = one (f a s.store) h (λ k. row_below l (suc n) hs a s m row k)
  where
    one : (b : Bool) → EndsIn (on_go (demand true (Fallen l n) b s) (λ u. events true l (numbered (suc n) hs) a)) (Fallen m row) → (EndsIn (events true l (numbered (suc n) hs) a s) (Fallen m row) → row < suc n + length hs) → row < n + suc (length hs)
    one true h rest = let k = rest h in omega (arith, k)
    one false h rest = let e : n ≡ row = ap (number row) h in omega (arith, e)
      where
        number : ℕ → End → ℕ
        number d (Over o) = d
        number d (Fallen l r) = r

numbered_long : (n : ℕ) (hs : List (Store → Store → Bool)) → length (numbered n hs) ≡ length hs
numbered_long n [] = refl
numbered_long n (h ∷ hs) = let e = numbered_long (suc n) hs in omega (arith, e)

rows_below : (q : LoopPoint) (l : ℕ) (a : Store) (s : State) (m row : ℕ) → EndsIn (events true l (rows_of q) a s) (Fallen m row) → row < length (rows_of q) + 1
rows_below Bottom l a s m row h = let e : 0 ≡ row = ap (number row) h in omega (arith, e)
  where
    number : ℕ → End → ℕ
    number d (Over o) = d
    number d (Fallen l r) = r
rows_below (Rows rows) l a s m row h = let k = row_below l 1 (map row_test rows) a s m row h in let e = numbered_long 1 (map row_test rows) in omega (arith, k, e)

-- ---- tests

-- tests that don't count go on, or stop
uncounted : (l : ℕ) (ts : List Test) (a : Store) (s : State) → ((events false l ts a s ≡ Go tt s) × HoldAll ts a s.store) ⊎ (events false l ts a s ≡ Halt (Over Stopped) s)
uncounted l [] a s = inl (refl, tt)
uncounted l (t ∷ ts) a s = one (t.holds a s.store) refl (uncounted l ts a s)
  where
    one : (b : Bool) → t.holds a s.store ≡ b → ((events false l ts a s ≡ Go tt s) × HoldAll ts a s.store) ⊎ (events false l ts a s ≡ Halt (Over Stopped) s) →
        ((on_go (demand false (Fallen l t.row) (t.holds a s.store) s) (λ u. events false l ts a) ≡ Go tt s) × HoldAll (t ∷ ts) a s.store) ⊎ (on_go (demand false (Fallen l t.row) (t.holds a s.store) s) (λ u. events false l ts a) ≡ Halt (Over Stopped) s)
    one true e (inl h) = inl (ap (λ b. on_go (demand false (Fallen l t.row) b s) (λ u. events false l ts a)) e ∙ h.0, (e, h.1))
    one true e (inr h) = inr (ap (λ b. on_go (demand false (Fallen l t.row) b s) (λ u. events false l ts a)) e ∙ h)
    one false e r = inr (ap (λ b. on_go (demand false (Fallen l t.row) b s) (λ u. events false l ts a)) e)

pub same_number : (m : ℕ) → (m == m) ≡ true
same_number m = grind arith

pub equal_numbers : (m l : ℕ) → (m == l) ≡ true → m ≡ l
equal_numbers m l h = grind (arith, h)

module _ (a b : List LoopPoint) (strong : IsStronger a b) (l : ℕ) (passes : Store → Bool) (held : (st : Store) → holds (point_at b l) (values_of st) ≡ true → passes st ≡ true) where
  abbrev Asked : ℕ → ℕ → Type 0
  Asked m row = (m ≡ l) × (row ≡ length (rows_at a l) + 1)

  fell_at : (m : ℕ) (st : Store) (s : State) (ts : List Test) → FailsAt m st s.store ts → HasFallen (events true m ts st s)
  fell_at m st s ts f = subst (λ (x : Result (Unit {0})). HasFallen x) (sym (f.alone s.choices s)) tt

  -- the rows alone
  rows_weaker : (m : ℕ) (st : Store) (s : State) → WeakerAt Asked (events true m (rows_at a m) st s) (events true m (rows_at b m) st s)
  rows_weaker m st s = by_rows (judge m st s.store (rows_at a m))
    where
      by_rows : HoldAll (rows_at a m) st s.store ⊎ FailsAt m st s.store (rows_at a m) → WeakerAt Asked (events true m (rows_at a m) st s) (events true m (rows_at b m) st s)
      by_rows (inl h) = subst (λ x. WeakerAt Asked x (events true m (rows_at b m) st s)) (sym (hold_alone m st s.store true (rows_at a m) h s.choices s))
          (hold_alone m st s.store true (rows_at b m) (stronger_tests a b strong m st s.store h) s.choices s)
      by_rows (inr f) = subst (λ x. WeakerAt Asked x (events true m (rows_at b m) st s)) (sym (f.alone s.choices s)) (λ w. absurd (number w.0 w.1))
        where
          number : m ≡ l → f.row ≡ length (rows_at a l) + 1 → ⊥
          number e n =
              let ends : EndsIn (events true m (rows_at a m) st s) (Fallen m f.row) = subst (λ (x : Result (Unit {0})). EndsIn x (Fallen m f.row)) (sym (f.alone s.choices s)) refl in
              let low = rows_below (point_at a m) m st s m f.row ends in
              let same : length (rows_at a m) ≡ length (rows_at a l) = ap (λ k. length (rows_at a k)) e in
              omega (arith, low, same, n)

  tests_weaker : (y : Bool) (m : ℕ) (st : Store) (s : State) → WeakerAt Asked (events y m (before_rows a l passes y m) st s) (events y m (alone (rows_at b) y m) st s)
  tests_weaker false m st s = by_rows (uncounted m (rows_at a m) st s)
    where
      by_rows : ((events false m (rows_at a m) st s ≡ Go tt s) × HoldAll (rows_at a m) st s.store) ⊎ (events false m (rows_at a m) st s ≡ Halt (Over Stopped) s) → WeakerAt Asked (events false m (rows_at a m) st s) (events false m (rows_at b m) st s)
      by_rows (inl h) = subst (λ x. WeakerAt Asked x (events false m (rows_at b m) st s)) (sym h.0) (hold_alone m st s.store false (rows_at b m) (stronger_tests a b strong m st s.store h.1) s.choices s)
      by_rows (inr h) = subst (λ x. WeakerAt Asked x (events false m (rows_at b m) st s)) (sym h) tt
  tests_weaker true m st s = by_loop (m == l) refl
    where
      by_pass : m ≡ l → (ok : Bool) → passes s.store ≡ ok → WeakerAt Asked (on_go (demand true (Fallen m (length (rows_at a m) + 1)) ok s) (λ u. events true m (rows_at a m) st)) (events true m (rows_at b m) st s)
      by_pass e true p = rows_weaker m st s
      by_pass e false p = λ w. by_rows (judge m st s.store (rows_at b m))
        where
          by_rows : HoldAll (rows_at b m) st s.store ⊎ FailsAt m st s.store (rows_at b m) → HasFallen (events true m (rows_at b m) st s)
          by_rows (inr f) = fell_at m st s (rows_at b m) f
          by_rows (inl h) =
              let at_l : HoldAll (rows_at b l) st s.store = subst (λ k. HoldAll (rows_at b k) st s.store) e h in
              let yes' = held s.store (rows_from (point_at b l) st s.store at_l) in
              let c : false ≡ true = sym p ∙ yes' in
              cc

      by_loop : (x : Bool) → (m == l) ≡ x → WeakerAt Asked (events true m ((if x then record { row = length (rows_at a m) + 1; holds = λ old new. passes new } ∷ [] else []) ++ rows_at a m) st s) (events true m (rows_at b m) st s)
      by_loop false e = rows_weaker m st s
      by_loop true e = by_pass (equal_numbers m l e) (passes s.store) refl

ends_fallen : {A : Type 0} (W : ℕ → ℕ → Type 0) (x y : Result A) (l row : ℕ) → WeakerAt W x y → W l row → EndsIn x (Fallen l row) → HasFallen y
ends_fallen W (Go a s) y l row m w h = absurd h
ends_fallen W (Halt e s) y l row m w h = (subst (λ e. WeakerAt W (Halt e s) y) h m) w

pub reaching : (p : ProgramTree) (sets : ℕ → Member → Bool) (k : ℕ) (a b : List LoopPoint) → IsStronger a b → Infers p sets k b → (l : ℕ) (passes : Store → Bool) → ((st : Store) → holds (point_at b l) (values_of st) ≡ true → passes st ≡ true) → ¬ Reaches p sets k a l passes
reaching p sets k a b strong infers l passes held (cs, h) =
    let x = run_program p (cut_limit p sets k a) (before_rows a l passes) (start p cs 0) in
    let y = run_program p (cut_limit p sets k b) (alone (rows_at b)) (start p cs 0) in
    let W : ℕ → ℕ → Type 0 = Asked a b strong l passes held in
    let m = (main_weaker W k (back (cells_of p) sets (mods_of p) (starts a)) (back (cells_of p) sets (mods_of p) (starts b)) (before_rows a l passes) (alone (rows_at b))
    (λ m. then_weaker W (same_weaker W (scatter (cells_of p) sets (mods_of p m))) (λ u. start_weaker W (starts a m) (starts b m) (stronger_starts a b strong m)))
    (tests_weaker a b strong l passes held) true (cells_of p) (calls_of p (cut_limit p sets k a) (before_rows a l passes) (length p.functions)) (calls_of p (cut_limit p sets k b) (alone (rows_at b)) (length p.functions)) (main_among p.names p.functions)).by (start p cs 0) in
    infers cs (has_fallen cs 0 y (ends_fallen W x y l (length (rows_at a l) + 1) m (refl, refl) (ends_in cs 0 x (Fallen l (length (rows_at a l) + 1)) (λ e. cc) h)))
