-- Where the point infers, no turn is so, or some turn is.
use Rattle.std.proofs.Common.{◌≡◌, ℕ, zero, suc, ◌+◌, ◌<◌, ◌≤◌, ℤ, Bool, true, false, List, [], ◌∷◌, ◌++◌, length, inl, inr, ◌⊎◌, refl, sym, ap, ◌∙◌, subst, if◌then◌else◌, arith}
use Rattle.std.specs.Prelude.{◌==◌, not}
use Rattle.l2_runs.specs.declared.member.Member.{Member}
use Rattle.l2_runs.specs.Store.{Store}
use Rattle.l2_runs.specs.Runs.{Over, Fallen, Result, Go, Halt, on_go, demand}
use Rattle.l2_runs.specs.Loops.{numbered, events}
use Rattle.l2_run_laws.specs.Watches.{HoldAll, alone}
use Rattle.l2_run_laws.proofs.CutRuns.{EndsIn}
use Rattle.l2_run_laws.proofs.Judging.{FailsAt, hold_alone, hold_before, judge}
use Rattle.l2_run_laws.proofs.Agreeing.{FallsNow, Alike, TestsAgree, NoneOf, falls_so}
use Rattle.l2_program.specs.Programs.{ProgramTree}
use Rattle.l2_templates.specs.declared.point.LoopPoint.{LoopPoint}
use Rattle.l2_templates.specs.declared.point.LoopPoint.TheVariants.{Bottom, Rows}
use Rattle.l2_meaning.specs.Execution.{cells_of, calls_of, run_program, main_among}
use Rattle.l2_cuts.specs.Points.{point_at, row_test, rows_of, starts}
use Rattle.l2_cuts.specs.Cuts.{mods_of, cut_limit, rows_at, watch, watched, cut_end, row_end, Infers}
use Rattle.l2_cuts.specs.Rankings.{unless_so, NoTurn, SomeTurn}
use Rattle.l2_cut_laws.proofs.Following.{start, end_of, ends_in, fell, is_fallen}
use Rattle.l2_cut_laws.proofs.Consequences.{agreeing}
use Rattle.l2_point_laws.proofs.Rows.{FailsFirst, Blames}
use Rattle.l2_point_laws.proofs.TreeRows.{back_rows, main_rows}
use Rattle.l2_point_laws.proofs.Reaching.{equal_numbers}

module _ (p : ProgramTree) (sets : ℕ → Member → Bool) (k : ℕ) (q : List LoopPoint) (l : ℕ) (so : Store → Store → Bool) where
  abbrev last : ℕ → ℕ
  last m = length (rows_at q m) + 1

  -- the watch of this loop's turns
  abbrev Asked : ℕ → ℕ → Type 0
  Asked m n = (m ≡ l) × (n ≡ last l)

  asked : TestsAgree Asked (watched q (unless_so l so)) (alone (rows_at q))
  asked false m a s = inl refl
  asked true m a s = by_rows (judge m a s.store (rows_at q m))
    where
      by_pass : m ≡ l → (ok : Bool) → Alike Asked true (on_go (demand true (Fallen m (last m)) ok s) (λ u. events true m [] a)) (events true m [] a s)
      by_pass e true = inl refl
      by_pass e false = inr (refl, (e, ap last e))

      by_loop : (x : Bool) → (m == l) ≡ x → Alike Asked true (on_go (demand true (Fallen m (last m)) (if x then not (so a s.store) else true) s) (λ u. events true m [] a)) (events true m [] a s)
      by_loop false e = inl refl
      by_loop true e = by_pass (equal_numbers m l e) (not (so a s.store))

      by_rows : HoldAll (rows_at q m) a s.store ⊎ FailsAt m a s.store (rows_at q m) → Alike Asked true (events true m (rows_at q m ++ watch q (unless_so l so) m) a s) (events true m (rows_at q m) a s)
      by_rows (inr f) = inl (f.before (watch q (unless_so l so) m) s.choices s ∙ sym (f.alone s.choices s))
      by_rows (inl h) =
          subst (λ r. Alike Asked true r (events true m (rows_at q m) a s)) (sym (hold_before m a s.store true (rows_at q m) (watch q (unless_so l so) m) h s.choices s))
          (subst (λ r. Alike Asked true (events true m (watch q (unless_so l so) m) a s) r) (sym (hold_alone m a s.store true (rows_at q m) h s.choices s)) (by_loop (m == l) refl))

  module _ (cs : List ℤ) where
    abbrev x : Result (Unit {0})
    x = run_program p (cut_limit p sets k q) (watched q (unless_so l so)) (start p cs 0)

    abbrev y : Result (Unit {0})
    y = run_program p (cut_limit p sets k q) (alone (rows_at q)) (start p cs 0)

    asked_end : (r : Result (Unit {0})) → FallsNow Asked r → EndsIn r (Fallen l (last l))
    asked_end (Go u s) h = absurd h
    asked_end (Halt (Over o) s) h = absurd h
    asked_end (Halt (Fallen m n) s) h = ap (λ i. Fallen i n) h.0 ∙ ap (λ i. Fallen l i) h.1

  -- where the point infers and no turn is so, every turn passes
  pub no_turn : Infers p sets k q → ¬ SomeTurn p sets k q l so → NoTurn p sets k q l so
  no_turn infers none cs h =
      let f = fell cs 0 (x cs) h in
      elim (agreeing p (cut_limit p sets k q) Asked (watched q (unless_so l so)) (alone (rows_at q)) asked cs 0) [
        | inl e ↦ infers cs (is_fallen (row_end p sets k q cs) f.0 f.1 (end_of cs 0 (y cs) (Fallen f.0 f.1) (subst (λ r. EndsIn r (Fallen f.0 f.1)) e f.2)))
        | inr w ↦ none (cs, end_of cs 0 (x cs) (Fallen l (last l)) (asked_end cs (x cs) w.1))
      ]

  -- a turn that is so isn't passed
  pub not_both : NoTurn p sets k q l so → ¬ SomeTurn p sets k q l so
  not_both none some = none some.0 (is_fallen (cut_end p sets k q (watched q (unless_so l so)) some.0) l (last l) some.1)

-- ---- what is never so

numbers : (n : ℕ) (hs : List (Store → Store → Bool)) (a b : Store) (row : ℕ) → FailsFirst (numbered n hs) a b row → row < n + length hs
numbers n [] a b row h = absurd h
numbers n (t ∷ hs) a b row (inl h) = let e = h.1 in omega (arith, e)
numbers n (t ∷ hs) a b row (inr h) = let k = numbers (suc n) hs a b row h.1 in omega (arith, k)

length-numbered : (n : ℕ) (hs : List (Store → Store → Bool)) → length (numbered n hs) ≡ length hs
length-numbered n [] = refl
length-numbered n (t ∷ hs) = let e = length-numbered (suc n) hs in omega (arith, e)

few_rows : (q : LoopPoint) (a b : Store) → ¬ FailsFirst (rows_of q) a b (length (rows_of q) + 1)
few_rows Bottom a b (inl h) = let e = h.1 in omega (arith, e)
few_rows Bottom a b (inr h) = h.1
few_rows (Rows rows) a b h =
    let e = length-numbered 1 (Rattle.std.proofs.Common.map row_test rows) in
    let k = numbers 1 (Rattle.std.proofs.Common.map row_test rows) a b (length (numbered 1 (Rattle.std.proofs.Common.map row_test rows)) + 1) h in omega (arith, e, k)

module _ (p : ProgramTree) (sets : ℕ → Member → Bool) (k : ℕ) (q : List LoopPoint) (l : ℕ) (so : Store → Store → Bool) (never : (a b : Store) → so a b ≡ false) where
  quiet : TestsAgree NoneOf (watched q (unless_so l so)) (alone (rows_at q))
  quiet false m a s = inl refl
  quiet true m a s = by_rows (judge m a s.store (rows_at q m))
    where
      passes : (x : Bool) (y : Bool) → y ≡ false → (if x then not y else true) ≡ true
      passes true y e = ap not e
      passes false y e = refl

      by_rows : HoldAll (rows_at q m) a s.store ⊎ FailsAt m a s.store (rows_at q m) → Alike NoneOf true (events true m (rows_at q m ++ watch q (unless_so l so) m) a s) (events true m (rows_at q m) a s)
      by_rows (inr f) = inl (f.before (watch q (unless_so l so) m) s.choices s ∙ sym (f.alone s.choices s))
      by_rows (inl h) = inl (hold_before m a s.store true (rows_at q m) (watch q (unless_so l so) m) h s.choices s
          ∙ hold_alone m a s.store true (watch q (unless_so l so) m) (passes (m == l) (so a s.store) (never a s.store), tt) s.choices s
          ∙ sym (hold_alone m a s.store true (rows_at q m) h s.choices s))

  blamed : (r : Result (Unit {0})) → Blames (alone (rows_at q)) r → ¬ EndsIn r (Fallen l (length (rows_at q l) + 1))
  blamed (Go u s) b h = h
  blamed (Halt e s) b h = by_blame (subst (λ e. Blames {A = Unit {0}} (alone (rows_at q)) (Halt e s)) h b)
    where
      by_blame : ¬ Blames {A = Unit {0}} (alone (rows_at q)) (Halt (Fallen l (length (rows_at q l) + 1)) s)
      by_blame (a, f) = few_rows (point_at q l) a s.store f

  -- no turn is what none ever is
  pub never_so : ¬ SomeTurn p sets k q l so
  never_so (cs, h) =
      let limit = cut_limit p sets k q in
      let x = run_program p limit (watched q (unless_so l so)) (start p cs 0) in
      let y = run_program p limit (alone (rows_at q)) (start p cs 0) in
      let e = falls_so x y l (length (rows_at q l) + 1) (agreeing p limit NoneOf (watched q (unless_so l so)) (alone (rows_at q)) quiet cs 0) (ends_in cs 0 x (Fallen l (length (rows_at q l) + 1)) (λ e. cc) h) in
      blamed y ((main_rows (alone (rows_at q)) limit (back_rows (alone (rows_at q)) (cells_of p) sets (mods_of p) (starts q)) true (cells_of p) (calls_of p limit (alone (rows_at q)) (length p.functions)) (main_among p.names p.functions)).by (start p cs 0)) e
