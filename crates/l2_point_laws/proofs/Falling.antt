-- A run that fails a row comes to an end of a turn where this row doesn't hold.
use Rattle.std.proofs.Common.{◌≡◌, ℕ, zero, suc, ◌+◌, ℤ, Bool, true, false, List, [], ◌∷◌, ◌++◌, length, map, inl, inr, refl, sym, ap, ◌∙◌, subst, if◌then◌else◌, arith}
use Rattle.std.specs.Prelude.{◌==◌, slice_get}
use Rattle.l2_runs.specs.declared.member.Member.{Member}
use Rattle.l2_runs.specs.Numbers.{at_number}
use Rattle.l2_runs.specs.Store.{Store}
use Rattle.l2_runs.specs.Runs.{Over, Fallen, Result, Go, Halt, on_go, demand}
use Rattle.l2_runs.specs.Loops.{numbered, events}
use Rattle.l2_run_laws.specs.Watches.{alone}
use Rattle.l2_run_laws.proofs.CutRuns.{EndsIn}
use Rattle.l2_run_laws.proofs.Agreeing.{FallsNow, Alike, TestsAgree}
use Rattle.l2_program.specs.Programs.{ProgramTree}
use Rattle.l2_templates.specs.declared.form.Row.{Row}
use Rattle.l2_templates.specs.declared.point.LoopPoint.{LoopPoint}
use Rattle.l2_templates.specs.declared.point.LoopPoint.TheVariants.{Bottom, Rows}
use Rattle.l2_meaning.specs.Execution.{cells_of, calls_of, run_program, main_among}
use Rattle.l2_cuts.specs.Points.{point_at, row_test, rows_of, starts}
use Rattle.l2_cuts.specs.Cuts.{mods_of, cut_limit, rows_at, row_end}
use Rattle.l2_cuts.specs.Strongest.{before_rows, Reaches, passes_row, row_passes}
use Rattle.l2_cut_laws.proofs.Following.{start, end_of, ends_in}
use Rattle.l2_cut_laws.proofs.Consequences.{agreeing}
use Rattle.l2_point_laws.proofs.Rows.{FailsFirst, Blames}
use Rattle.l2_point_laws.proofs.TreeRows.{back_rows, main_rows}
use Rattle.l2_point_laws.proofs.Reaching.{same_number, equal_numbers}

-- ---- the row that fails

abbrev up : ℕ → ℕ → ℕ
up zero n = n
up (suc i) n = up i (suc n)

up_is : (i n : ℕ) → up i n ≡ i + n
up_is zero n = omega arith
up_is (suc i) n = let e = up_is i (suc n) in omega (arith, e)

-- the row of this number is there and doesn't hold
record IsFailed (rows : List Row) (n : ℕ) (b : Store) (row : ℕ) : Type 0 where
  index : ℕ
  number : row ≡ up index n
  failed : passes_row (slice_get rows index) b ≡ false

failed_row : (n : ℕ) (rows : List Row) (a b : Store) (row : ℕ) → FailsFirst (numbered n (map row_test rows)) a b row → IsFailed rows n b row
failed_row n [] a b row h = absurd h
failed_row n (r ∷ rows) a b row (inl h) = record { index = zero; number = sym h.1; failed = h.0 }
failed_row n (r ∷ rows) a b row (inr h) = let k = failed_row (suc n) rows a b row h.1 in record { index = suc k.index; number = k.number; failed = k.failed }

fails_row : (q : LoopPoint) (a b : Store) (row : ℕ) → FailsFirst (rows_of q) a b row → row_passes q row b ≡ false
fails_row Bottom a b row h = refl
fails_row (Rows rows) a b row h =
    let k = failed_row 1 rows a b row h in
    let e : row ≡ suc k.index = k.number ∙ (let u = up_is k.index 1 in omega (arith, u)) in
    subst (λ n. passes_row (at_number rows n) b ≡ false) (sym e) k.failed

-- ---- runs

module _ (p : ProgramTree) (sets : ℕ → Member → Bool) (k : ℕ) (q : List LoopPoint) (l row : ℕ) where
  abbrev passes : Store → Bool
  passes st = row_passes (point_at q l) row st

  abbrev Asked : ℕ → ℕ → Type 0
  Asked m n = (m ≡ l) × (n ≡ length (rows_at q l) + 1)

  asked : TestsAgree Asked (before_rows q l passes) (alone (rows_at q))
  asked false m a s = inl refl
  asked true m a s = by_loop (m == l) refl
    where
      by_pass : m ≡ l → (ok : Bool) → Alike Asked true (on_go (demand true (Fallen m (length (rows_at q m) + 1)) ok s) (λ u. events true m (rows_at q m) a)) (events true m (rows_at q m) a s)
      by_pass e true = inl refl
      by_pass e false = inr (refl, (e, ap (λ i. length (rows_at q i) + 1) e))

      by_loop : (x : Bool) → (m == l) ≡ x → Alike Asked true (events true m ((if x then record { row = length (rows_at q m) + 1; holds = λ old new. passes new } ∷ [] else []) ++ rows_at q m) a s) (events true m (rows_at q m) a s)
      by_loop false e = inl refl
      by_loop true e = by_pass (equal_numbers m l e) (passes s.store)

  module _ (cs : List ℤ) where
    abbrev x : Result (Unit {0})
    x = run_program p (cut_limit p sets k q) (before_rows q l passes) (start p cs 0)

    abbrev y : Result (Unit {0})
    y = run_program p (cut_limit p sets k q) (alone (rows_at q)) (start p cs 0)

    blamed : Blames (before_rows q l passes) x
    blamed =
        (main_rows (before_rows q l passes) (cut_limit p sets k q) (back_rows (before_rows q l passes) (cells_of p) sets (mods_of p) (starts q)) true (cells_of p)
        (calls_of p (cut_limit p sets k q) (before_rows q l passes) (length p.functions)) (main_among p.names p.functions)).by (start p cs 0)

    abbrev last : ℕ
    last = length (rows_at q l) + 1

    same_end : (r : Result (Unit {0})) → Blames (before_rows q l passes) r → EndsIn r (Fallen l row) → EndsIn r (Fallen l last)
    same_end (Go u s) b h = absurd h
    same_end (Halt e s) b h = h ∙ by_blame (subst (λ e. Blames {A = Unit {0}} (before_rows q l passes) (Halt e s)) h b)
      where
        by_test : (a : Store) → FailsFirst (before_rows q l passes true l) a s.store row → Fallen l row ≡ Fallen l last
        by_test a f = go (l == l) (same_number l) f
          where
            go : (t : Bool) → t ≡ true → FailsFirst ((if t then record { row = length (rows_at q l) + 1; holds = λ old new. passes new } ∷ [] else []) ++ rows_at q l) a s.store row → Fallen l row ≡ Fallen l last
            go true e (inl f) = ap (λ n. Fallen l n) (sym f.1)
            go true e (inr f) = let no' = fails_row (point_at q l) a s.store row f.1 in let c : false ≡ true = sym no' ∙ f.0 in cc
            go false e f = cc

        by_blame : Blames {A = Unit {0}} (before_rows q l passes) (Halt (Fallen l row) s) → Fallen l row ≡ Fallen l last
        by_blame (a, f) = by_test a f

    asked_end : (r : Result (Unit {0})) → FallsNow Asked r → EndsIn r (Fallen l last)
    asked_end (Go u s) h = absurd h
    asked_end (Halt (Over o) s) h = absurd h
    asked_end (Halt (Fallen m n) s) h = ap (λ i. Fallen i n) h.0 ∙ ap (λ i. Fallen l i) h.1

    comes : row_end p sets k q cs ≡ Fallen l row → EndsIn x (Fallen l last)
    comes h = elim (agreeing p (cut_limit p sets k q) Asked (before_rows q l passes) (alone (rows_at q)) asked cs 0) [
      | inl e ↦ same_end x blamed (subst (λ r. EndsIn r (Fallen l row)) (sym e) (ends_in cs 0 y (Fallen l row) (λ e. cc) h))
      | inr f ↦ asked_end x f.1
    ]

pub falling : (p : ProgramTree) (sets : ℕ → Member → Bool) (k : ℕ) (q : List LoopPoint) (l row : ℕ) (cs : List ℤ) → row_end p sets k q cs ≡ Fallen l row → Reaches p sets k q l (row_passes (point_at q l) row)
falling p sets k q l row cs h = (cs, end_of cs 0 (x p sets k q l row cs) (Fallen l (last p sets k q l row cs)) (comes p sets k q l row cs h))
