-- What follows from the laws: rows hold in real executions, turns are bounded, stronger points keep what weaker ones promise.
use Rattle.std.proofs.Common.{◌≡◌, ℕ, zero, suc, ◌≤◌, ◌<◌, ◌^◌, ◌*◌, ℤ, Bool, true, false, List, length, ◌⊎◌, inl, inr, ap, subst, arith}
use Rattle.l2_runs.specs.declared.member.Member.{Member}
use Rattle.l2_runs.specs.declared.outcome.Outcome.TheVariants.{Broken, OutOfTurns}
use Rattle.l2_runs.specs.Store.{Store}
use Rattle.l2_runs.specs.Runs.{Over, Fallen, Result, Go, Halt}
use Rattle.l2_runs.specs.Loops.{Limit, Real, Tests, no_tests}
use Rattle.l2_runs.specs.Back.{back, scatter}
use Rattle.l2_run_laws.specs.Watches.{HoldAll, alone, with_watches, no_rows}
use Rattle.l2_run_laws.proofs.CutRuns.{EndsIn}
use Rattle.l2_run_laws.proofs.Pointing.{IsSound}
use Rattle.l2_run_laws.proofs.Agreeing.{Any, NoneOf, Alike, TestsAgree, more_agree, twice_agree, falls_so, falls_too, same_or}
use Rattle.l2_run_laws.proofs.Meeting.{HasFallen, MeetsAt, Meets, TestsMeet, then_meets, same_meets, start_meets}
use Rattle.l2_run_laws.proofs.Bounds.{BoundedAt, not_out}
use Rattle.l2_program.specs.Programs.{ProgramTree}
use Rattle.l2_templates.specs.declared.form.Form.{Form}
use Rattle.l2_templates.specs.declared.point.LoopPoint.{LoopPoint}
use Rattle.l2_templates.specs.Points.{meet, AreAlike, IsStronger}
use Rattle.l2_templates.proofs.Strength.{meet_first, meet_second}
use Rattle.l2_meaning.specs.Execution.{cells_of, calls_of, setting_of, enter, run_program, main_among, report, exec, IsBroken, Safe}
use Rattle.l2_meaning.specs.Scopes.{statics_of}
use Rattle.l2_meaning.specs.Pointing.{AreClosed}
use Rattle.l2_meaning.specs.Lawful.{IsLawful}
use Rattle.l2_cuts.specs.Points.{values_of, starts, ranks_at, lowers}
use Rattle.l2_cuts.specs.Cuts.{mods_of, cut_limit, rows_at, watch, watched, only_watched, IsFallen, cut_end, row_end, Infers, Proves, TurnsPass, RankProves}
use Rattle.l2_cuts.specs.Turns.{turns_in, turns_of_main, turns_of, Terminating}
use Rattle.l2_cut_laws.proofs.Starts.{first_sound, fresh_in_sets}
use Rattle.l2_cut_laws.proofs.TreeAgreeing.{main_agrees}
use Rattle.l2_cut_laws.proofs.TreeMeeting.{main_meets}
use Rattle.l2_cut_laws.proofs.TreeBounding.{main_bounded}
use Rattle.l2_cut_laws.proofs.RankNumbers.{store_small, rank_number, rank_below, rank_lower}
use Rattle.l2_cut_laws.proofs.PointFacts.{stronger_starts, meet_tests, stronger_watches, stronger_meets, stronger_tests}
use Rattle.l2_cut_laws.proofs.Following.{start, end_of, ends_in, has_fallen, fell, is_fallen, broke, is_broken, f, g, main, body_tidy, of_main, to_main, breaks, fails}

-- ---- cut law

pub cut_law : (p : ProgramTree) → IsLawful p → (sets : ℕ → Member → Bool) → AreClosed p sets → (k : ℕ) → 1 ≤ k → (q : List LoopPoint) → (choices : List ℤ) (turns c : ℕ) → (exec p Real no_tests choices turns).end ≡ Over (Broken c) →
    (cs : List ℤ) × (IsFallen (row_end p sets k q cs) ⊎ (row_end p sets k q cs ≡ Over (Broken c)))
cut_law p lawful sets closed zero some q choices turns c h = absurd (omega (arith, some))
cut_law p lawful sets closed (suc k) some q choices turns c h = breaks p lawful sets closed k q choices turns c h

pub cut_law_of_check : (p : ProgramTree) → IsLawful p → (sets : ℕ → Member → Bool) → AreClosed p sets → (k : ℕ) → 1 ≤ k → (q : List LoopPoint) → Infers p sets k q → (choices : List ℤ) (turns c : ℕ) → (exec p Real no_tests choices turns).end ≡ Over (Broken c) →
    (cs : List ℤ) × (row_end p sets k q cs ≡ Over (Broken c))
cut_law_of_check p lawful sets closed k some q none choices turns c h = go (cut_law p lawful sets closed k some q choices turns c h)
  where
    go : (cs : List ℤ) × (IsFallen (row_end p sets k q cs) ⊎ (row_end p sets k q cs ≡ Over (Broken c))) → (cs : List ℤ) × (row_end p sets k q cs ≡ Over (Broken c))
    go (cs, inl x) = absurd (none cs x)
    go (cs, inr x) = (cs, x)

pub proves_safe : (p : ProgramTree) → IsLawful p → (sets : ℕ → Member → Bool) → AreClosed p sets → (k : ℕ) → 1 ≤ k → (q : List LoopPoint) → Proves p sets k q → Safe p
proves_safe p lawful sets closed k some q proves choices turns h =
    let b = broke choices turns (run_program p Real no_tests (start p choices turns)) h in
    let e = end_of choices turns (run_program p Real no_tests (start p choices turns)) (Over (Broken b.0)) b.1 in
    let r = cut_law_of_check p lawful sets closed k some q proves.0 choices turns b.0 e in
    proves.1 r.0 (is_broken (row_end p sets k q r.0) b.0 r.1)

-- ---- turns

pub turns_count : (p : ProgramTree) → IsLawful p → (sets : ℕ → Member → Bool) → AreClosed p sets → (k : ℕ) → 1 ≤ k → (q : List LoopPoint) → Infers p sets k q → (passes : ℕ → Store → Store → Bool) (choices : List ℤ) (turns l row : ℕ) →
    (exec p Real (only_watched q passes) choices turns).end ≡ Fallen l row → (cs : List ℤ) × (cut_end p sets k q (watched q passes) cs ≡ Fallen l row)
turns_count p lawful sets closed zero some q none passes choices turns l row h = absurd (omega (arith, some))
turns_count p lawful sets closed (suc k) some q none passes choices turns l row h = fails p lawful sets closed k q (only_watched q passes) choices turns l row none h

module _ (p : ProgramTree) (limit : Limit) where
  pub agreeing : (Watched : ℕ → ℕ → Type 0) (more fewer : Tests) → TestsAgree Watched more fewer → (cs : List ℤ) (t : ℕ) → Alike Watched true (run_program p limit more (start p cs t)) (run_program p limit fewer (start p cs t))
  agreeing Watched more fewer agree cs t =
      (main_agrees Watched more fewer agree limit true (cells_of p) (calls_of p limit more (length p.functions)) (calls_of p limit fewer (length p.functions)) (main_among p.names p.functions)).by (start p cs t)

pub rows_hold : (p : ProgramTree) → IsLawful p → (sets : ℕ → Member → Bool) → AreClosed p sets → (k : ℕ) → 1 ≤ k → (q : List LoopPoint) → Infers p sets k q → (choices : List ℤ) (turns : ℕ) → ¬ IsFallen (exec p Real (alone (rows_at q)) choices turns).end
rows_hold p lawful sets closed zero some q none choices turns h = absurd (omega (arith, some))
rows_hold p lawful sets closed (suc k) some q none choices turns h =
    let w = fell choices turns (run_program p Real (alone (rows_at q)) (start p choices turns)) h in
    let e = end_of choices turns (run_program p Real (alone (rows_at q)) (start p choices turns)) (Fallen w.0 w.1) w.2 in
    let c = fails p lawful sets closed k q (alone (rows_at q)) choices turns w.0 w.1 none e in
    let limit = cut_limit p sets (suc k) q in
    let x = run_program p limit (with_watches (rows_at q) (rows_at q)) (start p c.0 0) in
    let y = run_program p limit (alone (rows_at q)) (start p c.0 0) in
    let s = falls_so x y w.0 w.1 (agreeing p limit NoneOf (with_watches (rows_at q) (rows_at q)) (alone (rows_at q)) (twice_agree (rows_at q)) c.0 0) (ends_in c.0 0 x (Fallen w.0 w.1) (λ e. cc) c.1) in
    none c.0 (is_fallen (row_end p sets (suc k) q c.0) w.0 w.1 (end_of c.0 0 y (Fallen w.0 w.1) s))

pub passing_infers : (p : ProgramTree) (sets : ℕ → Member → Bool) (k : ℕ) (q : List LoopPoint) (passes : ℕ → Store → Store → Bool) → TurnsPass p sets k q passes → Infers p sets k q
passing_infers p sets k q passes none choices h =
    let limit = cut_limit p sets k q in
    let x = run_program p limit (watched q passes) (start p choices 0) in
    let y = run_program p limit (alone (rows_at q)) (start p choices 0) in
    let w = fell choices 0 y h in
    let v = falls_too x y w.0 w.1 (agreeing p limit Any (watched q passes) (alone (rows_at q)) (more_agree (rows_at q) (watch q passes)) choices 0) w.2 in
    none choices (is_fallen (cut_end p sets k q (watched q passes) choices) v.0 v.1 (end_of choices 0 x (Fallen v.0 v.1) v.2))

-- where each turn that counts passes, a real execution does the same with the watch as without
same_run : (p : ProgramTree) → IsLawful p → (sets : ℕ → Member → Bool) → AreClosed p sets → (k : ℕ) → 1 ≤ k → (q : List LoopPoint) (passes : ℕ → Store → Store → Bool) → TurnsPass p sets k q passes → (choices : List ℤ) (turns : ℕ) →
    run_program p Real (only_watched q passes) (start p choices turns) ≡ run_program p Real no_tests (start p choices turns)
same_run p lawful sets closed k some q passes none choices turns =
    let x = run_program p Real (only_watched q passes) (start p choices turns) in
    same_or x (run_program p Real no_tests (start p choices turns)) (agreeing p Real Any (only_watched q passes) no_tests (more_agree no_rows (watch q passes)) choices turns)
    (λ l row h.
    let e = end_of choices turns x (Fallen l row) h in
    let c = turns_count p lawful sets closed k some q (passing_infers p sets k q passes none) passes choices turns l row e in
    none c.0 (is_fallen (cut_end p sets k q (watched q passes) c.0) l row c.1))

pub watch_changes_nothing : (p : ProgramTree) → IsLawful p → (sets : ℕ → Member → Bool) → AreClosed p sets → (k : ℕ) → 1 ≤ k → (q : List LoopPoint) (passes : ℕ → Store → Store → Bool) → TurnsPass p sets k q passes → (choices : List ℤ) (turns : ℕ) →
    exec p Real (only_watched q passes) choices turns ≡ exec p Real no_tests choices turns
watch_changes_nothing p lawful sets closed k some q passes none choices turns = ap (report choices turns) (same_run p lawful sets closed k some q passes none choices turns)

-- ---- turn bound

module _ (p : ProgramTree) (lawful : IsLawful p) (sets : ℕ → Member → Bool) (closed : AreClosed p sets) (q : List LoopPoint) (r : List (List Form)) where
  abbrev forms : ℕ → ℕ
  forms l = length (ranks_at r l)

  abbrev rank : ℕ → Store → ℕ
  rank l st = rank_number (ranks_at r l) (values_of st)

  lower : (l : ℕ) (a b : Store) → IsSound sets (cells_of p) a → IsSound sets (cells_of p) b → HoldAll (only_watched q (lowers r) true l) a b → rank l b < rank l a
  lower l a b s t h = rank_lower (ranks_at r l) (values_of a) (values_of b) (store_small (cells_of p) a s.fits) (store_small (cells_of p) b t.fits) h.0

  below : (l : ℕ) (a : Store) → IsSound sets (cells_of p) a → rank l a < 2 ^ (66 * forms l)
  below l a s = rank_below (ranks_at r l) (values_of a) (store_small (cells_of p) a s.fits)

  bounded : (choices : List ℤ) (turns : ℕ) → turns_of p r ≤ turns → BoundedAt (turns_in forms (f p lawful sets closed).body) turns (run_program p Real (only_watched q (lowers r)) (start p choices turns))
  bounded choices turns enough =
      of_main p lawful sets closed (λ m. BoundedAt (turns_in forms (f p lawful sets closed).body) turns (enter (setting_of p Real (only_watched q (lowers r))) m (start p choices turns)))
      ((main_bounded (cells_of p) sets (only_watched q (lowers r)) true (calls_of p Real (only_watched q (lowers r)) (length p.functions)) (statics_of p) (fresh_in_sets p sets closed) (g p lawful sets closed) (f p lawful sets closed).result forms rank lower below
      (f p lawful sets closed).parameters (f p lawful sets closed).body (main p lawful sets closed).parameters (main p lawful sets closed).typed (main p lawful sets closed).checks (closed.body (f p lawful sets closed) lawful.is_main) (body_tidy p lawful sets closed)).by
      (start p choices turns) (first_sound p lawful sets closed) (to_main p lawful sets closed (λ m. turns_of_main forms m ≤ turns) enough))

pub turn_bound : (p : ProgramTree) → IsLawful p → (sets : ℕ → Member → Bool) → AreClosed p sets → (k : ℕ) → 1 ≤ k → (q : List LoopPoint) (r : List (List Form)) → RankProves p sets k q r → (choices : List ℤ) (turns : ℕ) → turns_of p r ≤ turns → ¬ ((exec p Real no_tests choices turns).end ≡ Over OutOfTurns)
turn_bound p lawful sets closed k some q r none choices turns enough h =
    let x = run_program p Real no_tests (start p choices turns) in
    let b = subst (λ y. BoundedAt (turns_in (forms p lawful sets closed q r) (f p lawful sets closed).body) turns y) (same_run p lawful sets closed k some q (lowers r) none choices turns) (bounded p lawful sets closed q r choices turns enough) in
    not_out (turns_in (forms p lawful sets closed q r) (f p lawful sets closed).body) turns x b (ends_in choices turns x (Over OutOfTurns) (λ e. cc) h)

pub terminating : (p : ProgramTree) → IsLawful p → (sets : ℕ → Member → Bool) → AreClosed p sets → (k : ℕ) → 1 ≤ k → (q : List LoopPoint) (r : List (List Form)) → RankProves p sets k q r → Terminating p r
terminating p lawful sets closed k some q r none choices = turn_bound p lawful sets closed k some q r none choices (turns_of p r) (omega arith)

-- ---- meet law

meets_fall : {A : Type 0} (x y z : Result A) (l row : ℕ) → MeetsAt x y z → EndsIn x (Fallen l row) → HasFallen y ⊎ HasFallen z
meets_fall (Go a s) y z l row m h = absurd h
meets_fall (Halt e s) y z l row m h = subst (λ e. MeetsAt (Halt e s) y z) h m

meets_break : {A : Type 0} (x y z : Result A) (c : ℕ) → MeetsAt x y z → EndsIn x (Over (Broken c)) → EndsIn y (Over (Broken c)) × EndsIn z (Over (Broken c))
meets_break (Go a s) y z c m h = absurd h
meets_break (Halt e s) y z c m h = subst (λ e. MeetsAt (Halt e s) y z) h m

module _ (p : ProgramTree) (sets : ℕ → Member → Bool) (k : ℕ) (a b c : List LoopPoint) (ta tb tc : Tests) (starts_meet : (l : ℕ) (st : Store) → starts a l st ≡ true → (starts b l st ≡ true) × (starts c l st ≡ true)) (counted : TestsMeet (ta true) (tb true) (tc true)) (uncounted : (l : ℕ) (st t : Store) → HoldAll (ta false l) st t → HoldAll (tb false l) st t × HoldAll (tc false l) st t) where
  back_meets : (l : ℕ) → Meets (back (cells_of p) sets (mods_of p) (starts a) l) (back (cells_of p) sets (mods_of p) (starts b) l) (back (cells_of p) sets (mods_of p) (starts c) l)
  back_meets l = then_meets (same_meets (scatter (cells_of p) sets (mods_of p l))) (λ u. start_meets (starts a l) (starts b l) (starts c l) (starts_meet l))

  runs_meet : (cs : List ℤ) → MeetsAt (run_program p (cut_limit p sets k a) ta (start p cs 0)) (run_program p (cut_limit p sets k b) tb (start p cs 0)) (run_program p (cut_limit p sets k c) tc (start p cs 0))
  runs_meet cs =
      (main_meets k (back (cells_of p) sets (mods_of p) (starts a)) (back (cells_of p) sets (mods_of p) (starts b)) (back (cells_of p) sets (mods_of p) (starts c)) ta tb tc back_meets counted uncounted true (cells_of p)
      (calls_of p (cut_limit p sets k a) ta (length p.functions)) (calls_of p (cut_limit p sets k b) tb (length p.functions)) (calls_of p (cut_limit p sets k c) tc (length p.functions)) (main_among p.names p.functions)).by (start p cs 0)

  pub none_fall : ((cs : List ℤ) → ¬ IsFallen (cut_end p sets k b tb cs)) → ((cs : List ℤ) → ¬ IsFallen (cut_end p sets k c tc cs)) → (cs : List ℤ) → ¬ IsFallen (cut_end p sets k a ta cs)
  none_fall first second cs h =
      let w = fell cs 0 (run_program p (cut_limit p sets k a) ta (start p cs 0)) h in
      elim (meets_fall (run_program p (cut_limit p sets k a) ta (start p cs 0)) (run_program p (cut_limit p sets k b) tb (start p cs 0)) (run_program p (cut_limit p sets k c) tc (start p cs 0)) w.0 w.1 (runs_meet cs) w.2) [
        | inl x ↦ first cs (has_fallen cs 0 (run_program p (cut_limit p sets k b) tb (start p cs 0)) x)
        | inr x ↦ second cs (has_fallen cs 0 (run_program p (cut_limit p sets k c) tc (start p cs 0)) x)
      ]

  none_break : ((cs : List ℤ) → ¬ IsBroken (cut_end p sets k c tc cs)) → (cs : List ℤ) → ¬ IsBroken (cut_end p sets k a ta cs)
  none_break second cs h =
      let w = broke cs 0 (run_program p (cut_limit p sets k a) ta (start p cs 0)) h in
      let m = meets_break (run_program p (cut_limit p sets k a) ta (start p cs 0)) (run_program p (cut_limit p sets k b) tb (start p cs 0)) (run_program p (cut_limit p sets k c) tc (start p cs 0)) w.0 (runs_meet cs) w.1 in
      second cs (is_broken (cut_end p sets k c tc cs) w.0 (end_of cs 0 (run_program p (cut_limit p sets k c) tc (start p cs 0)) (Over (Broken w.0)) m.1))

pub meet_infers : (p : ProgramTree) (sets : ℕ → Member → Bool) (k : ℕ) (a b : List LoopPoint) → AreAlike a b → Infers p sets k a → Infers p sets k b → Infers p sets k (meet a b)
meet_infers p sets k a b alike first second =
    none_fall p sets k (meet a b) a b (alone (rows_at (meet a b))) (alone (rows_at a)) (alone (rows_at b))
    (λ l st h. (stronger_starts (meet a b) a (meet_first a b alike) l st h, stronger_starts (meet a b) b (meet_second a b alike) l st h))
    (meet_tests a b alike true) ((meet_tests a b alike false).hold) first second

pub stronger_proves : (p : ProgramTree) (sets : ℕ → Member → Bool) (k : ℕ) (a b : List LoopPoint) → IsStronger a b → Infers p sets k a → Proves p sets k b → Proves p sets k a
stronger_proves p sets k a b strong infers proves =
    (infers, none_break p sets k a a b (alone (rows_at a)) (alone (rows_at a)) (alone (rows_at b)) (λ l st h. (h, stronger_starts a b strong l st h)) (stronger_meets a b strong) (λ l st t h. (h, stronger_tests a b strong l st t h)) proves.1)

pub stronger_passes : (p : ProgramTree) (sets : ℕ → Member → Bool) (k : ℕ) (a b : List LoopPoint) (passes : ℕ → Store → Store → Bool) → IsStronger a b → Infers p sets k a → TurnsPass p sets k b passes → TurnsPass p sets k a passes
stronger_passes p sets k a b passes strong infers pass =
    none_fall p sets k a a b (watched a passes) (alone (rows_at a)) (watched b passes) (λ l st h. (h, stronger_starts a b strong l st h)) (stronger_watches a b passes strong) (λ l st t h. (h, stronger_tests a b strong l st t h)) infers pass
