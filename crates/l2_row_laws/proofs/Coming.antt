-- What runs come to where less is let pass.
use Rattle.std.proofs.Common.{◌≡◌, ℕ, ◌+◌, Bool, true, false, List, [], ◌∷◌, ◌++◌, length, inl, inr, refl, sym, ap, ◌∙◌, subst, if◌then◌else◌}
use Rattle.std.specs.Prelude.{◌==◌}
use Rattle.l2_runs.specs.declared.member.Member.{Member}
use Rattle.l2_runs.specs.Store.{Store}
use Rattle.l2_runs.specs.Runs.{Over, Fallen, Result, Go, Halt, on_go, demand}
use Rattle.l2_runs.specs.Loops.{events}
use Rattle.l2_run_laws.proofs.CutRuns.{EndsIn}
use Rattle.l2_run_laws.proofs.Agreeing.{FallsNow, Alike, TestsAgree}
use Rattle.l2_program.specs.Programs.{ProgramTree}
use Rattle.l2_templates.specs.declared.point.LoopPoint.{LoopPoint}
use Rattle.l2_meaning.specs.Execution.{run_program}
use Rattle.l2_cuts.specs.Cuts.{cut_limit, rows_at}
use Rattle.l2_cuts.specs.Strongest.{before_rows, Reaches}
use Rattle.l2_cut_laws.proofs.Following.{start, end_of, ends_in}
use Rattle.l2_cut_laws.proofs.Consequences.{agreeing}
use Rattle.l2_point_laws.proofs.Reaching.{equal_numbers}

module _ (p : ProgramTree) (sets : ℕ → Member → Bool) (k : ℕ) (q : List LoopPoint) (l : ℕ) (many few : Store → Bool) (fewer : (st : Store) → few st ≡ true → many st ≡ true) where
  abbrev last : ℕ → ℕ
  last m = length (rows_at q m) + 1

  abbrev Asked : ℕ → ℕ → Type 0
  Asked m n = (m ≡ l) × (n ≡ last l)

  asked : TestsAgree Asked (before_rows q l few) (before_rows q l many)
  asked false m a s = inl refl
  asked true m a s = by_loop (m == l) refl
    where
      by_pass : m ≡ l → (x y : Bool) → (x ≡ true → y ≡ true) → Alike Asked true (on_go (demand true (Fallen m (last m)) x s) (λ u. events true m (rows_at q m) a)) (on_go (demand true (Fallen m (last m)) y s) (λ u. events true m (rows_at q m) a))
      by_pass e false y h = inr (refl, (e, ap last e))
      by_pass e true true h = inl refl
      by_pass e true false h = absurd (let t : false ≡ true = h refl in cc)

      by_loop : (x : Bool) → (m == l) ≡ x → Alike Asked true (events true m ((if x then record { row = last m; holds = λ old new. few new } ∷ [] else []) ++ rows_at q m) a s) (events true m ((if x then record { row = last m; holds = λ old new. many new } ∷ [] else []) ++ rows_at q m) a s)
      by_loop false e = inl refl
      by_loop true e = by_pass (equal_numbers m l e) (few s.store) (many s.store) (fewer s.store)

  asked_end : (r : Result (Unit {0})) → FallsNow Asked r → EndsIn r (Fallen l (last l))
  asked_end (Go u s) h = absurd h
  asked_end (Halt (Over o) s) h = absurd h
  asked_end (Halt (Fallen m n) s) h = ap (λ i. Fallen i n) h.0 ∙ ap (λ i. Fallen l i) h.1

  -- where a run comes to an end that many don't pass, one comes to an end that few don't pass
  pub comes_so : Reaches p sets k q l many → Reaches p sets k q l few
  comes_so (cs, h) =
      let limit = cut_limit p sets k q in
      let x = run_program p limit (before_rows q l few) (start p cs 0) in
      let y = run_program p limit (before_rows q l many) (start p cs 0) in (
        cs,
        end_of cs 0 x (Fallen l (last l)) (elim (agreeing p limit Asked (before_rows q l few) (before_rows q l many) asked cs 0) [
          | inl e ↦ subst (λ r. EndsIn r (Fallen l (last l))) (sym e) (ends_in cs 0 y (Fallen l (last l)) (λ e. cc) h)
          | inr f ↦ asked_end x f.1
        ]),
      )
