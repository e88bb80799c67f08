-- The laws of cut runs, for lawful programs.
use Rattle.std.proofs.Common.{◌≡◌, ℕ, suc, ℤ, Bool, true, false, List, [], ◌∷◌, ◌++◌, length, Option, Some, ◌⊎◌, inl, inr, refl, sym, ap, ◌∙◌, subst}
use Rattle.std.specs.Prelude.{◌==◌}
use Rattle.l2_runs.specs.declared.member.Member.{Member}
use Rattle.l2_runs.specs.declared.outcome.Outcome.TheVariants.{Ended, Stopped, Broken, OutOfChoices, OutOfTurns}
use Rattle.l2_runs.specs.Store.{Store}
use Rattle.l2_runs.specs.Runs.{State, End, Over, Fallen, Result, Go, Halt, and_then, done}
use Rattle.l2_runs.specs.Loops.{Real, Tests, no_tests}
use Rattle.l2_run_laws.specs.Watches.{with_watches, cut_tests}
use Rattle.l2_run_laws.proofs.CutRuns.{EndsIn, Cuts, Falls, Halts, Matched, Meets, Follows}
use Rattle.l2_run_laws.proofs.LoopFrames.{Among}
use Rattle.l2_run_laws.proofs.Meeting as meeting
use Rattle.l2_program.specs.Names.{declared_in}
use Rattle.l2_program.specs.Programs.{ProgramTree, FunctionTree}
use Rattle.l2_program.specs.declared.program.ObjectInfo.{ObjectInfo}
use Rattle.l2_templates.specs.declared.point.LoopPoint.{LoopPoint}
use Rattle.l2_meaning.specs.Meaning.{act}
use Rattle.l2_meaning.specs.Execution.{cells_of, calls_of, setting_of, declare_all, enter, run_program, main_among, first_store, report, exec, IsBroken}
use Rattle.l2_meaning.specs.Scopes.{statics_of}
use Rattle.l2_meaning.specs.Pointing.{AreClosed}
use Rattle.l2_meaning.specs.Lawful.{Listing, IsLawful, IsLawfulFunction, AreNotStatic}
use Rattle.l2_cuts.specs.Points.{starts}
use Rattle.l2_cuts.specs.Cuts.{mods_of, cut_limit, rows_at, IsFallen, cut_end, row_end, Infers}
use Rattle.l2_cut_laws.proofs.Tidy.{dying, IsTidy}
use Rattle.l2_cut_laws.proofs.LawfulTrees.{AreDistinct, distinct_right, numbers_distinct, tidy, dying_declared, dying_local, has_mods}
use Rattle.l2_cut_laws.proofs.Starts.{first_sound, first_dead, fresh_in_sets}
use Rattle.l2_cut_laws.proofs.TreeFollowing.{Ready, AreApart, apart_from, main_follows}
use Rattle.l2_cut_laws.proofs.PointFacts.{rows_start}

-- ---- reports

abbrev pub start : ProgramTree → List ℤ → ℕ → State
start p cs t = record { store = first_store p; choices = cs; turns = t; arrivals = 0 }

pub end_of : (cs : List ℤ) (t : ℕ) (x : Result (Unit {0})) (e : End) → EndsIn x e → (report cs t x).end ≡ e
end_of cs t (Go u s) e h = absurd h
end_of cs t (Halt f s) e h = h

pub ends_in : (cs : List ℤ) (t : ℕ) (x : Result (Unit {0})) (e : End) → (Over Ended ≡ e → ⊥) → (report cs t x).end ≡ e → EndsIn x e
ends_in cs t (Go u s) e other h = absurd (other h)
ends_in cs t (Halt f s) e other h = h

pub has_fallen : (cs : List ℤ) (t : ℕ) (x : Result (Unit {0})) → meeting.HasFallen x → IsFallen (report cs t x).end
has_fallen cs t (Go u s) h = absurd h
has_fallen cs t (Halt (Over o) s) h = absurd h
has_fallen cs t (Halt (Fallen l row) s) h = tt

pub fell : (cs : List ℤ) (t : ℕ) (x : Result (Unit {0})) → IsFallen (report cs t x).end → (l : ℕ) × (row : ℕ) × EndsIn x (Fallen l row)
fell cs t (Go u s) h = absurd h
fell cs t (Halt (Over o) s) h = absurd h
fell cs t (Halt (Fallen l row) s) h = (l, row, refl)

pub is_fallen : (e : End) (l row : ℕ) → e ≡ Fallen l row → IsFallen e
is_fallen e l row h = subst IsFallen (sym h) tt

pub broke : (cs : List ℤ) (t : ℕ) (x : Result (Unit {0})) → IsBroken (report cs t x).end → (c : ℕ) × EndsIn x (Over (Broken c))
broke cs t (Go u s) h = absurd h
broke cs t (Halt (Over Ended) s) h = absurd h
broke cs t (Halt (Over Stopped) s) h = absurd h
broke cs t (Halt (Over (Broken c)) s) h = (c, refl)
broke cs t (Halt (Over OutOfChoices) s) h = absurd h
broke cs t (Halt (Over OutOfTurns) s) h = absurd h
broke cs t (Halt (Fallen l row) s) h = absurd h

pub is_broken : (e : End) (c : ℕ) → e ≡ Over (Broken c) → IsBroken e
is_broken e c h = subst IsBroken (sym h) tt

-- ---- what a matching cut run does

at_broken : {A : Type 0} (cut : Cuts A) (st : Store) (c : ℕ) (y : Result A) → Falls cut st ⊎ Matched cut st y → EndsIn y (Over (Broken c)) → Falls cut st ⊎ Halts (cut true false) st (Over (Broken c))
at_broken cut st c y (inl q) h = inl q
at_broken cut st c (Go a s) (inr m) h = absurd h
at_broken cut st c (Halt e s) (inr m) h = inr ((subst (Meets cut st) h m) false)

at_fallen : {A : Type 0} (cut : Cuts A) (st : Store) (l row : ℕ) (y : Result A) → Falls cut st ⊎ Matched cut st y → EndsIn y (Fallen l row) → Falls cut st ⊎ Halts (cut true true) st (Fallen l row)
at_fallen cut st l row y (inl q) h = inl q
at_fallen cut st l row (Go a s) (inr m) h = absurd h
at_fallen cut st l row (Halt e s) (inr m) h = inr (subst (Meets cut st) h m)

-- ---- a lawful program

module _ (p : ProgramTree) (lawful : IsLawful p) (sets : ℕ → Member → Bool) (closed : AreClosed p sets) where
  abbrev pub f : FunctionTree
  f = lawful.main_function

  abbrev pub g : Listing
  g = record { checks = p.checks; is_reached = lawful.main == lawful.main; overflow = lawful.overflow }

  pub main : IsLawfulFunction p g lawful.main f
  main = lawful.functions lawful.main f lawful.has_main

  objects_distinct : AreDistinct (f.parameters ++ declared_in f.body)
  objects_distinct = subst AreDistinct main.objects (numbers_distinct (λ (o : ObjectInfo). o.function == lawful.main) 1 p.objects)

  pub body_tidy : IsTidy (statics_of p) f.body
  body_tidy = tidy (statics_of p) f.parameters f.body main.scoped (distinct_right f.parameters (declared_in f.body) objects_distinct)

  apart : AreApart f.parameters (dying f.body)
  apart = apart_from f.parameters (dying f.body) (declared_in f.body) (dying_declared f.body) objects_distinct

  ready : Ready (cells_of p) sets (f.parameters ++ dying f.body) (first_store p)
  ready = (first_sound p lawful sets closed, λ n a. first_dead p n (local f.parameters main.parameters n a))
    where
      local : (ns : List ℕ) → AreNotStatic (statics_of p) ns → (n : ℕ) → Among (ns ++ dying f.body) n → statics_of p n ≡ false
      local [] h n a = dying_local (statics_of p) f.body body_tidy n a
      local (m ∷ ns) h n (inl e) = ap (statics_of p) e ∙ h.0
      local (m ∷ ns) h n (inr a) = local ns h.1 n a

  -- what holds of the function `main` holds of the program's
  pub of_main : (P : Option FunctionTree → Type 0) → P (Some f) → P (main_among p.names p.functions)
  of_main P h = subst P (sym lawful.is_main) h

  pub to_main : (P : Option FunctionTree → Type 0) → P (main_among p.names p.functions) → P (Some f)
  to_main P h = subst P lawful.is_main h

  module _ (k : ℕ) (q : List LoopPoint) (tests : Tests) where
    abbrev tests_in : Bool → Tests
    tests_in w = cut_tests w (rows_at q) (tests true)

    abbrev cuts : Cuts (Unit {0})
    cuts y w =
        and_then (declare_all (setting_of p (cut_limit p sets (suc k) q) (tests_in w)) f.parameters)
        (λ u. and_then (act (setting_of p (cut_limit p sets (suc k) q) (tests_in w)) y f.body) (λ e. done tt))

    follows : Follows (Ready (cells_of p) sets (f.parameters ++ dying f.body)) (enter (setting_of p Real tests) (Some f)) cuts
    follows =
        main_follows (cells_of p) refl sets tests true (calls_of p Real tests (length p.functions)) (statics_of p) (fresh_in_sets p sets closed) g f.result (mods_of p) k (rows_at q) (starts q) (rows_start q)
        (λ w. calls_of p (cut_limit p sets (suc k) q) (tests_in w) (length p.functions)) f.parameters f.body apart main.parameters main.typed main.checks (closed.body f lawful.is_main) body_tidy
        (has_mods p (cells_of p) (statics_of p) f.parameters f.body main.loop_sets)

    -- a cut run of `main` that halts so is one of the program
    halts : (w : Bool) (e : End) → Halts (cuts true w) (first_store p) e → (cs : List ℤ) × (cut_end p sets (suc k) q (tests_in w) cs ≡ e)
    halts w e h = (
      h.cs,
      end_of h.cs 0 (run_program p (cut_limit p sets (suc k) q) (tests_in w) (start p h.cs 0)) e
          (of_main (λ m. EndsIn (enter (setting_of p (cut_limit p sets (suc k) q) (tests_in w)) m (start p h.cs 0)) e) (h.runs (start p h.cs 0))),
    )

    real_run : (cs : List ℤ) (t : ℕ) (e : End) → (Over Ended ≡ e → ⊥) → (exec p Real tests cs t).end ≡ e → EndsIn (enter (setting_of p Real tests) (Some f) (start p cs t)) e
    real_run cs t e other h = to_main (λ m. EndsIn (enter (setting_of p Real tests) m (start p cs t)) e) (ends_in cs t (run_program p Real tests (start p cs t)) e other h)

    falls : Falls cuts (first_store p) → (cs : List ℤ) × IsFallen (row_end p sets (suc k) q cs)
    falls h = let r = halts false (Fallen h.loop h.row) h.by in (r.0, is_fallen (row_end p sets (suc k) q r.0) h.loop h.row r.1)

  -- ---- laws for one more than k copies

  pub breaks : (k : ℕ) (q : List LoopPoint) (cs : List ℤ) (t c : ℕ) → (exec p Real no_tests cs t).end ≡ Over (Broken c) → (ds : List ℤ) × (IsFallen (row_end p sets (suc k) q ds) ⊎ (row_end p sets (suc k) q ds ≡ Over (Broken c)))
  breaks k q cs t c h =
      elim (at_broken (cuts k q no_tests) (first_store p) c (enter (setting_of p Real no_tests) (Some f) (start p cs t)) ((follows k q no_tests).by (start p cs t) ready) (real_run k q no_tests cs t (Over (Broken c)) (λ e. cc) h)) [
        | inl x ↦ (let r = falls k q no_tests x in (r.0, inl r.1))
        | inr x ↦ (let r = halts k q no_tests false (Over (Broken c)) x in (r.0, inr r.1))
      ]

  pub fails : (k : ℕ) (q : List LoopPoint) (tests : Tests) (cs : List ℤ) (t l row : ℕ) → Infers p sets (suc k) q → (exec p Real tests cs t).end ≡ Fallen l row → (ds : List ℤ) × (cut_end p sets (suc k) q (with_watches (rows_at q) (tests true)) ds ≡ Fallen l row)
  fails k q tests cs t l row none h =
      elim (at_fallen (cuts k q tests) (first_store p) l row (enter (setting_of p Real tests) (Some f) (start p cs t)) ((follows k q tests).by (start p cs t) ready) (real_run k q tests cs t (Fallen l row) (λ e. cc) h)) [
        | inl x ↦ (let r = falls k q tests x in absurd (none r.0 r.1))
        | inr x ↦ halts k q tests true (Fallen l row) x
      ]
