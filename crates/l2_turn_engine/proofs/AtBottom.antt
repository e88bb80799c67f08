-- A loop at Bottom has no turn that counts: its one row fails at each end before a watch is asked.
use Rattle.std.proofs.Common.{◌≡◌, ℕ, ◌+◌, Bool, true, ◌&&◌, List, [], ◌∷◌, ◌++◌, length, inl, inr, sym, subst, arith}
use Rattle.l2_runs.specs.declared.member.Member.{Member}
use Rattle.l2_runs.specs.Store.{Store}
use Rattle.l2_runs.specs.Runs.{Fallen, Result, Go, Halt}
use Rattle.l2_runs.specs.Loops.{Tests}
use Rattle.l2_run_laws.proofs.CutRuns.{EndsIn}
use Rattle.l2_program.specs.Programs.{ProgramTree}
use Rattle.l2_templates.specs.declared.point.LoopPoint.{LoopPoint}
use Rattle.l2_templates.specs.declared.point.LoopPoint.TheVariants.{Bottom}
use Rattle.l2_meaning.specs.Execution.{cells_of, calls_of, run_program, main_among}
use Rattle.l2_cuts.specs.Points.{point_at, rows_of, starts}
use Rattle.l2_cuts.specs.Cuts.{mods_of, cut_limit, rows_at, watched}
use Rattle.l2_cuts.specs.Rankings.{unless_so, keep_all, SomeTurn}
use Rattle.l2_rank_laws.specs.Moves.{moves}
use Rattle.l2_cut_laws.proofs.Following.{start, ends_in}
use Rattle.l2_point_laws.proofs.Rows.{FailsFirst, Blames}
use Rattle.l2_point_laws.proofs.TreeRows.{back_rows, main_rows}
use Rattle.l2_code.specs.Sets.{family}
use Rattle.l2_turn_engine.specs.Telling.{NoneAtBottom}

module _ (p : ProgramTree) (sets : ℕ → Member → Bool) (k : ℕ) (q : List LoopPoint) (l : ℕ) (at : point_at q l ≡ Bottom) (so : Store → Store → Bool) where
  abbrev tests : Tests
  tests = watched q (unless_so l so)

  first_fails : (a b : Store) → ¬ FailsFirst (tests true l) a b (length (rows_at q l) + 1)
  first_fails a b = subst (λ x. ¬ FailsFirst (rows_of x ++ record { row = length (rows_of x) + 1; holds = unless_so l so l } ∷ []) a b (length (rows_of x) + 1)) (sym at) other
    where
      other : ¬ FailsFirst (rows_of Bottom ++ record { row = length (rows_of Bottom) + 1; holds = unless_so l so l } ∷ []) a b (length (rows_of Bottom) + 1)
      other (inl h) = let e = h.1 in absurd (omega (arith, e))
      other (inr h) = cc

  blamed : (r : Result (Unit {0})) → Blames tests r → ¬ EndsIn r (Fallen l (length (rows_at q l) + 1))
  blamed (Go u s) b h = h
  blamed (Halt e s) b h = by_blame (subst (λ e. Blames {A = Unit {0}} tests (Halt e s)) h b)
    where
      by_blame : ¬ Blames {A = Unit {0}} tests (Halt (Fallen l (length (rows_at q l) + 1)) s)
      by_blame (a, f) = first_fails a s.store f

  pub no_turn : ¬ SomeTurn p sets k q l so
  no_turn (cs, h) =
      let limit = cut_limit p sets k q in
      let x = run_program p limit tests (start p cs 0) in
      let e = ends_in cs 0 x (Fallen l (length (rows_at q l) + 1)) (λ e. cc) h in
      blamed x ((main_rows tests limit (back_rows tests (cells_of p) sets (mods_of p) (starts q)) true (cells_of p) (calls_of p limit tests (length p.functions)) (main_among p.names p.functions)).by (start p cs 0)) e

pub none_at_bottom : NoneAtBottom
none_at_bottom = record {
  moves = λ p s k q l at fs f up. no_turn p (family s).object k q l at (λ a b. keep_all fs a b && moves up f a b);
  stays = λ p s k q l at fs. no_turn p (family s).object k q l at (keep_all fs);
}
