-- What a solution finds in a program's short runs.
use Rattle.std.proofs.Common.{arith, ◌≡◌, ℕ, ◌≤◌, ◌-◌, ◌+◌, sym, ap, ◌∙◌, List, length, ℤ}
use Rattle.l2_runs.specs.declared.outcome.Outcome.TheVariants.{Ended, Broken}
use Rattle.l2_runs.specs.Runs.{Over, Result, Go, Halt}
use Rattle.l2_runs.specs.Loops.{Real, Short, no_tests}
use Rattle.l2_program.specs.Programs.{ProgramTree}
use Rattle.l2_meaning.specs.Execution.{exec, report}
use Rattle.l2_meaning.specs.Lawful.{IsLawful}
use Rattle.l2_cut_laws.proofs.TreeShort.{short_law}
use Rattle.l2_code.specs.Sets.{Family, IsResolved}
use Rattle.l2_lower.specs.Code.{code}
use Rattle.l2_lower.proofs.Executions.{exec_law}
use Rattle.l2_lower.proofs.WellFormedCode.{code_well_formed}
use Rattle.l2_ssa.specs.Steps.{Names}
use Rattle.l2_ssa.specs.Walks.{CheckGoal}
use Rattle.l2_ssa.specs.Law.{RowsOf, RanksOf, HasEvent, EndsAt}
use Rattle.l2_short_laws.specs.Shorts.{short_ssa, SolvesShort, short_run}
use Rattle.l2_short_laws.specs.Used.{BreaksAt}
use Rattle.l2_short_laws.proofs.Breaking.{shorts_solve}
use Rattle.l2_short_laws.proofs.Finding.{solutions_break}
use Rattle.l2_found_laws.specs.Found.{found_choices, found_turns, breaking, SolutionsFind, ShortsFound}

reported : (i n : ℕ) (choices : List ℤ) (x : Result (Unit {0})) → BreaksAt i n x → report choices 0 x ≡ breaking i choices n
reported i n choices (Go u s) h = absurd h
reported i n choices (Halt e s) h = λ j. record { end = h.0 j; choices_used = used j; turns_used = turns j }
  where
    used : length choices - length s.choices ≡ length choices
    used = ap (λ cs. length choices - length cs) h.1 ∙ all (length choices)
      where
        all : (n : ℕ) → n - 0 ≡ n
        all n = omega arith

    turns : 0 - s.turns + s.arrivals ≡ n
    turns = let e = h.2 in omega (arith, e)

module _ (p : ProgramTree) (lawful : IsLawful p) (f : Family) (z : IsResolved (code p) f) (k : ℕ) (some : 1 ≤ k) (row : RowsOf) (lower : RanksOf) where
  module _ (s : Names) (ok : SolvesShort (code p) f k row lower s) (i : ℕ) (ev : HasEvent s (CheckGoal i) (short_ssa (code p) f k).events) where
    abbrev choices : List ℤ
    choices = found_choices (code p) f k s

    abbrev turns : ℕ
    turns = found_turns (code p) f k s

    short_found : exec p (Short k) no_tests choices 0 ≡ breaking i choices turns
    short_found =
        exec_law p lawful (Short k) no_tests tt choices 0
        ∙ reported i turns choices (short_run (code p) f k choices 0) ((solutions_break (code p) f (code_well_formed p lawful) z k some row lower s ok i ev).1 0)

    pub real_found : exec p Real no_tests choices turns ≡ breaking i choices turns
    real_found = ap (λ e. exec p Real no_tests choices e.turns_used) (sym short_found) ∙ short_law p k choices i (ap (λ e. e.end) short_found) ∙ short_found

  ends_at : (i : ℕ) (choices : List ℤ) (turns : ℕ) (x : Result (Unit {0})) → (report choices turns x).end ≡ Over (Broken i) → EndsAt (Over (Broken i)) x
  ends_at i choices turns (Go u st) h = absurd (no_end h)
    where
      no_end : Over Ended ≡ Over (Broken i) → ⊥
      no_end j = cc
  ends_at i choices turns (Halt e st) h = h

pub solutions_find : SolutionsFind
solutions_find p lawful f z k some row lower s ok i ev = (
  real_found p lawful f z k some row lower s ok i ev,
  short_found p lawful f z k some row lower s ok i ev,
  (solutions_break (code p) f (code_well_formed p lawful) z k some row lower s ok i ev).0,
)

pub shorts_found : ShortsFound
shorts_found p lawful f z k some row lower choices turns i h =
    shorts_solve (code p) f (code_well_formed p lawful) z k some row lower choices turns i
    (ends_at p lawful f z k some row lower i choices turns (short_run (code p) f k choices turns) (sym (ap (λ e. e.end) (exec_law p lawful (Short k) no_tests tt choices turns)) ∙ h))
