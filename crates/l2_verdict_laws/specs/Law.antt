-- What the answers say of a program.
use Rattle.std.specs.Prelude.{◌≡◌, ◌↔◌, ℕ, ◌<◌, ◌≤◌, ℤ, List}
use Rattle.l2_runs.specs.Loops.{Real, no_tests}
use Rattle.l2_program.specs.Programs.{ProgramTree}
use Rattle.l2_meaning.specs.Execution.{exec, Safe}
use Rattle.l2_meaning.specs.Lawful.{IsLawful}
use Rattle.l2_templates.specs.declared.families.Family.{Family as Forms}
use Rattle.l2_templates.specs.declared.form.Form.{Form}
use Rattle.l2_templates.specs.declared.infer.Found.{Found}
use Rattle.l2_templates.specs.declared.point.LoopPoint.{LoopPoint}
use Rattle.l2_code.specs.Trees.{CodeTree}
use Rattle.l2_code.specs.Sets.{Family, IsResolved}
use Rattle.l2_lower.specs.Code.{code}
use Rattle.l2_cuts.specs.Cuts.{Proves, RankProves}
use Rattle.l2_cuts.specs.Turns.{Terminating}
use Rattle.l2_cuts.specs.Strongest.{IsStrongest, IsPointOf}
use Rattle.l2_found_laws.specs.Found.{breaking}
use Rattle.l2_kiki.specs.declared.decision.Mode.TheVariants.{Safety, Termination}
use Rattle.l2_kiki.specs.declared.decision.Decision.{Decision}
use Rattle.l2_kiki.specs.declared.decision.Decision.TheVariants as decision
use Rattle.l2_verdicts.specs.Verdicts.{IsTooLarge, Breaks, IsVerdict}

-- a lawful program is safe where the answer is so, and its point, which is the strongest one, proves
abbrev pub SafeLaw : Type 0
SafeLaw =
    (p : ProgramTree) → IsLawful p → (f : Family) → IsResolved (code p) f → (domain : Forms) (bounds : List ℤ) (limit k : ℕ) (q : List LoopPoint)
    → IsVerdict p (code p) f domain bounds Safety limit (decision.Safe k q)
    → Safe p × IsStrongest p f.object k domain bounds q × Proves p f.object k q

-- the execution breaks the check and uses all its choices and turns; it is a run with at most k arrivals an entry at a loop's head, and
-- no run with fewer breaks a check
abbrev pub UnsafeLaw : Type 0
UnsafeLaw =
    (p : ProgramTree) (c : CodeTree) (f : Family) (domain : Forms) (bounds : List ℤ) (limit k : ℕ) (found : Found)
    → IsVerdict p c f domain bounds Safety limit (decision.Unsafe k found)
    → (exec p Real no_tests found.choices found.turns ≡ breaking found.check found.choices found.turns)
    × Breaks p k × ((j : ℕ) → 1 ≤ j → j < k → ¬ Breaks p j)

-- up to the limit the program isn't too large, no short run breaks a check and no point of the domain proves
abbrev pub NothingProves : ProgramTree → CodeTree → Family → Forms → List ℤ → ℕ → Type 0
NothingProves p c f domain bounds limit =
    (k : ℕ) → 1 ≤ k → k ≤ limit → (¬ IsTooLarge p c f domain k) × (¬ Breaks p k) × ((q : List LoopPoint) → IsPointOf p domain bounds q → ¬ Proves p f.object k q)

-- there is no answer up to the limit exactly where this is so
abbrev pub UnwindLaw : Type 0
UnwindLaw =
    (p : ProgramTree) (c : CodeTree) (f : Family) (domain : Forms) (bounds : List ℤ) (limit : ℕ) (d : Decision) → IsVerdict p c f domain bounds Safety limit d
    → (d ≡ decision.Unwind limit) ↔ NothingProves p c f domain bounds limit

-- ---- termination

-- every execution of a lawful program ends within the turns that the lists give where the answer is so
abbrev pub TerminatingLaw : Type 0
TerminatingLaw =
    (p : ProgramTree) → IsLawful p → (f : Family) → IsResolved (code p) f → (domain : Forms) (bounds : List ℤ) (limit k : ℕ) (q : List LoopPoint) (ranks : List (List Form))
    → IsVerdict p (code p) f domain bounds Termination limit (decision.Terminating k q ranks)
    → Terminating p ranks × IsStrongest p f.object k domain bounds q × RankProves p f.object k q ranks
