-- What it says that there is no answer to whether all executions end.
use Rattle.std.specs.Prelude.{◌≡◌, ◌↔◌, ℕ, ◌≤◌, ℤ, List, Contains}
use Rattle.l2_program.specs.Programs.{ProgramTree}
use Rattle.l2_templates.specs.declared.families.Family.{Family as Forms}
use Rattle.l2_templates.specs.declared.form.Form.{Form}
use Rattle.l2_templates.specs.declared.point.LoopPoint.{LoopPoint}
use Rattle.l2_code.specs.Trees.{CodeTree}
use Rattle.l2_code.specs.Sets.{Family}
use Rattle.l2_cuts.specs.Points.{ranks_at}
use Rattle.l2_cuts.specs.Cuts.{RankProves}
use Rattle.l2_cuts.specs.Rankings.{candidates}
use Rattle.l2_cuts.specs.Strongest.{IsPointOf}
use Rattle.l2_kiki.specs.declared.decision.Mode.TheVariants.{Termination}
use Rattle.l2_kiki.specs.declared.decision.Decision.{Decision}
use Rattle.l2_kiki.specs.declared.decision.Decision.TheVariants as decision
use Rattle.l2_verdicts.specs.Verdicts.{IsTooLarge, IsVerdict}

-- the lists have candidates of their loops alone
abbrev pub AreOfCandidates : ProgramTree → List (List Form) → Type 0
AreOfCandidates p r = (l : ℕ) (f : Form) → Contains (ranks_at r l) f → Contains (candidates p l) f

-- up to the limit the program isn't too large, and at no point of the domain lists of candidates rank the loops
abbrev pub NothingRanks : ProgramTree → CodeTree → Family → Forms → List ℤ → ℕ → Type 0
NothingRanks p c f domain bounds limit =
    (k : ℕ) → 1 ≤ k → k ≤ limit → (¬ IsTooLarge p c f domain k) × ((q : List LoopPoint) → IsPointOf p domain bounds q → (r : List (List Form)) → AreOfCandidates p r → ¬ RankProves p f.object k q r)

-- there is no answer up to the limit exactly where this is so
abbrev pub UnrankedLaw : Type 0
UnrankedLaw =
    (p : ProgramTree) (c : CodeTree) (f : Family) (domain : Forms) (bounds : List ℤ) (limit : ℕ) (d : Decision) → IsVerdict p c f domain bounds Termination limit d
    → (d ≡ decision.Unwind limit) ↔ NothingRanks p c f domain bounds limit
