-- What is answered of a program, by its runs at k = 1, 2, .. up to a limit and by the points of a domain.
use Rattle.std.specs.Prelude.{◌≡◌, ℕ, ◌<◌, ℤ, List, length, map}
use Rattle.l2_runs.specs.declared.outcome.Outcome.TheVariants.{Broken}
use Rattle.l2_runs.specs.Runs.{Over}
use Rattle.l2_runs.specs.Loops.{Short, no_tests}
use Rattle.l2_program.specs.declared.program.LoopInfo.{LoopInfo}
use Rattle.l2_program.specs.Programs.{ProgramTree}
use Rattle.l2_meaning.specs.Execution.{exec}
use Rattle.l2_templates.specs.declared.families.Family.{Family as Forms}
use Rattle.l2_templates.specs.declared.form.Form.{Form}
use Rattle.l2_templates.specs.declared.infer.Found.{Found}
use Rattle.l2_templates.specs.declared.point.LoopPoint.{LoopPoint}
use Rattle.l2_templates.specs.Domains.{row_list}
use Rattle.l2_code.specs.Trees.{CodeTree}
use Rattle.l2_code.specs.Sets.{Family}
use Rattle.l2_code.specs.Sizes.{size}
use Rattle.l2_unwind.specs.Refused.{most_weight}
use Rattle.l2_cuts.specs.Strongest.{IsStrongest}
use Rattle.l2_cuts.specs.Cuts.{Proves}
use Rattle.l2_cuts.specs.Rankings.{RanksAre}
use Rattle.l2_short_goal_laws.specs.Law.{IsFound}
use Rattle.l2_witness.specs.ValuesFile.{InRange}
use Rattle.l2_kiki.specs.declared.decision.Mode.{Mode}
use Rattle.l2_kiki.specs.declared.decision.Decision.{Decision}
use Rattle.l2_kiki.specs.Answers.{IsAnswer}

-- the forms of each loop's rows, in order
abbrev pub forms_of : Forms → List LoopInfo → List (List Form)
forms_of domain loops = map (λ loop. row_list domain loop.vars loop.mods) loops

-- with so many copies of each turn, and all rows of each loop, the code weighs more than is looked at
abbrev pub IsTooLarge : ProgramTree → CodeTree → Family → Forms → ℕ → Type 0
IsTooLarge p c f domain k = most_weight < size c f k (map length (forms_of domain p.loops))

-- some run with at most k arrivals an entry at a loop's head breaks a check
abbrev pub Breaks : ProgramTree → ℕ → Type 0
Breaks p k = (choices : List ℤ) × (turns : ℕ) × (i : ℕ) × ((exec p (Short k) no_tests choices turns).end ≡ Over (Broken i))

-- this execution is one, and a values file can spell it
abbrev pub IsBreak : ProgramTree → ℕ → Found → Type 0
IsBreak p k found = IsFound p k found.check found.choices found.turns × InRange found.turns found.choices

-- what is answered of a program with its code and sets in a mode, with points of these forms and bounds
abbrev pub IsVerdict : ProgramTree → CodeTree → Family → Forms → List ℤ → Mode → ℕ → Decision → Type 0
IsVerdict p c f domain bounds mode limit d =
    IsAnswer (IsTooLarge p c f domain) (Breaks p) (IsBreak p) (λ k q. IsStrongest p f.object k domain bounds q) (λ k q. Proves p f.object k q) (λ k q r. RanksAre p f.object k q r) mode limit d
