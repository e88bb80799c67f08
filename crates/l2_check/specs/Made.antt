-- Formulas as they are made, with a certificate's steps.
use Rattle.std.specs.Prelude.{◌≤◌, length}
use Rattle.l2_cnf.specs.Logic.{AllWithin}
use Rattle.l2_code.specs.Trees.{CodeTree}
use Rattle.l2_code.specs.Sets.{Family}
use Rattle.l2_unwind.specs.Refused.{most_weight}
use Rattle.l2_cert.specs.declared.cert.Cert.{Cert}
use Rattle.l2_goals.specs.declared.making.Goals as rust
use Rattle.l2_goals.specs.Numbers.{AreFormulas}
use Rattle.l2_derivations.specs.Goals.{Goals, BreaksAt, StaysOpen}
use Rattle.l2_check.specs.declared.checking.CheckError.{CheckError}
use Rattle.l2_check.specs.declared.checking.CheckError.TheVariants.{BadName, Size, WrongGoals, BadStep, Unclosed, NoMemory}
use Rattle.l2_check.specs.Accepting.{formulas_at, weight_at}

abbrev pub problem_with : rust.Goals → Cert → Goals
problem_with g c = record { base = g.base; variables = g.variables; last = g.last; steps = c.goals }

-- the formulas of a code that isn't too large
pub record AreMade (t : CodeTree) (f : Family) (c : Cert) (g : rust.Goals) : Type 0 where
  pub small : weight_at t f c ≤ most_weight
  pub formulas : AreFormulas g (formulas_at t f c)
  pub base : AllWithin g.variables g.base
  pub last : AllWithin g.variables g.last

-- of these goals one isn't refuted, or memory is wanting
abbrev pub IsStepError : Goals → CheckError → Type 0
IsStepError g (BadName line) = ⊥
IsStepError g Size = ⊥
IsStepError g (WrongGoals have want) = ⊥
IsStepError g (BadStep goal step) = BreaksAt g 0 (length g.steps) goal step
IsStepError g (Unclosed goal) = StaysOpen g 0 (length g.steps) goal
IsStepError g NoMemory = Unit {0}
