-- Certificates of a code at a point.
use Rattle.std.specs.Prelude.{◌≡◌, ℕ, Bool, List}
use Rattle.l2_cnf.specs.Steps.{Step}
use Rattle.l2_templates.specs.declared.form.Form.{Form}
use Rattle.l2_templates.specs.declared.point.LoopPoint.{LoopPoint}
use Rattle.l2_cert.specs.declared.cert.Cert.{Cert}
use Rattle.l2_cert.specs.declared.cert.CertKind.{CertKind}
use Rattle.l2_cert.specs.Certificate.{InGrammar}
use Rattle.l2_derivations.specs.Goals.{Goals}
use Rattle.l2_goals.specs.Formulas.{Formulas}
use Rattle.l2_goals.specs.Numbers.{all_numbers}
use Rattle.l2_refute.specs.Refuting.{SomeHasModel, AreRefuted}

-- the goals of these formulas, with their steps
abbrev pub goals_with : Formulas → List (List Step) → Goals
goals_with fs steps = record { base = all_numbers fs.base; variables = fs.variables; last = all_numbers fs.last; steps = steps }

-- the formula of some goal has a model
abbrev pub SomeGoalHasModel : Formulas → Type 0
SomeGoalHasModel fs = SomeHasModel (all_numbers fs.base) (all_numbers fs.last)

-- a certificate of this kind, number of copies, point and rankings, which a file can spell, and whose steps refute the goals of these formulas
pub record Certifies (kind : CertKind) (overflow : Bool) (k : ℕ) (point : List LoopPoint) (ranks : List (List Form)) (fs : Formulas) (c : Cert) : Type 0 where
  pub kind_is : c.kind ≡ kind
  pub overflow_is : c.overflow ≡ overflow
  pub k_is : c.k ≡ k
  pub point_is : c.point ≡ point
  pub ranks_are : c.ranks ≡ ranks
  pub spelt : InGrammar c
  pub refuted : AreRefuted (goals_with fs c.goals)
