-- The forms and bounds of rows, by the domain's name.
use Rattle.std.specs.Prelude.{ℤ, pos, List, [], ◌∷◌, Contains}
use Rattle.l2_words.specs.declared.request.DomainName.{DomainName}
use Rattle.l2_words.specs.declared.request.DomainName.TheVariants as name
use Rattle.l2_templates.specs.Domains.{Rises}
use Rattle.l2_templates.specs.declared.families.Family.{Family}
use Rattle.l2_templates.specs.declared.families.Family.TheVariants.{NoRows, Equalities, Intervals, Zones, Octagons}

abbrev pub forms_named : DomainName → Family
forms_named name.NoRows = NoRows
forms_named name.Equalities = Equalities
forms_named name.Intervals = Intervals
forms_named name.Zones = Zones
forms_named name.Octagons = Octagons

-- among these thresholds
abbrev pub bounds_named : DomainName → List ℤ → List ℤ
bounds_named name.NoRows thresholds = []
bounds_named name.Equalities thresholds = pos 0 ∷ []
bounds_named name.Intervals thresholds = thresholds
bounds_named name.Zones thresholds = thresholds
bounds_named name.Octagons thresholds = thresholds

-- the thresholds of a program rise, and 0 is one
pub record AreThresholds (thresholds : List ℤ) : Type 0 where
  pub rise : Rises thresholds
  pub zero : Contains thresholds (pos 0)
