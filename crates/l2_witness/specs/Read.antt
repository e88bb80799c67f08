-- How far a values file has been read.
use Rattle.std.specs.Prelude.{◌≡◌, ⊤, ℕ, ℤ, List, [], ◌∷◌, ◌++◌, map}
use Rattle.l2_lines.specs.Lines.{IsLine, ended}
use Rattle.l2_witness.specs.declared.reading.Stage.{Stage}
use Rattle.l2_witness.specs.declared.reading.Stage.TheVariants.{Header, Turns, Choices, Over}
use Rattle.l2_witness.specs.declared.reading.Reading.{Reading}
use Rattle.l2_witness.specs.ValuesFile.{header, turns_line, choice_line, file_lines, InRange}

-- the lines that were read when this is what comes next
abbrev pub lines_before : Stage → ℕ → List ℤ → List (List ℕ)
lines_before Header turns choices = []
lines_before Turns turns choices = header ∷ []
lines_before Choices turns choices = header ∷ turns_line turns ∷ map choice_line choices
lines_before Over turns choices = file_lines turns choices

abbrev pub seen : Reading → List (List ℕ)
seen r = lines_before r.stage r.turns r.choices.items

-- no choice was read before the choices
abbrev pub NoneBefore : Stage → List ℤ → Type 0
NoneBefore Header choices = choices ≡ []
NoneBefore Turns choices = choices ≡ []
NoneBefore Choices choices = ⊤
NoneBefore Over choices = ⊤

-- what was read of the values is in range
pub record Keeps (r : Reading) : Type 0 where
  pub in_range : InRange r.turns r.choices.items
  pub none_before : NoneBefore r.stage r.choices.items

-- one more line was read of a text
abbrev pub ReadsLine : Reading → Reading → List ℕ → List ℕ → Type 0
ReadsLine old new text rest = (line : List ℕ) × IsLine line × (text ≡ ended line ++ rest) × (seen new ≡ seen old ++ ended line ∷ [])
