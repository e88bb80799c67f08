-- A derivation file that is being read: which lines may still come.
use Rattle.std.specs.Prelude.{◌≡◌, ◌⊎◌, ℕ, ◌+◌, ◌<◌, ◌^◌, List, [], ◌∷◌, ◌++◌, length, ◌↔◌}
use Rattle.std.specs.List.{All}
use Rattle.l2_cnf.specs.Steps.{Step}
use Rattle.l2_lines.specs.Lines.{IsLine, ended}
use Rattle.l2_cert.specs.Certificate.{IsGoal, IsStep}
use Rattle.l2_derivation_file.specs.declared.reading.Reading.{Reading}
use Rattle.l2_derivation_file.specs.declared.reading.Stage.{Stage}
use Rattle.l2_derivation_file.specs.declared.reading.Stage.TheVariants.{Header, Count, Steps, Over}
use Rattle.l2_derivation_file.specs.File.{file_lines, count_text, lines_behind}

-- behind these steps so many more
pub record IsRest (before : List Step) (m : ℕ) (rest : List (List ℕ)) (steps : List Step) : Type 0 where
  pub more : List Step
  pub whole : steps ≡ before ++ more
  pub count : length more ≡ m
  pub lines : rest ≡ lines_behind more

-- what was read and then these lines are the file of these steps
abbrev pub CompletesAt : Stage → Reading → List (List ℕ) → List Step → Type 0
CompletesAt Header r rest steps = IsGoal steps × (rest ≡ file_lines steps)
CompletesAt Count r rest steps = IsGoal steps × (rest ≡ ended (count_text (length steps)) ∷ lines_behind steps)
CompletesAt Steps r rest steps = IsGoal steps × IsRest r.steps r.to_come rest steps
CompletesAt Over r rest steps = (rest ≡ []) × (steps ≡ r.steps)

abbrev pub Completes : Reading → List (List ℕ) → List Step → Type 0
Completes r rest steps = CompletesAt r.stage r rest steps

-- by a line from one reading to another: the same lines complete them
abbrev pub Goes : Reading → List ℕ → Reading → Type 0
Goes r line s = (rest : List (List ℕ)) (steps : List Step) → Completes r (ended line ∷ rest) steps ↔ Completes s rest steps

-- no derivation file goes on with this line
abbrev pub Stops : Reading → List ℕ → Type 0
Stops r line = (rest : List (List ℕ)) (steps : List Step) → ¬ Completes r (ended line ∷ rest) steps

-- what was read is in order
abbrev pub KeptAt : Stage → Reading → Type 0
KeptAt Header r = r.steps ≡ []
KeptAt Count r = r.steps ≡ []
KeptAt Steps r = All IsStep r.steps × (length r.steps + r.to_come < 2 ^ 62)
KeptAt Over r = IsGoal r.steps

abbrev pub Kept : Reading → Type 0
Kept r = KeptAt r.stage r

-- one line of a text was taken
abbrev pub ReadsLine : Reading → Reading → List ℕ → List ℕ → Type 0
ReadsLine r s text rest = (line : List ℕ) × IsLine line × (text ≡ ended line ++ rest) × Goes r line s

-- the first line of a text has no LF, or isn't taken
abbrev pub StopsAt : Reading → List ℕ → Type 0
StopsAt r text = IsLine text ⊎ ((line rest : List ℕ) × IsLine line × (text ≡ ended line ++ rest) × Stops r line)
