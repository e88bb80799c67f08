-- Derivation files: their lines, and the bytes that spell the steps of a derivation. A step's line is that of a certificate.
use Rattle.std.specs.Prelude.{◌≡◌, ℕ, List, [], ◌∷◌, ◌++◌, length, map, codes}
use Rattle.std.specs.List.{concat}
use Rattle.std.specs.Fmt.{decimal}
use Rattle.l2_cnf.specs.Steps.{Step}
use Rattle.l2_lines.specs.Lines.{ended}
use Rattle.l2_cert.specs.Words.{line_of}
use Rattle.l2_cert.specs.Certificate.{IsGoal, step_line}

abbrev pub header : List ℕ
header = codes "2ls derivation 1"

abbrev pub count_text : ℕ → List ℕ
count_text n = codes "lines " ++ decimal n

abbrev pub last_text : List ℕ
last_text = codes "end"

-- the number, then the literals and the hints, a 0 behind each of the two
abbrev pub step_text : Step → List ℕ
step_text s = line_of (step_line s)

-- the lines behind the number of steps
abbrev pub lines_behind : List Step → List (List ℕ)
lines_behind steps = map step_text steps ++ ended last_text ∷ []

abbrev pub file_lines : List Step → List (List ℕ)
file_lines steps = ended header ∷ ended (count_text (length steps)) ∷ lines_behind steps

-- the one spelling of these steps
abbrev pub spelling : List Step → List ℕ
spelling steps = concat (file_lines steps)

-- these are all the lines of some derivation file
abbrev pub IsFile : List (List ℕ) → Type 0
IsFile lines = (steps : List Step) × IsGoal steps × (lines ≡ file_lines steps)
