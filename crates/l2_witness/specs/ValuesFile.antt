-- The values file: its lines, and the bytes that spell the values.
use Rattle.std.specs.Prelude.{◌≡◌, ℕ, ◌-◌, ◌^◌, ◌≤◌, ℤ, pos, negsuc, ◌≤ℤ◌, ◌<ℤ◌, List, [], ◌∷◌, ◌++◌, map, codes}
use Rattle.std.specs.List.{All, concat}
use Rattle.std.specs.Fmt.{decimal, signed_decimal}
use Rattle.l2_lines.specs.Lines.{ended}

abbrev pub header : List ℕ
header = ended (codes "2ls values 1")

abbrev pub turns_line : ℕ → List ℕ
turns_line turns = ended (codes "turns " ++ decimal turns)

abbrev pub choice_line : ℤ → List ℕ
choice_line choice = ended (codes "choice " ++ signed_decimal choice)

abbrev pub last_line : List ℕ
last_line = ended (codes "end")

-- the lines of the file of these values
abbrev pub file_lines : ℕ → List ℤ → List (List ℕ)
file_lines turns choices = header ∷ turns_line turns ∷ (map choice_line choices ++ last_line ∷ [])

-- the one spelling of these values
abbrev pub spelling : ℕ → List ℤ → List ℕ
spelling turns choices = concat (file_lines turns choices)

-- from -2^63 to 2^64 - 1
abbrev pub IsChoice : ℤ → Type 0
IsChoice choice = (negsuc (2 ^ 63 - 1) ≤ℤ choice) × (choice <ℤ pos (2 ^ 64))

-- the values are in the file's ranges
pub record InRange (turns : ℕ) (choices : List ℤ) : Type 0 where
  pub turns_within : turns ≤ 100000000
  pub choices_within : All IsChoice choices

-- these are all the lines of some values file
abbrev pub IsFile : List (List ℕ) → Type 0
IsFile lines = (turns : ℕ) × (choices : List ℤ) × InRange turns choices × (lines ≡ file_lines turns choices)
