-- The lines of a text, and the first of them that no file has after those before it.
use Rattle.std.specs.Prelude.{◌≡◌, ◌≢◌, ◌⊎◌, ⊤, ℕ, ◌+◌, ◌<◌, ◌==◌, if◌then◌else◌, List, [], ◌∷◌, ◌++◌, length}
use Rattle.std.specs.List.{All}

-- a byte before the first line
abbrev pub before_first_line : ℕ → List (List ℕ) → List (List ℕ)
before_first_line b [] = (b ∷ []) ∷ []
before_first_line b (line ∷ lines) = (b ∷ line) ∷ lines

-- a text cut behind each LF: lines that end with their LF, and then what no LF ends, where there is such
abbrev pub lines_of : List ℕ → List (List ℕ)
lines_of [] = []
lines_of (b ∷ bs) = if b == 10 then (10 ∷ []) ∷ lines_of bs else before_first_line b (lines_of bs)

-- a line without its LF
abbrev pub IsLine : List ℕ → Type 0
IsLine line = All (λ b. b ≢ 10) line

-- a line with its LF behind it
abbrev pub ended : List ℕ → List ℕ
ended line = line ++ 10 ∷ []

-- this is a line with its LF
abbrev pub IsEnded : List ℕ → Type 0
IsEnded text = (line : List ℕ) × IsLine line × (text ≡ ended line)

-- lines as they stand in a text: each but the last ends with its only LF, and the last one may have none
abbrev pub AreLines : List (List ℕ) → Type 0
AreLines [] = ⊤
AreLines (text ∷ []) = IsEnded text ⊎ (IsLine text × (0 < length text))
AreLines (text ∷ next ∷ lines) = IsEnded text × AreLines (next ∷ lines)

-- some file begins with these lines
abbrev pub Begins : (List (List ℕ) → Type 0) → List (List ℕ) → Type 0
Begins IsFile given = (more : List (List ℕ)) × IsFile (given ++ more)

-- no file goes on like the second lines behind the first: where nothing follows none ends there, and else none has the
-- next line there
abbrev pub GoesOnInNone : (List (List ℕ) → Type 0) → List (List ℕ) → List (List ℕ) → Type 0
GoesOnInNone IsFile before [] = ¬ IsFile before
GoesOnInNone IsFile before (line ∷ _) = ¬ Begins IsFile (before ++ line ∷ [])

-- line `n` of these, counted from 1, is the first that no file has after those before it. It is one past the last where
-- they end too early
abbrev pub IsFirstBad : (List (List ℕ) → Type 0) → List (List ℕ) → ℕ → Type 0
IsFirstBad IsFile lines n = (before rest : List (List ℕ)) × (lines ≡ before ++ rest) × (n ≡ length before + 1) × Begins IsFile before × GoesOnInNone IsFile before rest
