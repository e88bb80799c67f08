-- A line as its words, which are parted by one space.
use Rattle.std.specs.Prelude.{◌≢◌, ℕ, ◌==◌, if◌then◌else◌, List, [], ◌∷◌, ◌++◌, map}
use Rattle.std.specs.List.{All, concat}
use Rattle.l2_lines.specs.Lines.{ended}

abbrev pub Word : Type 0
Word = List ℕ

-- words with a space between each two
abbrev pub spaced : List Word → List ℕ
spaced [] = []
spaced (word ∷ []) = word
spaced (word ∷ next ∷ words) = word ++ 32 ∷ spaced (next ∷ words)

-- a byte before the first word
abbrev pub before_first_word : ℕ → List Word → List Word
before_first_word b [] = (b ∷ []) ∷ []
before_first_word b (word ∷ words) = (b ∷ word) ∷ words

-- a line cut at its spaces
abbrev pub words_of : List ℕ → List Word
words_of [] = [] ∷ []
words_of (b ∷ bs) = if b == 32 then [] ∷ words_of bs else before_first_word b (words_of bs)

abbrev pub HasNoSpace : List ℕ → Type 0
HasNoSpace text = All (λ b. b ≢ 32) text

-- a word without a space or LF
abbrev pub IsWord : Word → Type 0
IsWord word = All (λ b. (b ≢ 32) × (b ≢ 10)) word

-- the line of some words
abbrev pub line_of : List Word → List ℕ
line_of words = ended (spaced words)

-- the text of some lines
abbrev pub text_of : List (List Word) → List ℕ
text_of lines = concat (map line_of lines)
