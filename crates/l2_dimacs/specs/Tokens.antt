-- A text as tokens: words between white space, each with the number of its line. A line that begins with `c` has none.
use Rattle.std.specs.Prelude.{ℕ, suc, Bool, ◌==◌, ◌||◌, if◌then◌else◌, List, [], ◌∷◌, ◌++◌}

pub record Token : Type 0 where
  -- counted from 1
  pub line : ℕ
  pub word : List ℕ

abbrev pub token : ℕ → List ℕ → Token
token n word = record { line = n; word = word }

-- a byte before the first piece
abbrev pub before_first : ℕ → List (List ℕ) → List (List ℕ)
before_first b [] = (b ∷ []) ∷ []
before_first b (piece ∷ pieces) = (b ∷ piece) ∷ pieces

-- a text cut at each byte of some kind: one piece more than there are such bytes, and some may be empty
abbrev pub pieces : (ℕ → Bool) → List ℕ → List (List ℕ)
pieces cuts [] = [] ∷ []
pieces cuts (b ∷ bs) = if cuts b then [] ∷ pieces cuts bs else before_first b (pieces cuts bs)

-- LF
abbrev pub ends_line : ℕ → Bool
ends_line b = b == 10

-- space, tab, CR
abbrev pub is_blank : ℕ → Bool
is_blank b = b == 32 || (b == 9 || b == 13)

abbrev pub lines : List ℕ → List (List ℕ)
lines text = pieces ends_line text

-- the words among the pieces of a line of this number: those that aren't empty
abbrev pub words_at : ℕ → List (List ℕ) → List Token
words_at n [] = []
words_at n ([] ∷ more) = words_at n more
words_at n ((b ∷ word) ∷ more) = token n (b ∷ word) ∷ words_at n more

-- the words of a line, also where it begins with `c`
abbrev pub line_words : ℕ → List ℕ → List Token
line_words n line = words_at n (pieces is_blank line)

-- the tokens of a line
abbrev pub line_tokens : ℕ → List ℕ → List Token
line_tokens n [] = []
line_tokens n (b ∷ bs) = if b == 99 then [] else line_words n (b ∷ bs)

-- the tokens of lines, of which the first has this number
abbrev pub tokens_from : ℕ → List (List ℕ) → List Token
tokens_from n [] = []
tokens_from n (line ∷ more) = line_tokens n line ++ tokens_from (suc n) more

abbrev pub tokens : List ℕ → List Token
tokens text = tokens_from 1 (lines text)
