-- Classes of bytes.
use Rattle.std.specs.Prelude.{ℕ, Bool, false, not, ◌==◌, ◌||◌, ◌&&◌, List, [], ◌∷◌}
use Rattle.std.proofs.Math.Dec.{leb}

-- space, tab, LF, VT, FF and CR
abbrev pub is_space : ℕ → Bool
is_space b = b == 32 || leb 9 b && leb b 13

abbrev pub is_digit : ℕ → Bool
is_digit b = leb 48 b && leb b 57

-- a letter or an underscore: what a word begins with
abbrev pub is_letter : ℕ → Bool
is_letter b = leb 65 b && leb b 90 || leb 97 b && leb b 122 || b == 95

-- a letter, a digit or an underscore: what a word goes on with
abbrev pub is_word_byte : ℕ → Bool
is_word_byte b = is_letter b || is_digit b

-- what a number goes on with: C11 6.4.8, but for signs
abbrev pub is_number_byte : ℕ → Bool
is_number_byte b = is_word_byte b || b == 46

-- any byte but LF
abbrev pub is_in_line : ℕ → Bool
is_in_line b = not (b == 10)

-- an ASCII character that stands for itself in a character constant: not ' or \ or LF
abbrev pub is_plain : ℕ → Bool
is_plain b = leb b 126 && not (b == 39 || b == 92 || b == 10)

-- what may stand behind a backslash in a character constant: n t r 0 \ ' "
abbrev pub is_escape : ℕ → Bool
is_escape b = b == 110 || b == 116 || b == 114 || b == 48 || b == 92 || b == 39 || b == 34

-- what begins a character constant of another form, where a quote stands directly behind it (C11 6.4.4.4): L u U
abbrev pub is_prefix : ℕ → Bool
is_prefix b = b == 76 || b == 117 || b == 85

-- the first byte of a text
abbrev pub begins_with : (ℕ → Bool) → List ℕ → Bool
begins_with test [] = false
begins_with test (b ∷ text) = test b

abbrev pub is_byte : ℕ → ℕ → Bool
is_byte a b = b == a
