-- What a text begins with: the longest piece that begins at its first byte (C11 6.4).
use Rattle.std.specs.Prelude.{ℕ, zero, suc, ◌+◌, Bool, false, not, cond, ◌==◌, ◌||◌, ◌&&◌, Option, None, Some, List, [], ◌∷◌, take}
use Rattle.std.specs.List.{prefix_len}
use Rattle.l2_syntax.specs.declared.token.Mark.{Mark}
use Rattle.l2_syntax.specs.declared.refusal.Rule.TheVariants as rule
use Rattle.l2_pieces.specs.declared.piece.PieceKind.{PieceKind}
use Rattle.l2_pieces.specs.declared.piece.PieceKind.TheVariants as kind
use Rattle.l2_pieces.specs.declared.piece.Front.{Front}
use Rattle.l2_pieces.specs.Bytes.{is_space, is_letter, is_digit, is_word_byte, is_number_byte, is_in_line, is_plain, is_escape, is_prefix, begins_with, is_byte}
use Rattle.l2_pieces.specs.Punctuators.{mark_in, single, double, triple}

abbrev pub front_of : PieceKind → ℕ → Front
front_of k n = record { kind = k; length = n }

-- how many bytes a comment has by its end `*/`, where n of them have been passed, the last of which is a star or isn't
abbrev pub closed_comment : Bool → ℕ → List ℕ → Option ℕ
closed_comment star n [] = None
closed_comment star n (b ∷ text) = cond (star && b == 47) (Some (n + 1)) (closed_comment (b == 42) (n + 1) text)

-- LF, or CR and LF
abbrev pub ends_line : List ℕ → Bool
ends_line [] = false
ends_line (b ∷ text) = b == 10 || b == 13 && begins_with (is_byte 10) text

-- a backslash directly before the end of a line
abbrev pub is_splice : List ℕ → Bool
is_splice [] = false
is_splice (b ∷ text) = b == 92 && ends_line text

-- how many of the first n bytes stand before the first line splice
abbrev pub unspliced : ℕ → List ℕ → ℕ
unspliced zero text = 0
unspliced (suc n) [] = 0
unspliced (suc n) (b ∷ text) = cond (is_splice (b ∷ text)) 0 (1 + unspliced n text)

-- a comment of n bytes, which is cut before a line splice: the backslash is then a byte that begins nothing
abbrev pub comment : Option ℕ → List ℕ → Front
comment None text = front_of (kind.Fault rule.Comment) 1
comment (Some n) text = front_of kind.Blank (unspliced n text)

-- how many bytes a string literal has by its closing quote on its line, where n of them have been passed, and a backslash stands before or doesn't
abbrev pub closed_string : Bool → ℕ → List ℕ → Option ℕ
closed_string escaped n [] = None
closed_string escaped n (b ∷ text) = cond (b == 10) None (cond (not escaped && b == 34) (Some (n + 1)) (closed_string (not escaped && b == 92) (n + 1) text))

abbrev pub string : Option ℕ → Front
string None = front_of (kind.Fault rule.BadString) 1
string (Some n) = front_of kind.Text n

-- one character and a quote; a backslash, what may stand behind it, and a quote
abbrev pub is_plain_character : List ℕ → Bool
is_plain_character (c ∷ q ∷ text) = is_plain c && q == 39
is_plain_character text = false

abbrev pub is_escaped_character : List ℕ → Bool
is_escaped_character (b ∷ c ∷ q ∷ text) = b == 92 && is_escape c && q == 39
is_escaped_character text = false

-- what begins with a quote, by the text behind it
abbrev pub character : List ℕ → Front
character text = cond (is_plain_character text) (front_of kind.Character 3) (cond (is_escaped_character text) (front_of kind.Character 4) (front_of (kind.Fault rule.Literal) 1))

-- a punctuator of n bytes, or else another front
abbrev pub punctuator : Option Mark → ℕ → Front → Front
punctuator None n other = other
punctuator (Some m) n other = front_of (kind.Mark m) n

-- the longest punctuator, or a byte with which nothing begins
abbrev pub longest_punctuator : List ℕ → Front
longest_punctuator text =
    punctuator (mark_in triple (take 3 text)) 3 (punctuator (mark_in double (take 2 text)) 2 (punctuator (mark_in single (take 1 text)) 1 (front_of (kind.Fault rule.Byte) 1)))

-- what begins with a slash, by the text behind it
abbrev pub slash : List ℕ → Front
slash [] = longest_punctuator (47 ∷ [])
slash (b ∷ text) =
    cond (b == 47) (comment (Some (1 + prefix_len is_in_line (b ∷ text))) (47 ∷ b ∷ text))
    (cond (b == 42) (comment (closed_comment false 2 text) (47 ∷ b ∷ text)) (longest_punctuator (47 ∷ b ∷ text)))

abbrev pub begins_number : ℕ → List ℕ → Bool
begins_number b text = is_digit b || b == 46 && begins_with is_digit text

-- a character constant with a prefix: the word is the prefix alone, and the quote stands directly behind it
abbrev pub begins_prefixed : ℕ → List ℕ → Bool
begins_prefixed b text = is_prefix b && begins_with (is_byte 39) text

abbrev pub front : List ℕ → Front
front [] = front_of kind.Blank 0
front (b ∷ text) =
    cond (is_space b) (front_of kind.Blank (1 + prefix_len is_space text))
    (cond (begins_prefixed b text) (front_of (kind.Fault rule.Literal) 1)
    (cond (is_letter b) (front_of kind.Word (1 + prefix_len is_word_byte text))
    (cond (begins_number b text) (front_of kind.Number (1 + prefix_len is_number_byte text))
    (cond (b == 47) (slash text)
    (cond (b == 39) (character text)
    (cond (b == 34) (string (closed_string false 1 text))
    (longest_punctuator (b ∷ text))))))))
