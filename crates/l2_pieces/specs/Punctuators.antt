-- The punctuators of C11 6.4.6 without digraphs.
use Rattle.std.specs.Prelude.{ℕ, Option, None, Some, cond, List, [], ◌∷◌, codes}
use Rattle.std.specs.Str.{bytes_eq}
use Rattle.l2_syntax.specs.declared.token.Mark.{Mark}
use Rattle.l2_syntax.specs.declared.token.Mark.TheVariants as mark

-- a mark as it is spelt
pub record Spelling : Type 0 where
  pub bytes : List ℕ
  pub mark : Mark

abbrev pub spelt : List ℕ → Mark → Spelling
spelt w m = record { bytes = w; mark = m }

-- the mark that is spelt so, if the table has one
abbrev pub mark_in : List Spelling → List ℕ → Option Mark
mark_in [] w = None
mark_in (s ∷ table) w = cond (bytes_eq s.bytes w) (Some s.mark) (mark_in table w)

abbrev pub single : List Spelling
single =
    spelt (codes "[") mark.OpenBracket ∷ spelt (codes "]") mark.CloseBracket ∷ spelt (codes "(") mark.OpenParenthesis ∷ spelt (codes ")") mark.CloseParenthesis
    ∷ spelt (codes "{") mark.OpenBrace ∷ spelt (codes "}") mark.CloseBrace ∷ spelt (codes ".") mark.Dot ∷ spelt (codes "&") mark.Ampersand ∷ spelt (codes "*") mark.Star
    ∷ spelt (codes "+") mark.Plus ∷ spelt (codes "-") mark.Minus ∷ spelt (codes "~") mark.Tilde ∷ spelt (codes "!") mark.Exclamation ∷ spelt (codes "/") mark.Slash
    ∷ spelt (codes "%") mark.Percent ∷ spelt (codes "<") mark.Less ∷ spelt (codes ">") mark.Greater ∷ spelt (codes "^") mark.Caret ∷ spelt (codes "|") mark.Bar
    ∷ spelt (codes "?") mark.Question ∷ spelt (codes ":") mark.Colon ∷ spelt (codes ";") mark.Semicolon ∷ spelt (codes "=") mark.Equal ∷ spelt (codes ",") mark.Comma
    ∷ spelt (codes "#") mark.Hash ∷ []

abbrev pub double : List Spelling
double =
    spelt (codes "->") mark.Arrow ∷ spelt (codes "++") mark.PlusPlus ∷ spelt (codes "--") mark.MinusMinus ∷ spelt (codes "<<") mark.ShiftLeft ∷ spelt (codes ">>") mark.ShiftRight
    ∷ spelt (codes "<=") mark.LessEqual ∷ spelt (codes ">=") mark.GreaterEqual ∷ spelt (codes "==") mark.EqualEqual ∷ spelt (codes "!=") mark.NotEqual
    ∷ spelt (codes "&&") mark.AndAnd ∷ spelt (codes "||") mark.OrOr ∷ spelt (codes "*=") mark.StarEqual ∷ spelt (codes "/=") mark.SlashEqual
    ∷ spelt (codes "%=") mark.PercentEqual ∷ spelt (codes "+=") mark.PlusEqual ∷ spelt (codes "-=") mark.MinusEqual ∷ spelt (codes "&=") mark.AmpersandEqual
    ∷ spelt (codes "^=") mark.CaretEqual ∷ spelt (codes "|=") mark.BarEqual ∷ spelt (codes "##") mark.HashHash ∷ []

abbrev pub triple : List Spelling
triple = spelt (codes "...") mark.Ellipsis ∷ spelt (codes "<<=") mark.ShiftLeftEqual ∷ spelt (codes ">>=") mark.ShiftRightEqual ∷ []
