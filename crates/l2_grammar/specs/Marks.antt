-- Which punctuator or keyword a token is.
use Rattle.std.specs.Prelude.{ℕ, Bool, false, eqb}
use Rattle.l2_syntax.specs.declared.token.Mark.{Mark}
use Rattle.l2_syntax.specs.declared.token.Mark.TheVariants as mark
use Rattle.l2_syntax.specs.declared.token.TokenKind.{TokenKind}
use Rattle.l2_syntax.specs.declared.token.TokenKind.TheVariants as kind

abbrev pub number_of : Mark → ℕ
number_of mark.OpenBracket = 0
number_of mark.CloseBracket = 1
number_of mark.OpenParenthesis = 2
number_of mark.CloseParenthesis = 3
number_of mark.OpenBrace = 4
number_of mark.CloseBrace = 5
number_of mark.Dot = 6
number_of mark.Arrow = 7
number_of mark.PlusPlus = 8
number_of mark.MinusMinus = 9
number_of mark.Ampersand = 10
number_of mark.Star = 11
number_of mark.Plus = 12
number_of mark.Minus = 13
number_of mark.Tilde = 14
number_of mark.Exclamation = 15
number_of mark.Slash = 16
number_of mark.Percent = 17
number_of mark.ShiftLeft = 18
number_of mark.ShiftRight = 19
number_of mark.Less = 20
number_of mark.Greater = 21
number_of mark.LessEqual = 22
number_of mark.GreaterEqual = 23
number_of mark.EqualEqual = 24
number_of mark.NotEqual = 25
number_of mark.Caret = 26
number_of mark.Bar = 27
number_of mark.AndAnd = 28
number_of mark.OrOr = 29
number_of mark.Question = 30
number_of mark.Colon = 31
number_of mark.Semicolon = 32
number_of mark.Ellipsis = 33
number_of mark.Equal = 34
number_of mark.StarEqual = 35
number_of mark.SlashEqual = 36
number_of mark.PercentEqual = 37
number_of mark.PlusEqual = 38
number_of mark.MinusEqual = 39
number_of mark.ShiftLeftEqual = 40
number_of mark.ShiftRightEqual = 41
number_of mark.AmpersandEqual = 42
number_of mark.CaretEqual = 43
number_of mark.BarEqual = 44
number_of mark.Comma = 45
number_of mark.Hash = 46
number_of mark.HashHash = 47
number_of mark.Bool = 48
number_of mark.Break = 49
number_of mark.Case = 50
number_of mark.Char = 51
number_of mark.Const = 52
number_of mark.Continue = 53
number_of mark.Default = 54
number_of mark.Do = 55
number_of mark.Else = 56
number_of mark.Enum = 57
number_of mark.Extern = 58
number_of mark.For = 59
number_of mark.If = 60
number_of mark.Int = 61
number_of mark.Long = 62
number_of mark.Return = 63
number_of mark.Short = 64
number_of mark.Signed = 65
number_of mark.Sizeof = 66
number_of mark.Static = 67
number_of mark.Struct = 68
number_of mark.Switch = 69
number_of mark.Typedef = 70
number_of mark.Unsigned = 71
number_of mark.Void = 72
number_of mark.While = 73

-- the token is this mark
unfoldable pub is : Mark → TokenKind → Bool
is m (kind.Mark n) = eqb (number_of m) (number_of n)
is m k = false
