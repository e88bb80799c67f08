-- Constants are numbers of at most 64 bits.
use Rattle.std.specs.Prelude.{ℕ, ℤ, pos, negsuc, ◌<◌, ◌≤◌, ◌≤ℤ◌, List, [], ◌∷◌, All}
use Rattle.l2_syntax.specs.declared.token.TokenKind.{TokenKind}
use Rattle.l2_syntax.specs.declared.token.TokenKind.TheVariants.{Number}
use Rattle.l2_syntax.specs.declared.token.Token.{Token}
use Rattle.l2_lex.specs.Lexing.{tokens_of}
use Rattle.l2_meaning.specs.Thresholds.{thresholds_of}

-- from -2^63 to 2^64 - 1
abbrev pub IsSmall : ℤ → Type 0
IsSmall (pos n) = n ≤ 18446744073709551615
IsSmall (negsuc n) = n ≤ 9223372036854775807

abbrev pub HasSmall : TokenKind → Type 0
HasSmall (Number z y) = IsSmall z
HasSmall k = Unit {0}

-- each constant among these tokens is small
abbrev pub AreSmall : List Token → Type 0
AreSmall [] = Unit {0}
AreSmall (t ∷ tokens) = HasSmall t.kind × AreSmall tokens

abbrev pub AreBytes : List ℕ → Type 0
AreBytes [] = Unit {0}
AreBytes (b ∷ bytes) = (b < 256) × AreBytes bytes

abbrev pub ConstantsLaw : Type 0
ConstantsLaw = (text : List ℕ) → AreBytes text → AreSmall (tokens_of text).list

-- what a row's bound may be
abbrev pub IsBound : ℤ → Type 0
IsBound z = (negsuc 18446744073709551615 ≤ℤ z) × (z ≤ℤ pos 18446744073709551616)

abbrev pub ThresholdsLaw : Type 0
ThresholdsLaw = (tokens : List Token) → AreSmall tokens → All IsBound (thresholds_of tokens)
