-- A token that is a mark: its kind is known.
use Rattle.std.proofs.Common.{◌≡◌, refl, ap, sym, ◌∙◌, List, [], ◌∷◌, Bool, true, false, ℕ}
use Rattle.std.proofs.lemmas.Bool.{eqb-true}
use Rattle.std.specs.Prelude.{eqb, slice_index_or, cond}
use Rattle.l2_syntax.specs.declared.token.Mark.{Mark}
use Rattle.l2_syntax.specs.declared.token.Mark.TheVariants as mark
use Rattle.l2_syntax.specs.declared.token.TokenKind.{TokenKind}
use Rattle.l2_syntax.specs.declared.token.TokenKind.TheVariants as kind
use Rattle.l2_grammar.specs.declared.states.Sort.{Sort}
use Rattle.l2_grammar.specs.declared.states.State.{State}
use Rattle.l2_grammar.specs.declared.states.State.TheVariants.{None as none}
use Rattle.l2_grammar.specs.Marks.{number_of, is}
use Rattle.l2_grammar.specs.Networks.{on}
use Rattle.l2_grammar.specs.Nesting.{stands}

abbrev marks : List Mark
marks = mark.OpenBracket ∷ mark.CloseBracket ∷ mark.OpenParenthesis ∷ mark.CloseParenthesis ∷ mark.OpenBrace ∷ mark.CloseBrace ∷ mark.Dot ∷ mark.Arrow ∷ mark.PlusPlus ∷ mark.MinusMinus ∷ mark.Ampersand ∷ mark.Star ∷ mark.Plus ∷ mark.Minus ∷ mark.Tilde ∷ mark.Exclamation ∷ mark.Slash ∷ mark.Percent ∷ mark.ShiftLeft ∷ mark.ShiftRight ∷ mark.Less ∷ mark.Greater ∷ mark.LessEqual ∷ mark.GreaterEqual ∷ mark.EqualEqual ∷ mark.NotEqual ∷ mark.Caret ∷ mark.Bar ∷ mark.AndAnd ∷ mark.OrOr ∷ mark.Question ∷ mark.Colon ∷ mark.Semicolon ∷ mark.Ellipsis ∷ mark.Equal ∷ mark.StarEqual ∷ mark.SlashEqual ∷ mark.PercentEqual ∷ mark.PlusEqual ∷ mark.MinusEqual ∷ mark.ShiftLeftEqual ∷ mark.ShiftRightEqual ∷ mark.AmpersandEqual ∷ mark.CaretEqual ∷ mark.BarEqual ∷ mark.Comma ∷ mark.Hash ∷ mark.HashHash ∷ mark.Bool ∷ mark.Break ∷ mark.Case ∷ mark.Char ∷ mark.Const ∷ mark.Continue ∷ mark.Default ∷ mark.Do ∷ mark.Else ∷ mark.Enum ∷ mark.Extern ∷ mark.For ∷ mark.If ∷ mark.Int ∷ mark.Long ∷ mark.Return ∷ mark.Short ∷ mark.Signed ∷ mark.Sizeof ∷ mark.Static ∷ mark.Struct ∷ mark.Switch ∷ mark.Typedef ∷ mark.Unsigned ∷ mark.Void ∷ mark.While ∷ []

numbered : (m : Mark) → slice_index_or marks (number_of m) mark.OpenBracket ≡ m
numbered mark.OpenBracket = refl
numbered mark.CloseBracket = refl
numbered mark.OpenParenthesis = refl
numbered mark.CloseParenthesis = refl
numbered mark.OpenBrace = refl
numbered mark.CloseBrace = refl
numbered mark.Dot = refl
numbered mark.Arrow = refl
numbered mark.PlusPlus = refl
numbered mark.MinusMinus = refl
numbered mark.Ampersand = refl
numbered mark.Star = refl
numbered mark.Plus = refl
numbered mark.Minus = refl
numbered mark.Tilde = refl
numbered mark.Exclamation = refl
numbered mark.Slash = refl
numbered mark.Percent = refl
numbered mark.ShiftLeft = refl
numbered mark.ShiftRight = refl
numbered mark.Less = refl
numbered mark.Greater = refl
numbered mark.LessEqual = refl
numbered mark.GreaterEqual = refl
numbered mark.EqualEqual = refl
numbered mark.NotEqual = refl
numbered mark.Caret = refl
numbered mark.Bar = refl
numbered mark.AndAnd = refl
numbered mark.OrOr = refl
numbered mark.Question = refl
numbered mark.Colon = refl
numbered mark.Semicolon = refl
numbered mark.Ellipsis = refl
numbered mark.Equal = refl
numbered mark.StarEqual = refl
numbered mark.SlashEqual = refl
numbered mark.PercentEqual = refl
numbered mark.PlusEqual = refl
numbered mark.MinusEqual = refl
numbered mark.ShiftLeftEqual = refl
numbered mark.ShiftRightEqual = refl
numbered mark.AmpersandEqual = refl
numbered mark.CaretEqual = refl
numbered mark.BarEqual = refl
numbered mark.Comma = refl
numbered mark.Hash = refl
numbered mark.HashHash = refl
numbered mark.Bool = refl
numbered mark.Break = refl
numbered mark.Case = refl
numbered mark.Char = refl
numbered mark.Const = refl
numbered mark.Continue = refl
numbered mark.Default = refl
numbered mark.Do = refl
numbered mark.Else = refl
numbered mark.Enum = refl
numbered mark.Extern = refl
numbered mark.For = refl
numbered mark.If = refl
numbered mark.Int = refl
numbered mark.Long = refl
numbered mark.Return = refl
numbered mark.Short = refl
numbered mark.Signed = refl
numbered mark.Sizeof = refl
numbered mark.Static = refl
numbered mark.Struct = refl
numbered mark.Switch = refl
numbered mark.Typedef = refl
numbered mark.Unsigned = refl
numbered mark.Void = refl
numbered mark.While = refl

tells : (m n : Mark) → eqb (number_of m) (number_of n) ≡ true → n ≡ m
tells m n h = sym (numbered n) ∙ ap (λ i. slice_index_or marks i mark.OpenBracket) (sym (eqb-true (number_of m) (number_of n) h)) ∙ numbered m

pub is_mark : (m : Mark) (k : TokenKind) → is m k ≡ true → k ≡ kind.Mark m
unfolding is
is_mark m (kind.Mark n) h = ap kind.Mark (tells m n h)
is_mark m k h = absurd (cc)

pub only_mark : (s : Sort) (m : Mark) (k : TokenKind) (q : State) → stands s (on m q k none) ≡ true → k ≡ kind.Mark m
unfolding stands
only_mark s m k q h = go (is m k) refl h where
  go : (b : Bool) → is m k ≡ b → stands s (cond b q none) ≡ true → k ≡ kind.Mark m
  go true e h = is_mark m k e
  go false e h = absurd (cc)
