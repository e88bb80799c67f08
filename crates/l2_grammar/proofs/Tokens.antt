-- A token that is a mark.
use Rattle.std.proofs.Common.{◌≡◌, ℕ, zero, suc, List, [], ◌∷◌, ◌⊎◌, inl, inr, Bool, true, false, cond, T, refl, sym, ap, ◌∙◌, subst}
use Rattle.std.proofs.Math.Facts.{eqb_yes}
use Rattle.l2_syntax.specs.declared.token.Mark.{Mark}
use Rattle.l2_syntax.specs.declared.token.Mark.TheVariants as mark
use Rattle.l2_syntax.specs.declared.token.TokenKind.{TokenKind}
use Rattle.l2_syntax.specs.declared.token.TokenKind.TheVariants as kind
use Rattle.l2_grammar.specs.Marks.{is, number_of}
use Rattle.l2_grammar.specs.States.{Sort, State, none}
use Rattle.l2_grammar.specs.Networks.{on}
use Rattle.l2_grammar.specs.Nesting.{stands}
use Rattle.l2_grammar.proofs.Bools.{no}

abbrev marks : List Mark
marks = mark.OpenBracket ∷ mark.CloseBracket ∷ mark.OpenParenthesis ∷ mark.CloseParenthesis ∷ mark.OpenBrace ∷ mark.CloseBrace ∷ mark.Dot ∷ mark.Arrow ∷ mark.PlusPlus ∷ mark.MinusMinus ∷ mark.Ampersand ∷ mark.Star ∷ mark.Plus ∷ mark.Minus ∷ mark.Tilde ∷ mark.Exclamation ∷ mark.Slash ∷ mark.Percent ∷ mark.ShiftLeft ∷ mark.ShiftRight ∷ mark.Less ∷ mark.Greater ∷ mark.LessEqual ∷ mark.GreaterEqual ∷ mark.EqualEqual ∷ mark.NotEqual ∷ mark.Caret ∷ mark.Bar ∷ mark.AndAnd ∷ mark.OrOr ∷ mark.Question ∷ mark.Colon ∷ mark.Semicolon ∷ mark.Ellipsis ∷ mark.Equal ∷ mark.StarEqual ∷ mark.SlashEqual ∷ mark.PercentEqual ∷ mark.PlusEqual ∷ mark.MinusEqual ∷ mark.ShiftLeftEqual ∷ mark.ShiftRightEqual ∷ mark.AmpersandEqual ∷ mark.CaretEqual ∷ mark.BarEqual ∷ mark.Comma ∷ mark.Hash ∷ mark.HashHash ∷ mark.Bool ∷ mark.Break ∷ mark.Case ∷ mark.Char ∷ mark.Const ∷ mark.Continue ∷ mark.Default ∷ mark.Do ∷ mark.Else ∷ mark.Enum ∷ mark.Extern ∷ mark.For ∷ mark.If ∷ mark.Int ∷ mark.Long ∷ mark.Return ∷ mark.Short ∷ mark.Signed ∷ mark.Sizeof ∷ mark.Static ∷ mark.Struct ∷ mark.Switch ∷ mark.Typedef ∷ mark.Unsigned ∷ mark.Void ∷ mark.While ∷ []

abbrev at : List Mark → ℕ → Mark
at [] n = mark.Comma
at (m ∷ ms) zero = m
at (m ∷ ms) (suc n) = at ms n

at_number : (m : Mark) → at marks (number_of m) ≡ m
at_number mark.OpenBracket = refl
at_number m = refl

same_mark : (m n : Mark) → number_of m ≡ number_of n → m ≡ n
same_mark m n e = sym (at_number m) ∙ ap (λ i. at marks i) e ∙ at_number n

pub is_mark : (m : Mark) (k : TokenKind) → is m k ≡ true → k ≡ kind.Mark m
unfolding is
is_mark m (kind.Mark n) e = ap kind.Mark (sym (same_mark m n (eqb_yes (subst T (sym e) tt))))
is_mark m k e = absurd (cc)

-- behind a token so where it is the mark, else otherwise
pub on_or : (s : Sort) (m : Mark) (x y : State) (k : TokenKind) → stands s (on m x k y) ≡ true → ((k ≡ kind.Mark m) × (stands s x ≡ true)) ⊎ (stands s y ≡ true)
on_or s m x y k e = go (is m k) refl e
  where
    go : (b : Bool) → is m k ≡ b → stands s (cond b x y) ≡ true → ((k ≡ kind.Mark m) × (stands s x ≡ true)) ⊎ (stands s y ≡ true)
    go true i f = inl (is_mark m k i, f)
    go false i f = inr f

pub none_stands : (s : Sort) → stands s none ≡ false
unfolding stands
none_stands s = refl

pub on_only : (s : Sort) (m : Mark) (x : State) (k : TokenKind) → stands s (on m x k none) ≡ true → k ≡ kind.Mark m
on_only s m x k e = go (on_or s m x none k e)
  where
    go : ((k ≡ kind.Mark m) × (stands s x ≡ true)) ⊎ (stands s none ≡ true) → k ≡ kind.Mark m
    go (inl p) = p.0
    go (inr q) = absurd (no q (none_stands s))

pub on_two : (s : Sort) (m n : Mark) (x y : State) (k : TokenKind) → stands s (on m x k (on n y k none)) ≡ true → (k ≡ kind.Mark m) ⊎ (k ≡ kind.Mark n)
on_two s m n x y k e = go (on_or s m x (on n y k none) k e)
  where
    go : ((k ≡ kind.Mark m) × (stands s x ≡ true)) ⊎ (stands s (on n y k none) ≡ true) → (k ≡ kind.Mark m) ⊎ (k ≡ kind.Mark n)
    go (inl p) = inl p.0
    go (inr q) = inr (on_only s n y k q)

-- a token that isn't the mark
pub on_not : (s : Sort) (m : Mark) (x : State) (k : TokenKind) → (k ≡ kind.Mark m → ⊥) → stands s (on m x k none) ≡ false
on_not s m x k f = go (is m k) refl
  where
    go : (b : Bool) → is m k ≡ b → stands s (cond b x none) ≡ false
    go true i = absurd (f (is_mark m k i))
    go false i = none_stands s
