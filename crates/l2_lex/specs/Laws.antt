-- What holds of the tokens of every text.
use Rattle.std.specs.Prelude.{◌≡◌, ◌<◌, ℕ, Bool, false, Option, None, Some, List, [], ◌∷◌, ◌++◌, length}
use Rattle.l2_syntax.specs.declared.token.TokenKind.{TokenKind}
use Rattle.l2_syntax.specs.declared.token.TokenKind.TheVariants as token
use Rattle.l2_syntax.specs.declared.token.Token.{Token}
use Rattle.l2_syntax.specs.declared.refusal.Refusal.{Refusal}
use Rattle.l2_pieces.specs.Pieces.{behind_all, first_place}
use Rattle.l2_lex.specs.States.{is_known}
use Rattle.l2_lex.specs.Lexing.{Lexed, end_token, tokens_of}

-- no name stands twice
abbrev pub Distinct : List (List ℕ) → Type 0
Distinct [] = Unit {0}
Distinct (w ∷ names) = (is_known names w ≡ false) × Distinct names

-- a word or a type name has the number of one of n names, and the token isn't the end of the text
abbrev pub IsNumbered : ℕ → TokenKind → Type 0
IsNumbered n (token.Word i) = i < n
IsNumbered n (token.TypeName i) = i < n
IsNumbered n token.End = ⊥
IsNumbered n k = Unit {0}

abbrev pub AllNumbered : ℕ → List Token → Type 0
AllNumbered n [] = Unit {0}
AllNumbered n (t ∷ tokens) = IsNumbered n t.kind × AllNumbered n tokens

-- a text that isn't stopped ends with `End`, which stands behind it; no other token is `End`
abbrev pub Listed : Option Refusal → List ℕ → ℕ → List Token → Type 0
Listed None text n tokens = (all : List Token) × AllNumbered n all × (tokens ≡ all ++ end_token (behind_all text first_place) ∷ [])
Listed (Some f) text n tokens = AllNumbered n tokens

abbrev pub TokensLaw : Type 0
TokensLaw = (text : List ℕ) → Distinct (tokens_of text).names × Listed (tokens_of text).stop text (length (tokens_of text).names) (tokens_of text).list
