-- The tokens of a text, piece by piece.
use Rattle.std.specs.Prelude.{ℕ, ◌+◌, ◌-◌, Bool, true, false, not, cond, ◌==◌, ◌&&◌, Option, None, Some, List, [], ◌∷◌, ◌++◌, take}
use Rattle.std.specs.List.{prefix_len}
use Rattle.l2_syntax.specs.declared.place.Place.{Place}
use Rattle.l2_syntax.specs.declared.token.Mark.{Mark}
use Rattle.l2_syntax.specs.declared.token.Mark.TheVariants as mark
use Rattle.l2_syntax.specs.declared.token.TokenKind.TheVariants as token
use Rattle.l2_syntax.specs.declared.token.Token.{Token}
use Rattle.l2_syntax.specs.declared.refusal.Rule.{Rule}
use Rattle.l2_syntax.specs.declared.refusal.Rule.TheVariants as rule
use Rattle.l2_syntax.specs.declared.refusal.Refusal.{Refusal}
use Rattle.l2_pieces.specs.declared.piece.PieceKind.{PieceKind}
use Rattle.l2_pieces.specs.declared.piece.PieceKind.TheVariants as kind
use Rattle.l2_pieces.specs.declared.piece.Piece.{Piece}
use Rattle.l2_pieces.specs.Pieces.{pieces, bytes_of, behind_all, first_place}
use Rattle.l2_directives.specs.declared.constant.Constant.{Constant}
use Rattle.l2_directives.specs.declared.role.Role.{Role}
use Rattle.l2_directives.specs.declared.role.Role.TheVariants as role
use Rattle.l2_directives.specs.declared.role.Macro.{Macro}
use Rattle.l2_directives.specs.declared.headers.Header.{Header}
use Rattle.l2_directives.specs.declared.directives.Directive.{Directive}
use Rattle.l2_directives.specs.declared.directives.Directive.TheVariants as directive
use Rattle.l2_directives.specs.declared.words.WordClass.{WordClass}
use Rattle.l2_directives.specs.declared.words.WordClass.TheVariants as class
use Rattle.l2_lex.specs.declared.state.Attribute.{Attribute}
use Rattle.l2_lex.specs.declared.state.Attribute.TheVariants as attribute
use Rattle.l2_directives.specs.Constants.{number, constant_of}
use Rattle.l2_directives.specs.Words.{word_class, is_refused}
use Rattle.l2_directives.specs.Headers.{Entry, entries}
use Rattle.l2_directives.specs.Directives.{directive_of}
use Rattle.l2_lex.specs.States.{State, emit, emit_all, number_kind, macro_kinds, number_of, role_of, know, set_role, learn_all, pass_mark, before_word, declare, no_typedef}

-- the state behind a piece, and the refusal with which the text stops at it
pub record Turn : Type 0 where
  pub state : State
  pub stop : Option Refusal

abbrev pub goes : State → Turn
goes s = record { state = s; stop = None }

abbrev pub stops : Rule → Piece → State → Turn
stops r x s = record { state = s; stop = Some (record { place = x.place; rule = r }) }

-- Names

-- a name that is known and has a number, as its role has it
abbrev pub name_as : Role → ℕ → Piece → State → State
name_as role.Plain n x s = emit (token.Word n) x (declare n s)
name_as role.TypeName n x s = emit (cond (before_word s.before) (token.Word n) (token.TypeName n)) x s
name_as (role.Constant c) n x s = emit (number_kind c) x s
name_as (role.Macro m) n x s = emit_all (macro_kinds m) x s

abbrev pub known_name : ℕ → Piece → State → State
known_name n x s = name_as (role_of s.roles n) n x s

abbrev pub name : List ℕ → Piece → State → State
name w x s = known_name (number_of s.names w) x (know w s)

-- Words and other pieces, outside attributes

abbrev pub pass : Mark → Piece → State → State
pass m x s = emit (token.Mark m) x (pass_mark m s)

abbrev pub word : WordClass → List ℕ → Piece → State → Turn
word class.Refused w x s = stops rule.Keyword x s
word class.Skipped w x s = goes s
word class.Attribute w x s = goes (record s { attribute = attribute.Awaited })
word (class.Keyword m) w x s = goes (pass m x s)
word class.Name w x s = goes (name w x s)

abbrev pub constant : Option Constant → Piece → State → State
constant None x s = s
constant (Some c) x s = emit (number_kind c) x s

abbrev pub token_of : List ℕ → PieceKind → Piece → State → Turn
token_of text kind.Word x s = word (word_class (bytes_of text x)) (bytes_of text x) x s
token_of text kind.Text x s = goes (emit token.Text x s)
token_of text (kind.Mark m) x s = goes (pass m x s)
token_of text k x s = goes (constant (constant_of text x) x s)

-- Attributes: `__attribute__` with its balanced parentheses stands for nothing

abbrev pub is_open : PieceKind → Bool
is_open (kind.Mark mark.OpenParenthesis) = true
is_open k = false

abbrev pub is_close : PieceKind → Bool
is_close (kind.Mark mark.CloseParenthesis) = true
is_close k = false

-- behind a piece inside n parentheses of an attribute
abbrev pub attribute_behind : PieceKind → ℕ → Attribute
attribute_behind k n = cond (is_open k) (attribute.Inside (n + 1)) (cond (is_close k) (cond (n == 1) attribute.Outside (attribute.Inside (n - 1))) (attribute.Inside n))

abbrev pub is_word_refused : List ℕ → Piece → PieceKind → Bool
is_word_refused text x kind.Word = is_refused (word_class (bytes_of text x))
is_word_refused text x k = false

abbrev pub attributed : Attribute → List ℕ → Piece → State → Turn
attributed attribute.Outside text x s = token_of text x.kind x s
attributed attribute.Awaited text x s =
    cond (is_open x.kind) (goes (record s { attribute = attribute.Inside 1 })) (stops (cond (is_word_refused text x x.kind) rule.Keyword rule.Syntax) x s)
attributed (attribute.Inside n) text x s = goes (record s { attribute = attribute_behind x.kind n })

-- Lines that begin with `#`

abbrev pub is_macro : Role → Bool
is_macro (role.Macro m) = true
is_macro r = false

-- a name that stands for a constant already
abbrev pub is_constant : Role → Bool
is_constant (role.Macro m) = true
is_constant (role.Constant c) = true
is_constant r = false

abbrev pub is_defined : List ℕ → State → Bool
is_defined w s = is_macro (role_of s.roles (number_of s.names w))

-- whether the text defines one of these names
abbrev pub defines_one : List Entry → State → Bool
defines_one [] s = false
defines_one (e ∷ entries) s = cond (is_defined e.bytes s) true (defines_one entries s)

-- the rest of this line is passed over
abbrev pub pass_line : Piece → State → State
pass_line x s = record s { line = x.place.line; passed = x.place.line }

abbrev pub include : Header → Piece → State → Turn
include h x s = cond (defines_one (entries h) s) (stops rule.Directive x s) (goes (pass_line x (learn_all (entries h) s)))

abbrev pub become_macro : List ℕ → Macro → State → State
become_macro w m s = set_role (number_of s.names w) (role.Macro m) (know w s)

abbrev pub define : List ℕ → Macro → Piece → State → Turn
define w m x s = cond (is_constant (role_of s.roles (number_of s.names w))) (stops rule.Directive x s) (goes (pass_line x (become_macro w m s)))

-- a comment that isn't closed
abbrev pub is_open_comment : PieceKind → Bool
is_open_comment (kind.Fault rule.Comment) = true
is_open_comment k = false

-- the first of these; it is refused in place of its line
abbrev pub open_comment : List Piece → Option Piece
open_comment [] = None
open_comment (y ∷ line) = cond (is_open_comment y.kind) (Some y) (open_comment line)

abbrev pub comment_or : Option Piece → Turn → State → Turn
comment_or None t s = t
comment_or (Some y) t s = stops rule.Comment y s

abbrev pub direct : Directive → List ℕ → Piece → State → Turn
direct directive.Passed text x s = goes (pass_line x s)
direct (directive.Include h) text x s = include h x s
direct (directive.Define n m) text x s = define (bytes_of text n) m x s
direct directive.Unknown text x s = stops rule.Directive x s

abbrev pub is_passed : Directive → Bool
is_passed directive.Passed = true
is_passed d = false

abbrev pub directed : Directive → List ℕ → Piece → List Piece → State → Turn
directed d text x line s = cond (is_passed d) (direct d text x s) (comment_or (open_comment line) (direct d text x s) s)

abbrev pub is_hash : PieceKind → Bool
is_hash (kind.Mark mark.Hash) = true
is_hash k = false

abbrev pub is_inside : Attribute → Bool
is_inside (attribute.Inside n) = true
is_inside a = false

-- a `#` that is the first piece of its line, outside attributes
abbrev pub begins_directive : Piece → State → Bool
begins_directive x s = is_hash x.kind && not (x.place.line == s.line) && not (is_inside s.attribute)

abbrev pub is_on_line : ℕ → Piece → Bool
is_on_line n x = x.place.line == n

-- the pieces behind a piece on its line
abbrev pub line_behind : Piece → List Piece → List Piece
line_behind x rest = take (prefix_len (is_on_line x.place.line) rest) rest

-- All pieces

-- the rule that a piece breaks by itself
abbrev pub literal_unless : Option Constant → Option Rule
literal_unless None = Some rule.Literal
literal_unless (Some c) = None

abbrev pub own_fault : List ℕ → PieceKind → Piece → Option Rule
own_fault text (kind.Fault r) x = Some r
own_fault text kind.Number x = literal_unless (number (bytes_of text x))
own_fault text k x = None

-- a piece that breaks no rule by itself
abbrev pub step_on : List ℕ → Piece → List Piece → State → Turn
step_on text x rest s =
    cond (x.place.line == s.passed) (goes s)
    (cond (begins_directive x s) (directed (directive_of text (line_behind x rest)) text x (line_behind x rest) s)
    (attributed s.attribute text x (record s { line = x.place.line })))

abbrev pub step_unless : Option Rule → List ℕ → Piece → List Piece → State → Turn
step_unless (Some r) text x rest s = stops r x s
step_unless None text x rest s = step_on text x rest s

-- one piece, with those behind it
abbrev pub step : List ℕ → Piece → List Piece → State → Turn
step text x rest s = step_unless (own_fault text x.kind x) text x rest s

-- what a text is read to
pub record Lexed : Type 0 where
  pub list : List Token
  pub names : List (List ℕ)
  pub stop : Option Refusal

abbrev pub lexed : State → Option Refusal → Lexed
lexed s stop = record { list = s.tokens; names = s.names; stop = stop }

abbrev pub is_outside : Attribute → Bool
is_outside attribute.Outside = true
is_outside a = false

abbrev pub end_token : Place → Token
end_token p = record { kind = token.End; place = p; length = 0 }

-- at the end of a text; an attribute that is still open there stops it
abbrev pub finish : Place → State → Lexed
finish p s =
    cond (is_outside s.attribute) (record { list = s.tokens ++ end_token p ∷ []; names = s.names; stop = None }) (lexed s (Some (record { place = p; rule = rule.Syntax })))

-- a text that stops, or that goes on
abbrev pub ends : Option Refusal → State → Lexed → Lexed
ends (Some f) s further = lexed s (Some f)
ends None s further = further

-- the tokens of pieces, from a state on, where the text ends at a place
abbrev pub lex : List ℕ → Place → List Piece → State → Lexed
lex text end [] s = finish end s
lex text end (x ∷ rest) s = ends (step text x rest s).stop (step text x rest s).state (lex text end rest (step text x rest s).state)

abbrev pub first_state : State
first_state = record { tokens = []; before = token.End; names = []; roles = []; typedef = no_typedef; declared = []; attribute = attribute.Outside; line = 0; passed = 0 }

-- the tokens of a text up to its first lexical refusal, and that refusal
abbrev pub tokens_of : List ℕ → Lexed
tokens_of text = lex text (behind_all text first_place) (pieces text) first_state
