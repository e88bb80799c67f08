-- What is known of a text at a place in it, and how a token changes it.
use Rattle.std.specs.Prelude.{ℕ, ◌+◌, ◌-◌, Bool, true, false, not, cond, ◌==◌, ◌&&◌, List, [], ◌∷◌, ◌++◌, set, get_or}
use Rattle.std.specs.List.{list_any, position_or_len}
use Rattle.std.specs.Str.{bytes_eq}
use Rattle.l2_syntax.specs.declared.token.Mark.{Mark}
use Rattle.l2_syntax.specs.declared.token.Mark.TheVariants as mark
use Rattle.l2_syntax.specs.declared.token.TokenKind.{TokenKind}
use Rattle.l2_syntax.specs.declared.token.TokenKind.TheVariants as token
use Rattle.l2_syntax.specs.declared.token.Token.{Token}
use Rattle.l2_pieces.specs.declared.piece.Piece.{Piece}
use Rattle.l2_directives.specs.declared.constant.Constant.{Constant}
use Rattle.l2_directives.specs.declared.role.Role.{Role}
use Rattle.l2_directives.specs.declared.role.Role.TheVariants as role
use Rattle.l2_directives.specs.declared.role.Shape.{Shape}
use Rattle.l2_directives.specs.declared.role.Shape.TheVariants as shape
use Rattle.l2_directives.specs.declared.role.Macro.{Macro}
use Rattle.l2_lex.specs.declared.state.Attribute.{Attribute}
use Rattle.l2_lex.specs.declared.state.Typedef.{Typedef}
use Rattle.l2_directives.specs.Headers.{Entry}

pub record State : Type 0 where
  -- the tokens, and the kind of the last one: `End` where there is none
  pub tokens : List Token
  pub before : TokenKind
  -- the names by number, each once, and what each is
  pub names : List (List ℕ)
  pub roles : List Role
  -- the typedef that is being read, and the numbers of the names that it declares so far
  pub typedef : Typedef
  pub declared : List ℕ
  pub attribute : Attribute
  -- the line of the last piece, and the line that is passed over from its `#` on
  pub line : ℕ
  pub passed : ℕ

-- Tokens

abbrev pub token_at : TokenKind → Piece → Token
token_at k x = record { kind = k; place = x.place; length = x.length }

abbrev pub emit : TokenKind → Piece → State → State
emit k x s = record s { tokens = s.tokens ++ token_at k x ∷ []; before = k }

-- tokens that stand for one piece
abbrev pub emit_all : List TokenKind → Piece → State → State
emit_all [] x s = s
emit_all (k ∷ kinds) x s = emit_all kinds x (emit k x s)

abbrev pub number_kind : Constant → TokenKind
number_kind c = token.Number c.value c.scalar

abbrev pub macro_kinds : Macro → List TokenKind
macro_kinds m = macro_shape m.shape (number_kind m.constant)
  where
    macro_shape : Shape → TokenKind → List TokenKind
    macro_shape shape.Bare n = n ∷ []
    macro_shape shape.Negative n = token.Mark mark.Minus ∷ n ∷ []
    macro_shape shape.Wrapped n = token.Mark mark.OpenParenthesis ∷ n ∷ token.Mark mark.CloseParenthesis ∷ []
    macro_shape shape.WrappedNegative n = token.Mark mark.OpenParenthesis ∷ token.Mark mark.Minus ∷ n ∷ token.Mark mark.CloseParenthesis ∷ []
    macro_shape shape.NegativeWrapped n = token.Mark mark.Minus ∷ token.Mark mark.OpenParenthesis ∷ n ∷ token.Mark mark.CloseParenthesis ∷ []

-- Names

abbrev pub is_known : List (List ℕ) → List ℕ → Bool
is_known names w = list_any (bytes_eq w) names

-- the number of a name: its place among the names, or behind them
abbrev pub number_of : List (List ℕ) → List ℕ → ℕ
number_of names w = position_or_len (bytes_eq w) names

abbrev pub role_of : List Role → ℕ → Role
role_of roles n = get_or roles n role.Plain

-- a name that has appeared: the names with one more, if it is new
abbrev pub with_name : List (List ℕ) → List ℕ → List (List ℕ)
with_name names w = cond (is_known names w) names (names ++ w ∷ [])

abbrev pub with_role : List (List ℕ) → List Role → List ℕ → List Role
with_role names roles w = cond (is_known names w) roles (roles ++ role.Plain ∷ [])

abbrev pub know : List ℕ → State → State
know w s = record s { names = with_name s.names w; roles = with_role s.names s.roles w }

-- what a name is that is declared as a type: a constant or a macro takes the place of the name all the same
abbrev pub as_type : Role → Role
as_type role.Plain = role.TypeName
as_type r = r

-- what a name is from a header on
abbrev pub learnt : Role → Role → Role
learnt old role.TypeName = as_type old
learnt old r = r

abbrev pub set_role : ℕ → Role → State → State
set_role n r s = record s { roles = set s.roles n r }

abbrev pub set_learnt : ℕ → Role → State → State
set_learnt n r s = set_role n (learnt (role_of s.roles n) r) s

abbrev pub learn : Entry → State → State
learn e s = set_learnt (number_of s.names e.bytes) e.role (know e.bytes s)

abbrev pub learn_all : List Entry → State → State
learn_all [] s = s
learn_all (e ∷ entries) s = learn_all entries (learn e s)

-- Typedefs

abbrev pub no_typedef : Typedef
no_typedef = record { is_open = false; braces = 0; brackets = 0 }

abbrev pub new_typedef : Typedef
new_typedef = record { is_open = true; braces = 0; brackets = 0 }

-- a `;` outside braces ends the typedef
abbrev pub ends_typedef : Mark → Typedef → Bool
ends_typedef mark.Semicolon t = t.is_open && t.braces == 0
ends_typedef m t = false

abbrev pub in_typedef : Mark → Typedef → Typedef
in_typedef mark.OpenBrace t = record t { braces = t.braces + 1 }
in_typedef mark.CloseBrace t = record t { braces = t.braces - 1 }
in_typedef mark.OpenBracket t = record t { brackets = t.brackets + 1 }
in_typedef mark.CloseBracket t = record t { brackets = t.brackets - 1 }
in_typedef m t = t

abbrev pub begins_typedef : Mark → Bool
begins_typedef mark.Typedef = true
begins_typedef m = false

abbrev pub typedef_behind : Mark → Typedef → Typedef
typedef_behind m t = cond t.is_open (in_typedef m t) (cond (begins_typedef m) new_typedef t)

abbrev pub declare_all : List ℕ → List Role → List Role
declare_all [] roles = roles
declare_all (n ∷ declared) roles = declare_all declared (set roles n (as_type (role_of roles n)))

-- a mark in or outside a typedef
abbrev pub pass_mark : Mark → State → State
pass_mark m s =
    cond (ends_typedef m s.typedef) (record s { typedef = no_typedef; roles = declare_all s.declared s.roles; declared = [] }) (record s { typedef = typedef_behind m s.typedef })

-- directly behind `struct` or `enum` a word is a tag
abbrev pub before_tag : TokenKind → Bool
before_tag (token.Mark mark.Struct) = true
before_tag (token.Mark mark.Enum) = true
before_tag k = false

-- and behind `.` or `->` a member
abbrev pub before_word : TokenKind → Bool
before_word (token.Mark mark.Dot) = true
before_word (token.Mark mark.Arrow) = true
before_word k = before_tag k

-- whether the typedef that is being read declares a word that is no type name
abbrev pub declares : Typedef → TokenKind → Bool
declares t before = t.is_open && t.braces == 0 && t.brackets == 0 && not (before_tag before)

abbrev pub declare : ℕ → State → State
declare n s = record s { declared = cond (declares s.typedef s.before) (s.declared ++ n ∷ []) s.declared }
