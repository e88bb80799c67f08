-- The grammar (C11 6.5 to 6.9) as networks: how a construct goes on behind a token, and behind a construct that stands in it.
use Rattle.std.specs.Prelude.{ℕ, suc, Bool, true, false, cond, leb}
use Rattle.l2_syntax.specs.declared.token.Mark.{Mark}
use Rattle.l2_syntax.specs.declared.token.Mark.TheVariants as mark
use Rattle.l2_syntax.specs.declared.token.TokenKind.{TokenKind}
use Rattle.l2_syntax.specs.declared.token.TokenKind.TheVariants as kind
use Rattle.l2_grammar.specs.Marks.{is}
use Rattle.l2_grammar.specs.States.{Items, behind_else, Sort, unit, external, item, member, parameter, declarator, enclosed, sizeof_operand, initialiser, Right, binary, assignment, conditional, cast, prefix, update, Storage, automatic, stored, typedef, Length, no_length, short, long, long_long, Core, no_core, int, char, Named, number, nothing, other, struct_tag, enum_tag, tagged, Shape, nameless, name_only, function, derived, State, none, fresh, unit_end, have, right, sizing, sized, paren, paren_close, typed_close, index, index_close, call, call_more, call_next, member_name, quest, quest_close, word, block, if_open, if_test, if_close, then_part, then_done, else_part, head_open, head_test, head_close, body, do_body, do_while, do_open, do_test, do_close, for_open, for_init, for_init_close, for_second, for_second_close, for_third, for_close, case_value, colon, returning, semicolon, statement, before_type, typed, struct_word, enum_word, members, enumerators, enumerator, enum_value, enum_value_close, enum_comma, declared, init_value, init_close, next_declarator, declaration_end, function_block, braces, brace_more, brace_next, braced, stars, stars_const, group, group_close, direct, size, size_close, parameters, parameters_more, parameters_next}

-- behind this mark so, behind another token as it is said then
abbrev pub on : Mark → State → TokenKind → State → State
on m q k rest = cond (is m k) q rest

-- behind a word so
abbrev pub on_word : State → TokenKind → State
on_word q (kind.Word n) = q
on_word q k = none

-- the level of the whole, and the level that its right operand wants at least
abbrev pub level_of : Right → ℕ
level_of (binary l) = l
level_of assignment = 2
level_of conditional = 3
level_of cast = 14
level_of prefix = 15
level_of update = 15

abbrev pub wanted_by : Right → ℕ
wanted_by (binary l) = suc l
wanted_by assignment = 2
wanted_by conditional = 3
wanted_by cast = 14
wanted_by prefix = 14
wanted_by update = 15

-- behind an expression: the level that the token wants to its left (16 postfix, 15 unary, 14 cast, 13 `*` to 4 `||`, 3 `?:`, 2 assignment, 1 comma)
abbrev pub wants_left : TokenKind → ℕ
wants_left (kind.Mark mark.OpenBracket) = 16
wants_left (kind.Mark mark.OpenParenthesis) = 16
wants_left (kind.Mark mark.Dot) = 16
wants_left (kind.Mark mark.Arrow) = 16
wants_left (kind.Mark mark.PlusPlus) = 16
wants_left (kind.Mark mark.MinusMinus) = 16
wants_left (kind.Mark mark.Star) = 13
wants_left (kind.Mark mark.Slash) = 13
wants_left (kind.Mark mark.Percent) = 13
wants_left (kind.Mark mark.Plus) = 12
wants_left (kind.Mark mark.Minus) = 12
wants_left (kind.Mark mark.ShiftLeft) = 11
wants_left (kind.Mark mark.ShiftRight) = 11
wants_left (kind.Mark mark.Less) = 10
wants_left (kind.Mark mark.Greater) = 10
wants_left (kind.Mark mark.LessEqual) = 10
wants_left (kind.Mark mark.GreaterEqual) = 10
wants_left (kind.Mark mark.EqualEqual) = 9
wants_left (kind.Mark mark.NotEqual) = 9
wants_left (kind.Mark mark.Ampersand) = 8
wants_left (kind.Mark mark.Caret) = 7
wants_left (kind.Mark mark.Bar) = 6
wants_left (kind.Mark mark.AndAnd) = 5
wants_left (kind.Mark mark.OrOr) = 4
wants_left (kind.Mark mark.Question) = 4
wants_left (kind.Mark mark.Equal) = 15
wants_left (kind.Mark mark.StarEqual) = 15
wants_left (kind.Mark mark.SlashEqual) = 15
wants_left (kind.Mark mark.PercentEqual) = 15
wants_left (kind.Mark mark.PlusEqual) = 15
wants_left (kind.Mark mark.MinusEqual) = 15
wants_left (kind.Mark mark.ShiftLeftEqual) = 15
wants_left (kind.Mark mark.ShiftRightEqual) = 15
wants_left (kind.Mark mark.AmpersandEqual) = 15
wants_left (kind.Mark mark.CaretEqual) = 15
wants_left (kind.Mark mark.BarEqual) = 15
wants_left (kind.Mark mark.Comma) = 1
wants_left k = 0

-- how an expression goes on behind such a token
abbrev pub continued : TokenKind → State
continued (kind.Mark mark.OpenBracket) = index
continued (kind.Mark mark.OpenParenthesis) = call
continued (kind.Mark mark.Dot) = member_name
continued (kind.Mark mark.Arrow) = member_name
continued (kind.Mark mark.PlusPlus) = have 16
continued (kind.Mark mark.MinusMinus) = have 16
continued (kind.Mark mark.Star) = right (binary 13)
continued (kind.Mark mark.Slash) = right (binary 13)
continued (kind.Mark mark.Percent) = right (binary 13)
continued (kind.Mark mark.Plus) = right (binary 12)
continued (kind.Mark mark.Minus) = right (binary 12)
continued (kind.Mark mark.ShiftLeft) = right (binary 11)
continued (kind.Mark mark.ShiftRight) = right (binary 11)
continued (kind.Mark mark.Less) = right (binary 10)
continued (kind.Mark mark.Greater) = right (binary 10)
continued (kind.Mark mark.LessEqual) = right (binary 10)
continued (kind.Mark mark.GreaterEqual) = right (binary 10)
continued (kind.Mark mark.EqualEqual) = right (binary 9)
continued (kind.Mark mark.NotEqual) = right (binary 9)
continued (kind.Mark mark.Ampersand) = right (binary 8)
continued (kind.Mark mark.Caret) = right (binary 7)
continued (kind.Mark mark.Bar) = right (binary 6)
continued (kind.Mark mark.AndAnd) = right (binary 5)
continued (kind.Mark mark.OrOr) = right (binary 4)
continued (kind.Mark mark.Question) = quest
continued (kind.Mark mark.Equal) = right assignment
continued (kind.Mark mark.StarEqual) = right assignment
continued (kind.Mark mark.SlashEqual) = right assignment
continued (kind.Mark mark.PercentEqual) = right assignment
continued (kind.Mark mark.PlusEqual) = right assignment
continued (kind.Mark mark.MinusEqual) = right assignment
continued (kind.Mark mark.ShiftLeftEqual) = right assignment
continued (kind.Mark mark.ShiftRightEqual) = right assignment
continued (kind.Mark mark.AmpersandEqual) = right assignment
continued (kind.Mark mark.CaretEqual) = right assignment
continued (kind.Mark mark.BarEqual) = right assignment
continued (kind.Mark mark.Comma) = right (binary 1)
continued (kind.Mark mark.Semicolon) = statement true
continued k = none

-- behind `signed`, `int` and the like: each once, `long` twice, `char` with no length (C11 6.7.2)
abbrev pub add_sign : Storage → Bool → Length → Core → State
add_sign w false l c = typed w (number true l c)
add_sign w true l c = none

abbrev pub add_core : Storage → Bool → Length → Core → Core → State
add_core w s l no_core int = typed w (number s l int)
add_core w s no_length no_core char = typed w (number s no_length char)
add_core w s l c d = none

abbrev pub add_short : Storage → Bool → Length → Core → State
add_short w s no_length no_core = typed w (number s short no_core)
add_short w s no_length int = typed w (number s short int)
add_short w s l c = none

abbrev pub add_long : Storage → Bool → Length → Core → State
add_long w s no_length no_core = typed w (number s long no_core)
add_long w s no_length int = typed w (number s long int)
add_long w s long c = typed w (number s long_long c)
add_long w s l c = none

abbrev pub add_word : Storage → Bool → Length → Core → TokenKind → State
add_word w s l c (kind.Mark mark.Signed) = add_sign w s l c
add_word w s l c (kind.Mark mark.Unsigned) = add_sign w s l c
add_word w s l c (kind.Mark mark.Int) = add_core w s l c int
add_word w s l c (kind.Mark mark.Char) = add_core w s l c char
add_word w s l c (kind.Mark mark.Short) = add_short w s l c
add_word w s l c (kind.Mark mark.Long) = add_long w s l c
add_word w s l c k = none

-- at most one word of storage
abbrev pub store : (Storage → State) → Storage → State
store f automatic = f stored
store f w = none

-- a specifier where no type stands yet
abbrev pub specifier : Storage → TokenKind → State
specifier w (kind.TypeName n) = typed w other
specifier w (kind.Mark mark.Bool) = typed w other
specifier w (kind.Mark mark.Void) = typed w nothing
specifier w (kind.Mark mark.Struct) = struct_word w
specifier w (kind.Mark mark.Enum) = enum_word w
specifier w (kind.Mark mark.Const) = before_type w
specifier w (kind.Mark mark.Static) = store before_type w
specifier w (kind.Mark mark.Extern) = store before_type w
specifier w k = add_word w false no_length no_core k

-- no `{` of a struct or an enum follows any more
abbrev pub closed : Named → Named
closed struct_tag = tagged
closed enum_tag = tagged
closed y = y

abbrev pub add_to : Storage → Named → TokenKind → State
add_to w (number s l c) k = add_word w s l c k
add_to w struct_tag k = on mark.OpenBrace (members w) k none
add_to w enum_tag k = on mark.OpenBrace (enumerators w) k none
add_to w y k = none

-- only what has a struct or an enum may stand without a declarator (C11 6.7p2)
abbrev pub alone : Named → State
alone struct_tag = declaration_end
alone enum_tag = declaration_end
alone tagged = declaration_end
alone y = none

abbrev pub alone_in : Sort → Named → State
alone_in member y = none
alone_in s y = alone y

-- a token behind the type
abbrev pub after_type : Sort → Storage → Named → TokenKind → State
after_type s w y (kind.Mark mark.Const) = typed w (closed y)
after_type s w y (kind.Mark mark.Static) = store (λ v. typed v (closed y)) w
after_type s w y (kind.Mark mark.Extern) = store (λ v. typed v (closed y)) w
after_type s w y (kind.Mark mark.Semicolon) = alone_in s y
after_type s w y k = add_to w y k

-- an expression, or a declaration, begins
abbrev pub begun : TokenKind → State
begun (kind.Word n) = have 16
begun (kind.Number n s) = have 16
begun kind.Text = have 16
begun (kind.Mark mark.OpenParenthesis) = paren
begun (kind.Mark mark.PlusPlus) = right update
begun (kind.Mark mark.MinusMinus) = right update
begun (kind.Mark mark.Ampersand) = right prefix
begun (kind.Mark mark.Star) = right prefix
begun (kind.Mark mark.Plus) = right prefix
begun (kind.Mark mark.Minus) = right prefix
begun (kind.Mark mark.Tilde) = right prefix
begun (kind.Mark mark.Exclamation) = right prefix
begun (kind.Mark mark.Sizeof) = sizing
begun k = specifier automatic k

abbrev pub begun_item : TokenKind → State
begun_item (kind.Word n) = word
begun_item (kind.Mark mark.OpenBrace) = block
begun_item (kind.Mark mark.If) = if_open
begun_item (kind.Mark mark.While) = head_open
begun_item (kind.Mark mark.Switch) = head_open
begun_item (kind.Mark mark.Do) = do_body
begun_item (kind.Mark mark.For) = for_open
begun_item (kind.Mark mark.Case) = case_value
begun_item (kind.Mark mark.Default) = colon
begun_item (kind.Mark mark.Break) = semicolon
begun_item (kind.Mark mark.Continue) = semicolon
begun_item (kind.Mark mark.Return) = returning
begun_item (kind.Mark mark.Semicolon) = statement true
begun_item k = begun k

abbrev pub begun_item_in : Items → TokenKind → State
begun_item_in behind_else (kind.Mark mark.If) = none
begun_item_in b k = begun_item k

abbrev pub begun_external : TokenKind → State
begun_external (kind.Mark mark.Semicolon) = declaration_end
begun_external (kind.Mark mark.Typedef) = before_type typedef
begun_external k = specifier automatic k

-- a declarator begins, or goes on behind a `*`
abbrev pub begun_declarator : Bool → TokenKind → State
begun_declarator b (kind.Word n) = direct b name_only
begun_declarator b (kind.Mark mark.Star) = stars
begun_declarator b (kind.Mark mark.OpenParenthesis) = group b
begun_declarator b (kind.Mark mark.OpenBracket) = size b nameless
begun_declarator b k = none

abbrev pub begun_enclosed : TokenKind → State
begun_enclosed (kind.Word n) = direct false name_only
begun_enclosed (kind.Mark mark.Star) = stars
begun_enclosed (kind.Mark mark.OpenParenthesis) = group false
begun_enclosed (kind.Mark mark.OpenBracket) = size false nameless
begun_enclosed k = specifier automatic k

abbrev pub on_end : TokenKind → State
on_end kind.End = unit_end
on_end k = none

abbrev pub begun_as : Sort → TokenKind → State
begun_as unit k = on_end k
begun_as external k = begun_external k
begun_as (item b) k = begun_item_in b k
begun_as member k = specifier automatic k
begun_as parameter k = specifier automatic k
begun_as (declarator n) k = begun_declarator false k
begun_as (enclosed n) k = begun_enclosed k
begun_as initialiser k = on mark.OpenBrace braces k (begun k)
begun_as s k = begun k

-- what parameters or a length behind it make of a declarator
abbrev pub applied : Shape → Bool → Shape
applied nameless b = nameless
applied name_only b = function b
applied (function c) b = function c
applied derived b = derived

abbrev pub indexed : Shape → Shape
indexed name_only = derived
indexed h = h

-- what `*` before it makes of a declarator
abbrev pub starred : Bool → Shape → Shape
starred true name_only = derived
starred b h = h

abbrev pub after_declarator : Storage → Bool → TokenKind → State
after_declarator w b k =
    on mark.Equal (init_value w) k (on mark.Comma (next_declarator w) k (on mark.Semicolon declaration_end k (on mark.OpenBrace (cond b function_block none) k none)))

-- behind the `)` round the name of a type
abbrev pub cast_in : Sort → State
cast_in sizeof_operand = sized
cast_in s = right cast

-- a construct of this sort, in this state, behind a token
unfoldable pub on_token : Sort → State → TokenKind → State
on_token s fresh k = begun_as s k
on_token s (have l) k = cond (leb (wants_left k) l) (continued k) none
on_token s word k = on mark.Colon body k (continued k)
on_token s paren_close k = on mark.CloseParenthesis (have 16) k none
on_token s typed_close k = on mark.CloseParenthesis (cast_in s) k none
on_token s index_close k = on mark.CloseBracket (have 16) k none
on_token s call k = on mark.CloseParenthesis (have 16) k none
on_token s call_more k = on mark.Comma call_next k (on mark.CloseParenthesis (have 16) k none)
on_token s member_name k = on_word (have 16) k
on_token s quest_close k = on mark.Colon (right conditional) k none
on_token s block k = on mark.CloseBrace (statement true) k none
on_token s if_open k = on mark.OpenParenthesis if_test k none
on_token s if_close k = on mark.CloseParenthesis then_part k none
on_token s (then_done b) k = on mark.Else (cond b else_part none) k none
on_token s else_part k = on mark.If if_open k none
on_token s head_open k = on mark.OpenParenthesis head_test k none
on_token s head_close k = on mark.CloseParenthesis body k none
on_token s do_while k = on mark.While do_open k none
on_token s do_open k = on mark.OpenParenthesis do_test k none
on_token s do_close k = on mark.CloseParenthesis semicolon k none
on_token s for_open k = on mark.OpenParenthesis for_init k none
on_token s for_init k = on mark.Semicolon for_second k none
on_token s for_init_close k = on mark.Semicolon for_second k none
on_token s for_second k = on mark.Semicolon for_third k none
on_token s for_second_close k = on mark.Semicolon for_third k none
on_token s for_third k = on mark.CloseParenthesis body k none
on_token s for_close k = on mark.CloseParenthesis body k none
on_token s colon k = on mark.Colon body k none
on_token s returning k = on mark.Semicolon (statement true) k none
on_token s semicolon k = on mark.Semicolon (statement true) k none
on_token s (before_type w) k = specifier w k
on_token s (typed w y) k = after_type s w y k
on_token s (struct_word w) k = on mark.OpenBrace (members w) k (on_word (typed w struct_tag) k)
on_token s (enum_word w) k = on mark.OpenBrace (enumerators w) k (on_word (typed w enum_tag) k)
on_token s (members w) k = on mark.CloseBrace (typed w tagged) k none
on_token s (enumerators w) k = on_word (enumerator w) k
on_token s (enumerator w) k = on mark.Equal (enum_value w) k (on mark.Comma (enum_comma w) k (on mark.CloseBrace (typed w tagged) k none))
on_token s (enum_value_close w) k = on mark.Comma (enum_comma w) k (on mark.CloseBrace (typed w tagged) k none)
on_token s (enum_comma w) k = on mark.CloseBrace (typed w tagged) k (on_word (enumerator w) k)
on_token s (declared w h b) k = after_declarator w b k
on_token s (init_close w) k = on mark.Comma (next_declarator w) k (on mark.Semicolon declaration_end k none)
on_token s function_block k = on mark.CloseBrace declaration_end k none
on_token s brace_more k = on mark.Comma brace_next k (on mark.CloseBrace braced k none)
on_token s brace_next k = on mark.CloseBrace braced k none
on_token s stars k = on mark.Const stars_const k (begun_declarator true k)
on_token s stars_const k = begun_declarator true k
on_token s (group b) k = on mark.CloseParenthesis (direct b nameless) k none
on_token s (group_close b h) k = on mark.CloseParenthesis (direct b h) k none
on_token s (direct b h) k = on mark.OpenBracket (size b h) k (on mark.OpenParenthesis (parameters b h) k none)
on_token s (size b h) k = on mark.CloseBracket (direct b (indexed h)) k none
on_token s (size_close b h) k = on mark.CloseBracket (direct b (indexed h)) k none
on_token s (parameters b h) k = on mark.CloseParenthesis (direct b (applied h true)) k none
on_token s (parameters_more b h now later) k = on mark.Comma (parameters_next b h later) k (on mark.CloseParenthesis (direct b (applied h now)) k none)
on_token s q k = none
