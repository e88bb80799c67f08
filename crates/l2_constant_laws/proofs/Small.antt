-- What each piece keeps: constants that are small.
use Rattle.std.proofs.Common.{◌≡◌, ◌≤◌, ◌<◌, ◌==◌, ◌&&◌, ◌++◌, not, ℕ, zero, suc, Bool, true, false, cond, Option, None, Some, List, [], ◌∷◌, take, drop, set, refl, arith}
use Rattle.std.specs.Prelude.{codes}
use Rattle.std.specs.List.{prefix_len}
use Rattle.std.proofs.Math.Dec.{leb}
use Rattle.l2_syntax.specs.declared.token.Scalar.{Scalar}
use Rattle.l2_syntax.specs.declared.token.Scalar.TheVariants as scalar
use Rattle.l2_syntax.specs.declared.token.Mark.{Mark}
use Rattle.l2_syntax.specs.declared.token.Token.{Token}
use Rattle.l2_syntax.specs.declared.token.TokenKind.{TokenKind}
use Rattle.l2_syntax.specs.declared.token.TokenKind.TheVariants as token
use Rattle.l2_syntax.specs.declared.refusal.Rule.{Rule}
use Rattle.l2_syntax.specs.declared.refusal.Rule.TheVariants as rule
use Rattle.l2_syntax.specs.declared.refusal.Refusal.{Refusal}
use Rattle.l2_pieces.specs.declared.piece.PieceKind.{PieceKind}
use Rattle.l2_pieces.specs.declared.piece.PieceKind.TheVariants as kind
use Rattle.l2_pieces.specs.declared.piece.Piece.{Piece}
use Rattle.l2_pieces.specs.Bytes.{begins_with, is_byte}
use Rattle.l2_pieces.specs.Pieces.{bytes_of, pieces, behind_all, first_place}
use Rattle.l2_directives.specs.declared.constant.Constant.{Constant}
use Rattle.l2_directives.specs.declared.constant.Suffix.{Suffix}
use Rattle.l2_directives.specs.declared.role.Role.{Role}
use Rattle.l2_directives.specs.declared.role.Role.TheVariants as role
use Rattle.l2_directives.specs.declared.role.Shape.{Shape}
use Rattle.l2_directives.specs.declared.role.Shape.TheVariants as shape
use Rattle.l2_directives.specs.declared.role.Macro.{Macro}
use Rattle.l2_directives.specs.declared.headers.Header.{Header}
use Rattle.l2_directives.specs.declared.headers.Header.TheVariants as header
use Rattle.l2_directives.specs.declared.directives.Directive.{Directive}
use Rattle.l2_directives.specs.declared.directives.Directive.TheVariants as directive
use Rattle.l2_directives.specs.declared.words.WordClass.{WordClass}
use Rattle.l2_directives.specs.declared.words.WordClass.TheVariants as class
use Rattle.l2_directives.specs.Constants.{value_of, is_digit_of, suffix_of, candidates, greatest, first_that_holds, constant_of_type, typed, in_base, is_hexadecimal, number, escape_value, character_value, constant_spelt, constant_of}
use Rattle.l2_directives.specs.Words.{word_class, is_name}
use Rattle.l2_directives.specs.Directives.{is_spelt, is_word, shaped, macro_of, define_as, opens_behind, include_header, directive_of, is_marker}
use Rattle.l2_directives.specs.Directives as line
use Rattle.l2_directives.specs.Headers.{Entry, header_of, entries}
use Rattle.l2_lex.specs.declared.state.Attribute.{Attribute}
use Rattle.l2_lex.specs.declared.state.Attribute.TheVariants as attribute
use Rattle.l2_lex.specs.States.{State, emit, emit_all, token_at, number_kind, macro_kinds, is_known, number_of, role_of, know, as_type, learnt, learn, learn_all, declare, declare_all, ends_typedef, typedef_behind, no_typedef, pass_mark, before_word}
use Rattle.l2_lex.specs.Lexing.{Turn, goes, stops, name_as, name, pass, word, constant, token_of, is_open, attributed, is_word_refused, pass_line, include, defines_one, become_macro, define, is_constant, open_comment, comment_or, direct, is_passed, directed, begins_directive, line_behind, step_on, step_unless, own_fault, step, lexed, end_token, is_outside, finish, ends, lex, first_state}
use Rattle.l2_constant_laws.specs.Laws.{IsSmall, HasSmall, AreSmall, AreBytes, ConstantsLaw}

-- ---- bytes

bytes_taken : (n : ℕ) (bytes : List ℕ) → AreBytes bytes → AreBytes (take n bytes)
bytes_taken zero bytes h = tt
bytes_taken (suc n) [] h = tt
bytes_taken (suc n) (b ∷ bytes) (a, r) = (a, bytes_taken n bytes r)

bytes_dropped : (n : ℕ) (bytes : List ℕ) → AreBytes bytes → AreBytes (drop n bytes)
bytes_dropped zero bytes h = h
bytes_dropped (suc n) [] h = tt
bytes_dropped (suc n) (b ∷ bytes) (a, r) = bytes_dropped n bytes r

piece_bytes : (text : List ℕ) (x : Piece) → AreBytes text → AreBytes (bytes_of text x)
piece_bytes text x h = bytes_taken x.length (drop x.place.offset text) (bytes_dropped x.place.offset text h)

-- ---- constants

abbrev SmallConstant : Option Constant → Type 0
SmallConstant None = Unit {0}
SmallConstant (Some c) = IsSmall c.value

few_greatest : (t : Scalar) → greatest t ≤ 18446744073709551615
few_greatest scalar.Bool = omega arith
few_greatest scalar.Char = omega arith
few_greatest scalar.UChar = omega arith
few_greatest scalar.Short = omega arith
few_greatest scalar.UShort = omega arith
few_greatest scalar.Int = omega arith
few_greatest scalar.UInt = omega arith
few_greatest scalar.Long = omega arith
few_greatest scalar.ULong = omega arith
few_greatest scalar.LongLong = omega arith
few_greatest scalar.ULongLong = omega arith

holding_small : (v : ℕ) (types : List Scalar) → SmallConstant (constant_of_type v (first_that_holds v types))
holding_small v [] = tt
holding_small v (t ∷ types) = go (leb v (greatest t)) refl (holding_small v types) where
  go : (b : Bool) → leb v (greatest t) ≡ b → SmallConstant (constant_of_type v (first_that_holds v types)) → SmallConstant (constant_of_type v (cond b (Some t) (first_that_holds v types)))
  go true e r = let g = few_greatest t in grind arith
  go false e r = r

typed_small : (base v : ℕ) (s : Option Suffix) → SmallConstant (typed base v s)
typed_small base v None = tt
typed_small base v (Some s) = holding_small v (candidates (base == 10) s)

based_small : (base : ℕ) (w : List ℕ) → SmallConstant (in_base base w)
based_small base w = go (prefix_len (is_digit_of base) w == 0) where
  go : (b : Bool) → SmallConstant (cond b None (typed base (value_of base (take (prefix_len (is_digit_of base) w) w)) (suffix_of (drop (prefix_len (is_digit_of base) w) w))))
  go true = tt
  go false = typed_small base (value_of base (take (prefix_len (is_digit_of base) w) w)) (suffix_of (drop (prefix_len (is_digit_of base) w) w))

one_small : (b : Bool) (c d : Option Constant) → SmallConstant c → SmallConstant d → SmallConstant (cond b c d)
one_small true c d h k = h
one_small false c d h k = k

number_small : (w : List ℕ) → SmallConstant (number w)
number_small w =
    one_small (is_hexadecimal w) (in_base 16 (drop 2 w)) (cond (begins_with (is_byte 48) w) (in_base 8 w) (in_base 10 w)) (based_small 16 (drop 2 w))
    (one_small (begins_with (is_byte 48) w) (in_base 8 w) (in_base 10 w) (based_small 8 w) (based_small 10 w))

one_below : (b : Bool) (m n : ℕ) → m < 256 → n < 256 → cond b m n < 256
one_below true m n h k = h
one_below false m n h k = k

escape_below : (b : ℕ) → b < 256 → escape_value b < 256
escape_below b h =
    one_below (b == 110) 10 (cond (b == 116) 9 (cond (b == 114) 13 (cond (b == 48) 0 b))) (omega arith)
    (one_below (b == 116) 9 (cond (b == 114) 13 (cond (b == 48) 0 b)) (omega arith) (one_below (b == 114) 13 (cond (b == 48) 0 b) (omega arith) (one_below (b == 48) 0 b (omega arith) h)))

character_below : (w : List ℕ) → AreBytes w → character_value w < 256
character_below [] h = omega arith
character_below (q ∷ []) h = omega arith
character_below (q ∷ c ∷ []) h = omega arith
character_below (q ∷ c ∷ e ∷ w) (a, (b, (d, r))) = one_below (c == 92) (escape_value e) c (escape_below e d) b

spelt_small : (k : PieceKind) (w : List ℕ) → AreBytes w → SmallConstant (constant_spelt k w)
spelt_small kind.Number w h = number_small w
spelt_small kind.Character w h = let c = character_below w h in omega arith
spelt_small k w h = tt

constant_small : (text : List ℕ) (x : Piece) → AreBytes text → SmallConstant (constant_of text x)
constant_small text x h = spelt_small x.kind (bytes_of text x) (piece_bytes text x h)

-- ---- roles

abbrev SmallRole : Role → Type 0
SmallRole role.Plain = Unit {0}
SmallRole role.TypeName = Unit {0}
SmallRole (role.Constant c) = IsSmall c.value
SmallRole (role.Macro m) = IsSmall m.constant.value

abbrev SmallRoles : List Role → Type 0
SmallRoles [] = Unit {0}
SmallRoles (r ∷ roles) = SmallRole r × SmallRoles roles

role_small : (roles : List Role) (n : ℕ) → SmallRoles roles → SmallRole (role_of roles n)
role_small [] zero h = tt
role_small [] (suc n) h = tt
role_small (r ∷ roles) zero (a, k) = a
role_small (r ∷ roles) (suc n) (a, k) = role_small roles n k

set_small : (roles : List Role) (n : ℕ) (r : Role) → SmallRoles roles → SmallRole r → SmallRoles (set roles n r)
set_small [] zero r h k = tt
set_small [] (suc n) r h k = tt
set_small (x ∷ roles) zero r (a, h) k = (k, h)
set_small (x ∷ roles) (suc n) r (a, h) k = (a, set_small roles n r h k)

plain_more : (roles : List Role) → SmallRoles roles → SmallRoles (roles ++ role.Plain ∷ [])
plain_more [] h = (tt, tt)
plain_more (r ∷ roles) (a, h) = (a, plain_more roles h)

type_small : (r : Role) → SmallRole r → SmallRole (as_type r)
type_small role.Plain h = tt
type_small role.TypeName h = tt
type_small (role.Constant c) h = h
type_small (role.Macro m) h = h

learnt_small : (old r : Role) → SmallRole old → SmallRole r → SmallRole (learnt old r)
learnt_small old role.Plain h k = tt
learnt_small old role.TypeName h k = type_small old h
learnt_small old (role.Constant c) h k = k
learnt_small old (role.Macro m) h k = k

declared_small : (declared : List ℕ) (roles : List Role) → SmallRoles roles → SmallRoles (declare_all declared roles)
declared_small [] roles h = h
declared_small (n ∷ declared) roles h = declared_small declared (set roles n (as_type (role_of roles n))) (set_small roles n (as_type (role_of roles n)) h (type_small (role_of roles n) (role_small roles n h)))

-- ---- states

pub record Good (s : State) : Type 0 where
  pub tokens : AreSmall s.tokens
  pub roles : SmallRoles s.roles

record Keeps (s t : State) : Type 0 where
  keeps : Good s → Good t

stays : (s : State) → Keeps s s
stays s = record { keeps = λ g. g }

one_more : (tokens : List Token) (t : Token) → AreSmall tokens → HasSmall t.kind → AreSmall (tokens ++ t ∷ [])
one_more [] t p q = (q, tt)
one_more (u ∷ tokens) t p q = (p.0, one_more tokens t p.1 q)

emitted : (k : TokenKind) (x : Piece) (s : State) → Good s → HasSmall k → Good (emit k x s)
emitted k x s g h = record { tokens = one_more s.tokens (token_at k x) g.tokens h; roles = g.roles }

AllKinds : List TokenKind → Type 0
AllKinds [] = Unit {0}
AllKinds (k ∷ kinds) = HasSmall k × AllKinds kinds

all_emitted : (kinds : List TokenKind) (x : Piece) (s : State) → Good s → AllKinds kinds → Good (emit_all kinds x s)
unfolding AllKinds
all_emitted [] x s g h = g
all_emitted (k ∷ kinds) x s g h = all_emitted kinds x (emit k x s) (emitted k x s g h.0) h.1

of_macro : (m : Macro) → IsSmall m.constant.value → AllKinds (macro_kinds m)
unfolding AllKinds
of_macro m h = go m.shape where
  go : (s : Shape) → AllKinds (macro_kinds (record { shape = s; constant = m.constant }))
  go shape.Bare = (h, tt)
  go shape.Negative = (tt, (h, tt))
  go shape.Wrapped = (tt, (h, (tt, tt)))
  go shape.WrappedNegative = (tt, (tt, (h, (tt, tt))))
  go shape.NegativeWrapped = (tt, (tt, (h, (tt, tt))))

knows : (w : List ℕ) (s : State) → Keeps s (know w s)
knows w s = record { keeps = λ g. record { tokens = g.tokens; roles = go (is_known s.names w) g.roles } } where
  go : (b : Bool) → SmallRoles s.roles → SmallRoles (cond b s.roles (s.roles ++ role.Plain ∷ []))
  go true h = h
  go false h = plain_more s.roles h

declares : (n : ℕ) (s : State) → Good s → Good (declare n s)
declares n s g = record { tokens = g.tokens; roles = g.roles }

named_as : (r : Role) (n : ℕ) (x : Piece) (s : State) → SmallRole r → Good s → Good (name_as r n x s)
named_as role.Plain n x s h g = emitted (token.Word n) x (declare n s) (declares n s g) tt
named_as role.TypeName n x s h g = emitted (cond (before_word s.before) (token.Word n) (token.TypeName n)) x s g (go (before_word s.before)) where
  go : (b : Bool) → HasSmall (cond b (token.Word n) (token.TypeName n))
  go true = tt
  go false = tt
named_as (role.Constant c) n x s h g = emitted (number_kind c) x s g h
named_as (role.Macro m) n x s h g = all_emitted (macro_kinds m) x s g (of_macro m h)

names_one : (w : List ℕ) (x : Piece) (s : State) → Keeps s (name w x s)
names_one w x s = record { keeps = λ g. let k = (knows w s).keeps g in named_as (role_of (know w s).roles (number_of s.names w)) (number_of s.names w) x (know w s) (role_small (know w s).roles (number_of s.names w) k.roles) k }

passes : (m : Mark) (x : Piece) (s : State) → Keeps s (pass m x s)
passes m x s = record { keeps = λ g. emitted (token.Mark m) x (pass_mark m s) (go (ends_typedef m s.typedef) g) tt } where
  go : (b : Bool) → Good s → Good (cond b (record s { typedef = no_typedef; roles = declare_all s.declared s.roles; declared = [] }) (record s { typedef = typedef_behind m s.typedef }))
  go true g = record { tokens = g.tokens; roles = declared_small s.declared s.roles g.roles }
  go false g = record { tokens = g.tokens; roles = g.roles }

words : (c : WordClass) (w : List ℕ) (x : Piece) (s : State) → Keeps s (word c w x s).state
words class.Refused w x s = stays s
words class.Skipped w x s = stays s
words class.Attribute w x s = record { keeps = λ g. record { tokens = g.tokens; roles = g.roles } }
words (class.Keyword m) w x s = passes m x s
words class.Name w x s = names_one w x s

constants : (c : Option Constant) (x : Piece) (s : State) → SmallConstant c → Keeps s (constant c x s)
constants None x s h = stays s
constants (Some c) x s h = record { keeps = λ g. emitted (number_kind c) x s g h }

module _ (text : List ℕ) (bytes : AreBytes text) where
  tokens : (k : PieceKind) (x : Piece) (s : State) → Keeps s (token_of text k x s).state
  tokens kind.Word x s = words (word_class (bytes_of text x)) (bytes_of text x) x s
  tokens kind.Text x s = record { keeps = λ g. emitted token.Text x s g tt }
  tokens (kind.Mark m) x s = passes m x s
  tokens k x s = constants (constant_of text x) x s (constant_small text x bytes)

  turns_at : (b : Bool) (s : State) (t u : Turn) → Keeps s t.state → Keeps s u.state → Keeps s (cond b t u).state
  turns_at true s t u p q = p
  turns_at false s t u p q = q

  attributes : (a : Attribute) (x : Piece) (s : State) → Keeps s (attributed a text x s).state
  attributes attribute.Outside x s = tokens x.kind x s
  attributes attribute.Awaited x s =
      turns_at (is_open x.kind) s (goes (record s { attribute = attribute.Inside 1 })) (stops (cond (is_word_refused text x x.kind) rule.Keyword rule.Syntax) x s) (record { keeps = λ g. record { tokens = g.tokens; roles = g.roles } }) (stays s)
  attributes (attribute.Inside n) x s = record { keeps = λ g. record { tokens = g.tokens; roles = g.roles } }

  -- ---- headers and macros

  abbrev SmallEntries : List Entry → Type 0
  SmallEntries [] = Unit {0}
  SmallEntries (e ∷ all) = SmallRole e.role × SmallEntries all

  header_small : (h : Header) → SmallEntries (entries h)
  header_small header.Assert = tt
  header_small header.StandardBool = (tt, (omega arith, (omega arith, tt)))
  header_small header.StandardLibrary = (omega arith, (tt, (omega arith, (omega arith, tt))))
  header_small header.StandardIntegers = (tt, (tt, (tt, (tt, (tt, (tt, (tt, (tt, tt))))))))
  header_small header.Limits =
      (omega arith, (omega arith, (omega arith, (omega arith, (omega arith, (omega arith, (omega arith, (omega arith, (omega arith, (omega arith, (omega arith, (omega arith, (omega arith, (omega arith, tt))))))))))))))

  learns : (all : List Entry) (s : State) → SmallEntries all → Keeps s (learn_all all s)
  learns [] s h = stays s
  learns (e ∷ all) s (a, r) = record {
    keeps = λ g. (learns all (learn e s) r).keeps (
        let k = (knows e.bytes s).keeps g in
        record {
          tokens = k.tokens;
          roles = set_small (know e.bytes s).roles (number_of s.names e.bytes) (learnt (role_of (know e.bytes s).roles (number_of s.names e.bytes)) e.role) k.roles
              (learnt_small (role_of (know e.bytes s).roles (number_of s.names e.bytes)) e.role (role_small (know e.bytes s).roles (number_of s.names e.bytes) k.roles) a);
        });
  }

  includes : (h : Header) (x : Piece) (s : State) → Keeps s (include h x s).state
  includes h x s =
      turns_at (defines_one (entries h) s) s (stops rule.Directive x s) (goes (pass_line x (learn_all (entries h) s))) (stays s) (record { keeps = λ g. let k = (learns (entries h) s (header_small h)).keeps g in record { tokens = k.tokens; roles = k.roles } })

  defines : (w : List ℕ) (m : Macro) (x : Piece) (s : State) → IsSmall m.constant.value → Keeps s (define w m x s).state
  defines w m x s h =
      turns_at (is_constant (role_of s.roles (number_of s.names w))) s (stops rule.Directive x s) (goes (pass_line x (become_macro w m s))) (stays s)
      (record { keeps = λ g. let k = (knows w s).keeps g in record { tokens = k.tokens; roles = set_small (know w s).roles (number_of s.names w) (role.Macro m) k.roles h } })

  abbrev SmallMacro : Option Macro → Type 0
  SmallMacro None = Unit {0}
  SmallMacro (Some m) = IsSmall m.constant.value

  shaped_small : (s : Shape) (c : Option Constant) → SmallConstant c → SmallMacro (shaped s c)
  shaped_small s None h = tt
  shaped_small s (Some c) h = h

  either_macro : (b : Bool) (m n : Option Macro) → SmallMacro m → SmallMacro n → SmallMacro (cond b m n)
  either_macro true m n h k = h
  either_macro false m n h k = k

  macro_small : (body : List Piece) → SmallMacro (macro_of text body)
  macro_small [] = tt
  macro_small (n ∷ []) = shaped_small shape.Bare (constant_of text n) (constant_small text n bytes)
  macro_small (a ∷ n ∷ []) = either_macro (is_spelt text a (codes "-")) (shaped shape.Negative (constant_of text n)) None (shaped_small shape.Negative (constant_of text n) (constant_small text n bytes)) tt
  macro_small (a ∷ n ∷ z ∷ []) = either_macro (is_spelt text a (codes "(") && is_spelt text z (codes ")")) (shaped shape.Wrapped (constant_of text n)) None (shaped_small shape.Wrapped (constant_of text n) (constant_small text n bytes)) tt
  macro_small (a ∷ b ∷ n ∷ z ∷ []) =
      either_macro (is_spelt text a (codes "(") && is_spelt text b (codes "-") && is_spelt text z (codes ")")) (shaped shape.WrappedNegative (constant_of text n))
      (cond (is_spelt text a (codes "-") && is_spelt text b (codes "(") && is_spelt text z (codes ")")) (shaped shape.NegativeWrapped (constant_of text n)) None) (shaped_small shape.WrappedNegative (constant_of text n) (constant_small text n bytes))
      (either_macro (is_spelt text a (codes "-") && is_spelt text b (codes "(") && is_spelt text z (codes ")")) (shaped shape.NegativeWrapped (constant_of text n)) None (shaped_small shape.NegativeWrapped (constant_of text n) (constant_small text n bytes)) tt)
  macro_small (a ∷ b ∷ n ∷ z ∷ y ∷ rest) = tt

  abbrev SmallDirective : Directive → Type 0
  SmallDirective directive.Passed = Unit {0}
  SmallDirective (directive.Include h) = Unit {0}
  SmallDirective (directive.Define n m) = IsSmall m.constant.value
  SmallDirective directive.Unknown = Unit {0}

  either_directive : (b : Bool) (d e : Directive) → SmallDirective d → SmallDirective e → SmallDirective (cond b d e)
  either_directive true d e h k = h
  either_directive false d e h k = k

  defined_small : (n : Piece) (m : Option Macro) → SmallMacro m → SmallDirective (define_as n m)
  defined_small n None h = tt
  defined_small n (Some m) h = h

  define_small : (pieces : List Piece) → SmallDirective (line.define text pieces)
  define_small [] = tt
  define_small (n ∷ body) = either_directive (is_word n.kind && is_name (word_class (bytes_of text n)) && not (opens_behind text n body)) (define_as n (macro_of text body)) directive.Unknown (defined_small n (macro_of text body) (macro_small body)) tt

  header_line : (h : Option Header) → SmallDirective (include_header h)
  header_line None = tt
  header_line (Some h) = tt

  include_small : (pieces : List Piece) → SmallDirective (line.include text pieces)
  include_small [] = tt
  include_small (x ∷ rest) = header_line (header_of (line.bytes_from text x (line.last_of x rest)))

  directive_small : (pieces : List Piece) → SmallDirective (directive_of text pieces)
  directive_small [] = tt
  directive_small (x ∷ rest) =
      either_directive (is_marker text x) directive.Passed (cond (is_spelt text x (codes "include")) (line.include text rest) (cond (is_spelt text x (codes "define")) (line.define text rest) directive.Unknown)) tt
      (either_directive (is_spelt text x (codes "include")) (line.include text rest) (cond (is_spelt text x (codes "define")) (line.define text rest) directive.Unknown) (include_small rest)
      (either_directive (is_spelt text x (codes "define")) (line.define text rest) directive.Unknown (define_small rest) tt))

  directs : (d : Directive) (x : Piece) (s : State) → SmallDirective d → Keeps s (direct d text x s).state
  directs directive.Passed x s h = record { keeps = λ g. record { tokens = g.tokens; roles = g.roles } }
  directs (directive.Include h) x s k = includes h x s
  directs (directive.Define n m) x s h = defines (bytes_of text n) m x s h
  directs directive.Unknown x s h = stays s

  commented : (o : Option Piece) (t : Turn) (s : State) → Keeps s t.state → Keeps s (comment_or o t s).state
  commented None t s g = g
  commented (Some y) t s g = stays s

  steps_on : (x : Piece) (rest : List Piece) (s : State) → Keeps s (step_on text x rest s).state
  steps_on x rest s =
      let behind = line_behind x rest in
      let d = directive_of text behind in
      let h : SmallDirective d = directive_small behind in
      let u = record s { line = x.place.line } in
      turns_at (x.place.line == s.passed) s (goes s) (cond (begins_directive x s) (directed d text x behind s) (attributed s.attribute text x u)) (stays s)
      (turns_at (begins_directive x s) s (directed d text x behind s) (attributed s.attribute text x u)
      (turns_at (is_passed d) s (direct d text x s) (comment_or (open_comment behind) (direct d text x s) s) (directs d x s h) (commented (open_comment behind) (direct d text x s) s (directs d x s h)))
      (record { keeps = λ g. (attributes s.attribute x u).keeps (record { tokens = g.tokens; roles = g.roles }) }))

  steps_unless : (r : Option Rule) (x : Piece) (rest : List Piece) (s : State) → Keeps s (step_unless r text x rest s).state
  steps_unless None x rest s = steps_on x rest s
  steps_unless (Some r) x rest s = stays s

  -- ---- texts

  finished : (s : State) → Good s → AreSmall (finish (behind_all text first_place) s).list
  finished s g = go (is_outside s.attribute) where
    go : (b : Bool) → AreSmall (cond b (record { list = s.tokens ++ end_token (behind_all text first_place) ∷ []; names = s.names; stop = None }) (lexed s (Some (record { place = behind_all text first_place; rule = rule.Syntax })))).list
    go true = one_more s.tokens (end_token (behind_all text first_place)) g.tokens tt
    go false = g.tokens

  right : (all : List Piece) (s : State) → Good s → AreSmall (lex text (behind_all text first_place) all s).list
  right [] s g = finished s g
  right (x ∷ rest) s g = go (step text x rest s).stop (right rest (step text x rest s).state ((steps_unless (own_fault text x.kind x) x rest s).keeps g)) where
    go : (o : Option Refusal) → AreSmall (lex text (behind_all text first_place) rest (step text x rest s).state).list → AreSmall (ends o (step text x rest s).state (lex text (behind_all text first_place) rest (step text x rest s).state)).list
    go None r = r
    go (Some f) r = ((steps_unless (own_fault text x.kind x) x rest s).keeps g).tokens

pub constants_law : ConstantsLaw
constants_law text bytes = right text bytes (pieces text) first_state (record { tokens = tt; roles = tt })
