-- How far the counts of a state grow at a piece.
use Rattle.std.proofs.Common.{◌≡◌, ◌≤◌, ◌+◌, ◌-◌, ◌==◌, ◌++◌, ℕ, Bool, true, false, cond, Option, None, Some, List, [], ◌∷◌, length, length-append, refl, ap, arith}
use Rattle.l2_syntax.specs.declared.token.Mark.{Mark}
use Rattle.l2_syntax.specs.declared.token.Mark.TheVariants as mark
use Rattle.l2_syntax.specs.declared.token.TokenKind.{TokenKind}
use Rattle.l2_syntax.specs.declared.token.TokenKind.TheVariants as token
use Rattle.l2_syntax.specs.declared.refusal.Rule.{Rule}
use Rattle.l2_syntax.specs.declared.refusal.Rule.TheVariants as rule
use Rattle.l2_pieces.specs.declared.piece.PieceKind.{PieceKind}
use Rattle.l2_pieces.specs.declared.piece.PieceKind.TheVariants as kind
use Rattle.l2_pieces.specs.declared.piece.Piece.{Piece}
use Rattle.l2_directives.specs.declared.constant.Constant.{Constant}
use Rattle.l2_directives.specs.declared.role.Role.{Role}
use Rattle.l2_directives.specs.declared.role.Role.TheVariants as role
use Rattle.l2_directives.specs.declared.headers.Header.{Header}
use Rattle.l2_directives.specs.declared.headers.Header.TheVariants as header
use Rattle.l2_directives.specs.declared.directives.Directive.{Directive}
use Rattle.l2_directives.specs.declared.directives.Directive.TheVariants as directive
use Rattle.l2_directives.specs.declared.words.WordClass.{WordClass}
use Rattle.l2_directives.specs.declared.words.WordClass.TheVariants as class
use Rattle.l2_lex.specs.declared.state.Attribute.{Attribute}
use Rattle.l2_lex.specs.declared.state.Attribute.TheVariants as attribute
use Rattle.l2_lex.specs.declared.state.Typedef.{Typedef}
use Rattle.l2_pieces.specs.Pieces.{bytes_of}
use Rattle.l2_directives.specs.declared.role.Macro.{Macro}
use Rattle.l2_directives.specs.Constants.{constant_of}
use Rattle.l2_directives.specs.Words.{word_class}
use Rattle.l2_directives.specs.Directives.{directive_of}
use Rattle.l2_directives.specs.Headers.{Entry, entries}
use Rattle.l2_lex.specs.States.{State, emit, emit_all, is_known, know, learn, learn_all, ends_typedef, in_typedef, begins_typedef, typedef_behind, new_typedef, no_typedef, declare_all, pass_mark, role_of, number_of, macro_kinds}
use Rattle.l2_lex.specs.Lexing.{Turn, goes, stops, name_as, name, pass, word, constant, token_of, is_open, is_close, attributed, pass_line, include, become_macro, define, is_word_refused, defines_one, is_constant, is_passed, begins_directive, first_state, open_comment, comment_or, direct, directed, line_behind, step_on, step_unless, own_fault, step}
use Rattle.l2_lex.specs.Code.{depth_of, Bounded}

pub record Grows (k : ℕ) (s t : State) : Type 0 where
  pub names : length t.names ≤ length s.names + k
  pub braces : t.typedef.braces ≤ s.typedef.braces + k
  pub brackets : t.typedef.brackets ≤ s.typedef.brackets + k
  pub depth : depth_of t.attribute ≤ depth_of s.attribute + k

same_count : (a b k : ℕ) → b ≡ a → b ≤ a + k
same_count a b k e = omega arith

still : (k : ℕ) (s t : State) → t.names ≡ s.names → t.typedef ≡ s.typedef → t.attribute ≡ s.attribute → Grows k s t
still k s t a b c = record {
  names = same_count (length s.names) (length t.names) k (ap length a);
  braces = same_count s.typedef.braces t.typedef.braces k (ap (λ x. x.braces) b);
  brackets = same_count s.typedef.brackets t.typedef.brackets k (ap (λ x. x.brackets) b);
  depth = same_count (depth_of s.attribute) (depth_of t.attribute) k (ap depth_of c);
}

more_count : (a b c j k : ℕ) → b ≤ a + j → c ≤ b + k → c ≤ a + (j + k)
more_count a b c j k p q = omega arith

on : (j k : ℕ) (s t u : State) → Grows j s t → Grows k t u → Grows (j + k) s u
on j k s t u p q = record {
  names = more_count (length s.names) (length t.names) (length u.names) j k p.names q.names;
  braces = more_count s.typedef.braces t.typedef.braces u.typedef.braces j k p.braces q.braces;
  brackets = more_count s.typedef.brackets t.typedef.brackets u.typedef.brackets j k p.brackets q.brackets;
  depth = more_count (depth_of s.attribute) (depth_of t.attribute) (depth_of u.attribute) j k p.depth q.depth;
}

wide_count : (a b j k : ℕ) → j ≤ k → b ≤ a + j → b ≤ a + k
wide_count a b j k h p = omega arith

wide : (j k : ℕ) (s t : State) → j ≤ k → Grows j s t → Grows k s t
wide j k s t h p = record {
  names = wide_count (length s.names) (length t.names) j k h p.names;
  braces = wide_count s.typedef.braces t.typedef.braces j k h p.braces;
  brackets = wide_count s.typedef.brackets t.typedef.brackets j k h p.brackets;
  depth = wide_count (depth_of s.attribute) (depth_of t.attribute) j k h p.depth;
}

emits : (k : ℕ) (kinds : List TokenKind) (x : Piece) (s : State) → Grows k s (emit_all kinds x s)
emits k [] x s = still k s s refl refl refl
emits k (t ∷ kinds) x s = wide (0 + k) k s (emit_all kinds x (emit t x s)) (omega arith) (on 0 k s (emit t x s) (emit_all kinds x (emit t x s)) (still 0 s (emit t x s) refl refl refl) (emits k kinds x (emit t x s)))

one_name : (b : Bool) (names : List (List ℕ)) (w : List ℕ) → length (cond b names (names ++ w ∷ [])) ≤ length names + 1
one_name true names w = omega arith
one_name false names w = let e = length-append names (w ∷ []) in omega arith

knows : (w : List ℕ) (s : State) → Grows 1 s (know w s)
knows w s = record { names = one_name (is_known s.names w) s.names w; braces = omega arith; brackets = omega arith; depth = omega arith }

learns : (e : Entry) (s : State) → Grows 1 s (learn e s)
learns e s = on 1 0 s (know e.bytes s) (learn e s) (knows e.bytes s) (still 0 (know e.bytes s) (learn e s) refl refl refl)

learns_all : (all : List Entry) (s : State) → Grows (length all) s (learn_all all s)
learns_all [] s = still 0 s s refl refl refl
learns_all (e ∷ all) s = wide (1 + length all) (length (e ∷ all)) s (learn_all all (learn e s)) (omega arith) (on 1 (length all) s (learn e s) (learn_all all (learn e s)) (learns e s) (learns_all all (learn e s)))

few : (h : Header) → length (entries h) ≤ 14
few header.Assert = omega arith
few header.StandardBool = omega arith
few header.StandardLibrary = omega arith
few header.StandardIntegers = omega arith
few header.Limits = omega arith

record Opens (t u : Typedef) : Type 0 where
  pub braces : u.braces ≤ t.braces + 14
  pub brackets : u.brackets ≤ t.brackets + 14

opens_in : (m : Mark) (t : Typedef) → Opens t (in_typedef m t)
opens_in mark.OpenBrace t = record { braces = omega arith; brackets = omega arith }
opens_in mark.CloseBrace t = record { braces = omega arith; brackets = omega arith }
opens_in mark.OpenBracket t = record { braces = omega arith; brackets = omega arith }
opens_in mark.CloseBracket t = record { braces = omega arith; brackets = omega arith }
opens_in m t = record { braces = omega arith; brackets = omega arith }

opens_at : (a b : Bool) (m : Mark) (t : Typedef) → Opens t (cond a (in_typedef m t) (cond b new_typedef t))
opens_at true b m t = opens_in m t
opens_at false true m t = record { braces = omega arith; brackets = omega arith }
opens_at false false m t = record { braces = omega arith; brackets = omega arith }

passes_open : (m : Mark) (s : State) → Opens s.typedef (typedef_behind m s.typedef)
passes_open m s = opens_at s.typedef.is_open (begins_typedef m) m s.typedef

passes_at : (b : Bool) (s t u : State) → Grows 14 s t → Grows 14 s u → Grows 14 s (cond b t u)
passes_at true s t u p q = p
passes_at false s t u p q = q

-- a mark, and the token that it is
passes : (m : Mark) (x : Piece) (s : State) → Grows 14 s (pass m x s)
passes m x s =
    let o = passes_open m s in
    wide 14 14 s (pass m x s) (omega arith) (on 14 0 s (pass_mark m s) (pass m x s)
    (passes_at (ends_typedef m s.typedef) s (record s { typedef = no_typedef; roles = declare_all s.declared s.roles; declared = [] }) (record s { typedef = typedef_behind m s.typedef })
    (record { names = omega arith; braces = omega arith; brackets = omega arith; depth = omega arith })
    (record { names = omega arith; braces = o.braces; brackets = o.brackets; depth = omega arith }))
    (still 0 (pass_mark m s) (pass m x s) refl refl refl))

names_as : (r : Role) (n : ℕ) (x : Piece) (s : State) → Grows 0 s (name_as r n x s)
names_as role.Plain n x s = still 0 s (name_as role.Plain n x s) refl refl refl
names_as role.TypeName n x s = still 0 s (name_as role.TypeName n x s) refl refl refl
names_as (role.Constant c) n x s = still 0 s (name_as (role.Constant c) n x s) refl refl refl
names_as (role.Macro m) n x s = emits 0 (macro_kinds m) x s

names_one : (w : List ℕ) (x : Piece) (s : State) → Grows 14 s (name w x s)
names_one w x s =
    wide (1 + 0) 14 s (name w x s) (omega arith)
    (on 1 0 s (know w s) (name w x s) (knows w s) (names_as (role_of (know w s).roles (number_of s.names w)) (number_of s.names w) x (know w s)))

stays : (s : State) → Grows 14 s s
stays s = still 14 s s refl refl refl

words : (c : WordClass) (w : List ℕ) (x : Piece) (s : State) → Grows 14 s (word c w x s).state
words class.Refused w x s = stays s
words class.Skipped w x s = stays s
words class.Attribute w x s = record { names = omega arith; braces = omega arith; brackets = omega arith; depth = omega arith }
words (class.Keyword m) w x s = passes m x s
words class.Name w x s = names_one w x s

constants : (c : Option Constant) (x : Piece) (s : State) → Grows 14 s (constant c x s)
constants None x s = stays s
constants (Some c) x s = still 14 s (constant (Some c) x s) refl refl refl

tokens : (text : List ℕ) (k : PieceKind) (x : Piece) (s : State) → Grows 14 s (token_of text k x s).state
tokens text kind.Word x s = words (word_class (bytes_of text x)) (bytes_of text x) x s
tokens text kind.Text x s = still 14 s (emit token.Text x s) refl refl refl
tokens text (kind.Mark m) x s = passes m x s
tokens text k x s = constants (constant_of text x) x s

deeper : (a b d : Bool) (n : ℕ) → depth_of (cond a (attribute.Inside (n + 1)) (cond b (cond d attribute.Outside (attribute.Inside (n - 1))) (attribute.Inside n))) ≤ n + 14
deeper true b d n = omega arith
deeper false true true n = omega arith
deeper false true false n = omega arith
deeper false false d n = omega arith

turns_at : (b : Bool) (s : State) (t u : Turn) → Grows 14 s t.state → Grows 14 s u.state → Grows 14 s (cond b t u).state
turns_at true s t u p q = p
turns_at false s t u p q = q

attributes : (a : Attribute) (text : List ℕ) (x : Piece) (s : State) → a ≡ s.attribute → Grows 14 s (attributed a text x s).state
attributes attribute.Outside text x s e = tokens text x.kind x s
attributes attribute.Awaited text x s e =
    turns_at (is_open x.kind) s (goes (record s { attribute = attribute.Inside 1 })) (stops (cond (is_word_refused text x x.kind) rule.Keyword rule.Syntax) x s)
    (record { names = omega arith; braces = omega arith; brackets = omega arith; depth = omega arith }) (stays s)
attributes (attribute.Inside n) text x s e =
    let d = ap depth_of e in let h = deeper (is_open x.kind) (is_close x.kind) (n == 1) n in
    record { names = omega arith; braces = omega arith; brackets = omega arith; depth = omega (arith, d, h) }

includes : (h : Header) (x : Piece) (s : State) → Grows 14 s (include h x s).state
includes h x s =
    turns_at (defines_one (entries h) s) s (stops rule.Directive x s) (goes (pass_line x (learn_all (entries h) s))) (stays s)
    (wide (length (entries h)) 14 s (pass_line x (learn_all (entries h) s)) (few h) (through (length (entries h)) s (learn_all (entries h) s) (learns_all (entries h) s)))
  where
    through : (k : ℕ) (s t : State) → Grows k s t → Grows k s (pass_line x t)
    through k s t g = record { names = g.names; braces = g.braces; brackets = g.brackets; depth = g.depth }

defines : (w : List ℕ) (m : Macro) (x : Piece) (s : State) → Grows 14 s (define w m x s).state
defines w m x s =
    turns_at (is_constant (role_of s.roles (number_of s.names w))) s (stops rule.Directive x s) (goes (pass_line x (become_macro w m s))) (stays s)
    (let g = wide 1 14 s (know w s) (omega arith) (knows w s) in record { names = g.names; braces = g.braces; brackets = g.brackets; depth = g.depth })

directs : (d : Directive) (text : List ℕ) (x : Piece) (s : State) → Grows 14 s (direct d text x s).state
directs directive.Passed text x s = still 14 s (pass_line x s) refl refl refl
directs (directive.Include h) text x s = includes h x s
directs (directive.Define n m) text x s = defines (bytes_of text n) m x s
directs directive.Unknown text x s = stays s

commented : (o : Option Piece) (t : Turn) (s : State) → Grows 14 s t.state → Grows 14 s (comment_or o t s).state
commented None t s g = g
commented (Some y) t s g = stays s

steps_on : (text : List ℕ) (x : Piece) (rest : List Piece) (s : State) → Grows 14 s (step_on text x rest s).state
steps_on text x rest s =
    let line = line_behind x rest in
    let d = directive_of text line in
    turns_at (x.place.line == s.passed) s (goes s) (cond (begins_directive x s) (directed d text x line s) (attributed s.attribute text x (record s { line = x.place.line }))) (stays s)
    (turns_at (begins_directive x s) s (directed d text x line s) (attributed s.attribute text x (record s { line = x.place.line }))
    (turns_at (is_passed d) s (direct d text x s) (comment_or (open_comment line) (direct d text x s) s) (directs d text x s) (commented (open_comment line) (direct d text x s) s (directs d text x s)))
    (let g = attributes s.attribute text x (record s { line = x.place.line }) refl in record { names = g.names; braces = g.braces; brackets = g.brackets; depth = g.depth }))

steps_unless : (r : Option Rule) (text : List ℕ) (x : Piece) (rest : List Piece) (s : State) → Grows 14 s (step_unless r text x rest s).state
steps_unless None text x rest s = steps_on text x rest s
steps_unless (Some r) text x rest s = stays s

steps : (text : List ℕ) (x : Piece) (rest : List Piece) (s : State) → Grows 14 s (step text x rest s).state
steps text x rest s = steps_unless (own_fault text x.kind x) text x rest s

-- what a bound becomes
pub step_bounded : (n : ℕ) (text : List ℕ) (x : Piece) (rest : List Piece) (s : State) → Bounded n s → Bounded (n + 14) (step text x rest s).state
step_bounded n text x rest s b =
    let g = steps text x rest s in
    let g0 = g.names in let g1 = g.braces in let g2 = g.brackets in let g3 = g.depth in
    let b0 = b.names in let b1 = b.braces in let b2 = b.brackets in let b3 = b.depth in
    record { names = omega arith; braces = omega arith; brackets = omega arith; depth = omega arith }

pub first_bounded : Bounded 0 first_state
first_bounded = record { names = omega arith; braces = omega arith; brackets = omega arith; depth = omega arith }

pub wide_bounded : (m n : ℕ) (s : State) → m ≤ n → Bounded m s → Bounded n s
wide_bounded m n s h b =
    let b0 = b.names in let b1 = b.braces in let b2 = b.brackets in let b3 = b.depth in
    record { names = omega arith; braces = omega arith; brackets = omega arith; depth = omega arith }
