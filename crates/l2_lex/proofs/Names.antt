-- What each piece keeps: names that stand once, and numbers that are theirs.
use Rattle.std.proofs.Common.{◌≡◌, ◌≤◌, ◌<◌, ◌+◌, ◌==◌, ◌&&◌, ◌||◌, ◌++◌, not, ℕ, Bool, true, false, cond, Option, None, Some, List, [], ◌∷◌, length, length-append, refl, sym, ap, subst, ◌∙◌, arith}
use Rattle.std.specs.List.{list_any, position_or_len}
use Rattle.std.specs.Str.{bytes_eq}
use Rattle.std.proofs.lemmas.Cmp.{nat_list_eq_equiv}
use Rattle.l2_syntax.specs.declared.place.Place.{Place}
use Rattle.l2_syntax.specs.declared.token.Mark.{Mark}
use Rattle.l2_syntax.specs.declared.token.Mark.TheVariants as mark
use Rattle.l2_syntax.specs.declared.token.Token.{Token}
use Rattle.l2_syntax.specs.declared.token.TokenKind.{TokenKind}
use Rattle.l2_syntax.specs.declared.token.TokenKind.TheVariants as token
use Rattle.l2_syntax.specs.declared.refusal.Rule.{Rule}
use Rattle.l2_syntax.specs.declared.refusal.Rule.TheVariants as rule
use Rattle.l2_syntax.specs.declared.refusal.Refusal.{Refusal}
use Rattle.l2_pieces.specs.declared.piece.PieceKind.{PieceKind}
use Rattle.l2_pieces.specs.declared.piece.PieceKind.TheVariants as kind
use Rattle.l2_pieces.specs.declared.piece.Piece.{Piece}
use Rattle.l2_pieces.specs.Pieces.{bytes_of, pieces, behind_all, first_place}
use Rattle.l2_directives.specs.declared.constant.Constant.{Constant}
use Rattle.l2_directives.specs.declared.role.Role.{Role}
use Rattle.l2_directives.specs.declared.role.Role.TheVariants as role
use Rattle.l2_directives.specs.declared.role.Shape.TheVariants as shape
use Rattle.l2_directives.specs.declared.role.Macro.{Macro}
use Rattle.l2_directives.specs.declared.headers.Header.{Header}
use Rattle.l2_directives.specs.declared.directives.Directive.{Directive}
use Rattle.l2_directives.specs.declared.directives.Directive.TheVariants as directive
use Rattle.l2_directives.specs.declared.words.WordClass.{WordClass}
use Rattle.l2_directives.specs.declared.words.WordClass.TheVariants as class
use Rattle.l2_directives.specs.Constants.{constant_of}
use Rattle.l2_directives.specs.Words.{word_class}
use Rattle.l2_directives.specs.Directives.{directive_of}
use Rattle.l2_directives.specs.Headers.{Entry, entries}
use Rattle.l2_lex.specs.declared.state.Attribute.{Attribute}
use Rattle.l2_lex.specs.declared.state.Attribute.TheVariants as attribute
use Rattle.l2_lex.specs.States.{State, emit, emit_all, token_at, number_kind, macro_kinds, is_known, with_name, number_of, role_of, know, learn, learn_all, declare, declare_all, ends_typedef, typedef_behind, no_typedef, pass_mark, before_word}
use Rattle.l2_lex.specs.Lexing.{Turn, goes, stops, name_as, name, pass, word, constant, token_of, is_open, attributed, is_word_refused, pass_line, include, defines_one, become_macro, define, is_constant, open_comment, comment_or, direct, is_passed, directed, begins_directive, line_behind, step_on, step_unless, own_fault, step, Lexed, lexed, end_token, is_outside, finish, ends, lex, first_state, tokens_of}
use Rattle.l2_lex.specs.Laws.{Distinct, IsNumbered, AllNumbered, Listed, TokensLaw}

-- Numbers

wider : (m n : ℕ) → m ≤ n → (k : TokenKind) → IsNumbered m k → IsNumbered n k
wider m n h (token.Word i) p = omega arith
wider m n h (token.TypeName i) p = omega arith
wider m n h token.End p = p
wider m n h k p = tt

all_wider : (m n : ℕ) → m ≤ n → (tokens : List Token) → AllNumbered m tokens → AllNumbered n tokens
all_wider m n h [] p = tt
all_wider m n h (t ∷ tokens) p = (wider m n h t.kind p.0, all_wider m n h tokens p.1)

one_more : (n : ℕ) (tokens : List Token) (t : Token) → AllNumbered n tokens → IsNumbered n t.kind → AllNumbered n (tokens ++ t ∷ [])
one_more n [] t p q = (q, tt)
one_more n (u ∷ tokens) t p q = (p.0, one_more n tokens t p.1 q)

-- Names

known_more : (names : List (List ℕ)) (v w : List ℕ) → is_known names v ≡ false → bytes_eq v w ≡ false → is_known (names ++ w ∷ []) v ≡ false
known_more [] v w a b = ap (λ c. c || false) b
known_more (x ∷ names) v w a b = go (bytes_eq v x) a (λ h. known_more names v w h b)
  where
    go : (c : Bool) → (c || is_known names v) ≡ false → (is_known names v ≡ false → is_known (names ++ w ∷ []) v ≡ false) → (c || is_known (names ++ w ∷ []) v) ≡ false
    go true h r = h
    go false h r = r h

other : (xs ys : List ℕ) → bytes_eq xs ys ≡ false → bytes_eq ys xs ≡ false
other xs ys e = nat_list_eq_equiv.symm ys xs ∙ e

distinct_more : (names : List (List ℕ)) (w : List ℕ) → Distinct names → is_known names w ≡ false → Distinct (names ++ w ∷ [])
distinct_more [] w d e = (refl, tt)
distinct_more (x ∷ names) w d e = go (bytes_eq w x) refl e (λ h. distinct_more names w d.1 h)
  where
    go : (c : Bool) → bytes_eq w x ≡ c → (c || is_known names w) ≡ false → (is_known names w ≡ false → Distinct (names ++ w ∷ [])) → Distinct (x ∷ names ++ w ∷ [])
    go true t h r = absurd (no h)
      where
        no : true ≡ false → ⊥
        no q = cc
    go false t h r = (known_more names x w d.0 (other w x t), r h)

known_within : (names : List (List ℕ)) (w : List ℕ) → is_known names w ≡ true → number_of names w < length names
known_within [] w e = absurd (no e)
  where
    no : false ≡ true → ⊥
    no q = cc
known_within (x ∷ names) w e = go (bytes_eq w x) e (λ h. known_within names w h)
  where
    go : (c : Bool) → (c || is_known names w) ≡ true → (is_known names w ≡ true → number_of names w < length names) → cond (not c) (1 + number_of names w) 0 < length (x ∷ names)
    go true h r = omega arith
    go false h r = let q = r h in omega arith

unknown_last : (names : List (List ℕ)) (w : List ℕ) → is_known names w ≡ false → number_of names w ≡ length names
unknown_last [] w e = refl
unknown_last (x ∷ names) w e = go (bytes_eq w x) e (λ h. unknown_last names w h)
  where
    go : (c : Bool) → (c || is_known names w) ≡ false → (is_known names w ≡ false → number_of names w ≡ length names) → cond (not c) (1 + number_of names w) 0 ≡ length (x ∷ names)
    go true h r = absurd (no h)
      where
        no : true ≡ false → ⊥
        no q = cc
    go false h r = let q = r h in omega arith

-- States

pub record Good (s : State) : Type 0 where
  pub names : Distinct s.names
  pub words : AllNumbered (length s.names) s.tokens

record Keeps (s t : State) : Type 0 where
  pub keeps : Good s → Good t

stays : (s : State) → Keeps s s
stays s = record { keeps = λ g. g }

emitted : (k : TokenKind) (x : Piece) (s : State) → Good s → IsNumbered (length s.names) k → Good (emit k x s)
emitted k x s g h = record { names = g.names; words = one_more (length s.names) s.tokens (token_at k x) g.words h }

AllKinds : ℕ → List TokenKind → Type 0
AllKinds n [] = Unit {0}
AllKinds n (k ∷ kinds) = IsNumbered n k × AllKinds n kinds

all_emitted : (kinds : List TokenKind) (x : Piece) (s : State) → Good s → AllKinds (length s.names) kinds → Good (emit_all kinds x s)
unfolding AllKinds
all_emitted [] x s g h = g
all_emitted (k ∷ kinds) x s g h = all_emitted kinds x (emit k x s) (emitted k x s g h.0) h.1

of_macro : (n : ℕ) (m : Macro) → AllKinds n (macro_kinds m)
unfolding AllKinds
of_macro n m = go m.shape m.constant
  where
    go : (s : _) (c : Constant) → AllKinds n (macro_kinds (record { shape = s; constant = c }))
    go shape.Bare c = (tt, tt)
    go shape.Negative c = (tt, (tt, tt))
    go shape.Wrapped c = (tt, (tt, (tt, tt)))
    go shape.WrappedNegative c = (tt, (tt, (tt, (tt, tt))))
    go shape.NegativeWrapped c = (tt, (tt, (tt, (tt, tt))))

knows : (w : List ℕ) (s : State) → Keeps s (know w s)
knows w s = record { keeps = λ g. go (is_known s.names w) refl g }
  where
    go : (b : Bool) → is_known s.names w ≡ b → Good s → Good (record s { names = cond b s.names (s.names ++ w ∷ []); roles = (know w s).roles })
    go true e g = record { names = g.names; words = g.words }
    go false e g = record {
      names = distinct_more s.names w g.names e;
      words = all_wider (length s.names) (length (s.names ++ w ∷ [])) (let l = length-append s.names (w ∷ []) in omega arith) s.tokens g.words;
    }

numbered : (w : List ℕ) (s : State) → number_of s.names w < length (know w s).names
numbered w s = go (is_known s.names w) refl
  where
    go : (b : Bool) → is_known s.names w ≡ b → number_of s.names w < length (cond b s.names (s.names ++ w ∷ []))
    go true e = known_within s.names w e
    go false e = let l = length-append s.names (w ∷ []) in let u = unknown_last s.names w e in omega arith

named_as : (r : Role) (n : ℕ) (x : Piece) (s : State) → n < length s.names → Good s → Good (name_as r n x s)
named_as role.Plain n x s h g = emitted (token.Word n) x (declare n s) (record { names = g.names; words = g.words }) h
named_as role.TypeName n x s h g = emitted (cond (before_word s.before) (token.Word n) (token.TypeName n)) x s g (go (before_word s.before))
  where
    go : (b : Bool) → IsNumbered (length s.names) (cond b (token.Word n) (token.TypeName n))
    go true = h
    go false = h
named_as (role.Constant c) n x s h g = emitted (number_kind c) x s g tt
named_as (role.Macro m) n x s h g = all_emitted (macro_kinds m) x s g (of_macro (length s.names) m)

names_one : (w : List ℕ) (x : Piece) (s : State) → Keeps s (name w x s)
names_one w x s = record { keeps = λ g. named_as (role_of (know w s).roles (number_of s.names w)) (number_of s.names w) x (know w s) (numbered w s) ((knows w s).keeps g) }

passes : (m : Mark) (x : Piece) (s : State) → Keeps s (pass m x s)
passes m x s = record { keeps = λ g. emitted (token.Mark m) x (pass_mark m s) (go (ends_typedef m s.typedef) g) tt }
  where
    go : (b : Bool) → Good s → Good (cond b (record s { typedef = no_typedef; roles = declare_all s.declared s.roles; declared = [] }) (record s { typedef = typedef_behind m s.typedef }))
    go true g = record { names = g.names; words = g.words }
    go false g = record { names = g.names; words = g.words }

words : (c : WordClass) (w : List ℕ) (x : Piece) (s : State) → Keeps s (word c w x s).state
words class.Refused w x s = stays s
words class.Skipped w x s = stays s
words class.Attribute w x s = record { keeps = λ g. record { names = g.names; words = g.words } }
words (class.Keyword m) w x s = passes m x s
words class.Name w x s = names_one w x s

constants : (c : Option Constant) (x : Piece) (s : State) → Keeps s (constant c x s)
constants None x s = stays s
constants (Some c) x s = record { keeps = λ g. emitted (number_kind c) x s g tt }

tokens : (text : List ℕ) (k : PieceKind) (x : Piece) (s : State) → Keeps s (token_of text k x s).state
tokens text kind.Word x s = words (word_class (bytes_of text x)) (bytes_of text x) x s
tokens text kind.Text x s = record { keeps = λ g. emitted token.Text x s g tt }
tokens text (kind.Mark m) x s = passes m x s
tokens text k x s = constants (constant_of text x) x s

turns_at : (b : Bool) (s : State) (t u : Turn) → Keeps s t.state → Keeps s u.state → Keeps s (cond b t u).state
turns_at true s t u p q = p
turns_at false s t u p q = q

attributes : (a : Attribute) (text : List ℕ) (x : Piece) (s : State) → Keeps s (attributed a text x s).state
attributes attribute.Outside text x s = tokens text x.kind x s
attributes attribute.Awaited text x s =
    turns_at (is_open x.kind) s (goes (record s { attribute = attribute.Inside 1 })) (stops (cond (is_word_refused text x x.kind) rule.Keyword rule.Syntax) x s) (record { keeps = λ g. record { names = g.names; words = g.words } }) (stays s)
attributes (attribute.Inside n) text x s = record { keeps = λ g. record { names = g.names; words = g.words } }

learns : (all : List Entry) (s : State) → Keeps s (learn_all all s)
learns [] s = stays s
learns (e ∷ all) s = record { keeps = λ g. (learns all (learn e s)).keeps (let h = (knows e.bytes s).keeps g in record { names = h.names; words = h.words }) }

includes : (h : Header) (x : Piece) (s : State) → Keeps s (include h x s).state
includes h x s =
    turns_at (defines_one (entries h) s) s (stops rule.Directive x s) (goes (pass_line x (learn_all (entries h) s))) (stays s) (record { keeps = λ g. let k = (learns (entries h) s).keeps g in record { names = k.names; words = k.words } })

defines : (w : List ℕ) (m : Macro) (x : Piece) (s : State) → Keeps s (define w m x s).state
defines w m x s =
    turns_at (is_constant (role_of s.roles (number_of s.names w))) s (stops rule.Directive x s) (goes (pass_line x (become_macro w m s))) (stays s)
    (record { keeps = λ g. let k = (knows w s).keeps g in record { names = k.names; words = k.words } })

directs : (d : Directive) (text : List ℕ) (x : Piece) (s : State) → Keeps s (direct d text x s).state
directs directive.Passed text x s = record { keeps = λ g. record { names = g.names; words = g.words } }
directs (directive.Include h) text x s = includes h x s
directs (directive.Define n m) text x s = defines (bytes_of text n) m x s
directs directive.Unknown text x s = stays s

commented : (o : Option Piece) (t : Turn) (s : State) → Keeps s t.state → Keeps s (comment_or o t s).state
commented None t s g = g
commented (Some y) t s g = stays s

steps_on : (text : List ℕ) (x : Piece) (rest : List Piece) (s : State) → Keeps s (step_on text x rest s).state
steps_on text x rest s =
    let line = line_behind x rest in
    let d = directive_of text line in
    let u = record s { line = x.place.line } in
    turns_at (x.place.line == s.passed) s (goes s) (cond (begins_directive x s) (directed d text x line s) (attributed s.attribute text x u)) (stays s)
    (turns_at (begins_directive x s) s (directed d text x line s) (attributed s.attribute text x u)
    (turns_at (is_passed d) s (direct d text x s) (comment_or (open_comment line) (direct d text x s) s) (directs d text x s) (commented (open_comment line) (direct d text x s) s (directs d text x s)))
    (record { keeps = λ g. (attributes s.attribute text x u).keeps (record { names = g.names; words = g.words }) }))

steps_unless : (r : Option Rule) (text : List ℕ) (x : Piece) (rest : List Piece) (s : State) → Keeps s (step_unless r text x rest s).state
steps_unless None text x rest s = steps_on text x rest s
steps_unless (Some r) text x rest s = stays s

-- Texts

abbrev Right : List ℕ → Lexed → Type 0
Right text r = Distinct r.names × Listed r.stop text (length r.names) r.list

finished : (text : List ℕ) (s : State) → Good s → Right text (finish (behind_all text first_place) s)
finished text s g = go (is_outside s.attribute)
  where
    go : (b : Bool) → Right text (cond b (record { list = s.tokens ++ end_token (behind_all text first_place) ∷ []; names = s.names; stop = None }) (lexed s (Some (record { place = behind_all text first_place; rule = rule.Syntax }))))
    go true = (g.names, (s.tokens, g.words, refl))
    go false = (g.names, g.words)

right : (text : List ℕ) (all : List Piece) (s : State) → Good s → Right text (lex text (behind_all text first_place) all s)
right text [] s g = finished text s g
right text (x ∷ rest) s g =
    go (step text x rest s).stop (right text rest (step text x rest s).state ((steps_unless (own_fault text x.kind x) text x rest s).keeps g))
  where
    go : (o : Option Refusal) → Right text (lex text (behind_all text first_place) rest (step text x rest s).state) → Right text (ends o (step text x rest s).state (lex text (behind_all text first_place) rest (step text x rest s).state))
    go None r = r
    go (Some f) r = let k = (steps_unless (own_fault text x.kind x) text x rest s).keeps g in (k.names, k.words)

pub tokens_law : TokensLaw
tokens_law text = right text (pieces text) first_state (record { names = tt; words = tt })
