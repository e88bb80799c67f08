-- Every declarator and every initialiser that has begun goes on to a whole one.
use Rattle.std.proofs.Common.{◌≡◌, Bool, true, false, ◌&&◌, refl}
use Rattle.l2_syntax.specs.declared.token.Mark.{Mark}
use Rattle.l2_syntax.specs.declared.token.Mark.TheVariants as mark
use Rattle.l2_syntax.specs.declared.token.TokenKind.TheVariants as kind
use Rattle.l2_grammar.specs.Marks.{is}
use Rattle.l2_grammar.specs.Networks.{on_token, applied, indexed, starred}
use Rattle.l2_grammar.specs.Nesting.{opens, outcome, on_child, stands, is_declarator, is_initialiser, names, shaped, own_naming}
use Rattle.l2_grammar.proofs.Bools.{both, and}
use Rattle.l2_grammar.proofs.Declarations.{name_fits}
use Rattle.l2_grammar.proofs.Whole.{Can, can_stop, can_token, can_child, sign, least_of, name_of, least_parameter}
use Rattle.l2_grammar.specs.States.{Naming, named, optional, absent, Sort, declarator, enclosed, initialiser, Shape, nameless, name_only, function, derived, State, braces, brace_more, brace_next, braced, stars, stars_const, group, group_close, direct, size, size_close, parameters, parameters_more, parameters_next}

-- initialisers
pub can_braced : Can initialiser braced
unfolding outcome
can_braced = can_stop initialiser braced refl

pub can_brace_more : Can initialiser brace_more
unfolding on_token stands is
can_brace_more = can_token initialiser brace_more braced (sign mark.CloseBrace) refl refl can_braced

pub can_brace_next : Can initialiser brace_next
unfolding on_token stands is
can_brace_next = can_token initialiser brace_next braced (sign mark.CloseBrace) refl refl can_braced

pub can_braces : Can initialiser braces
unfolding on_token on_child opens stands outcome is
can_braces = can_child initialiser braces brace_more (least_of initialiser) (tt, refl) refl refl refl can_brace_more

pub in_initialiser : (q : State) → Can initialiser q → (s : Sort) → is_initialiser s ≡ true → Can s q
in_initialiser q c initialiser h = c
in_initialiser q c s h = absurd (cc)

-- declarators
names_starred : (n : Naming) (b : Bool) (h : Shape) → names n h ≡ true → names n (starred b h) ≡ true
names_starred named true name_only e = refl
names_starred named b h e = e
names_starred optional b h e = refl
names_starred absent true name_only e = absurd (cc)
names_starred absent b h e = e

names_indexed : (n : Naming) (h : Shape) → names n h ≡ true → names n (indexed h) ≡ true
names_indexed named name_only e = refl
names_indexed optional h e = refl
names_indexed absent name_only e = absurd (cc)
names_indexed n h e = e

names_applied : (n : Naming) (h : Shape) (c : Bool) → names n h ≡ true → names n (applied h c) ≡ true
names_applied named name_only c e = refl
names_applied optional h c e = refl
names_applied absent name_only c e = absurd (cc)
names_applied n nameless c e = e
names_applied n (function b) c e = e
names_applied n derived c e = e

pub can_direct : (s : Sort) (b : Bool) (h : Shape) → shaped s h ≡ true → Can s (direct b h)
unfolding outcome
can_direct (declarator n) b h e = can_stop (declarator n) (direct b h) (names_starred n b h e)
can_direct (enclosed n) b h e = can_stop (enclosed n) (direct b h) (names_starred n b h e)
can_direct s b h e = absurd (cc)

pub can_round : (s : Sort) (q : State) (b : Bool) (h : Shape) (m : Mark) → on_token s q (sign m) ≡ direct b h → shaped s h ≡ true → Can s q
unfolding stands
can_round s q b h m e g = can_token s q (direct b h) (sign m) e g (can_direct s b h g)

pub can_group_close : (s : Sort) (b : Bool) (h : Shape) → shaped s h ≡ true → Can s (group_close b h)
unfolding on_token is
can_group_close s b h g = can_round s (group_close b h) b h mark.CloseParenthesis refl g

shaped_indexed : (s : Sort) (h : Shape) → shaped s h ≡ true → shaped s (indexed h) ≡ true
shaped_indexed s h g = let p = both (is_declarator s) (names (own_naming s) h) g in and _ _ p.0 (names_indexed (own_naming s) h p.1)

shaped_applied : (s : Sort) (h : Shape) (c : Bool) → shaped s h ≡ true → shaped s (applied h c) ≡ true
shaped_applied s h c g = let p = both (is_declarator s) (names (own_naming s) h) g in and _ _ p.0 (names_applied (own_naming s) h c p.1)

pub can_size : (s : Sort) (b : Bool) (h : Shape) → shaped s h ≡ true → Can s (size b h)
unfolding on_token is
can_size s b h g = can_round s (size b h) b (indexed h) mark.CloseBracket refl (shaped_indexed s h g)

pub can_size_close : (s : Sort) (b : Bool) (h : Shape) → shaped s h ≡ true → Can s (size_close b h)
unfolding on_token is
can_size_close s b h g = can_round s (size_close b h) b (indexed h) mark.CloseBracket refl (shaped_indexed s h g)

pub can_parameters : (s : Sort) (b : Bool) (h : Shape) → shaped s h ≡ true → Can s (parameters b h)
unfolding on_token is
can_parameters s b h g = can_round s (parameters b h) b (applied h true) mark.CloseParenthesis refl (shaped_applied s h true g)

pub can_more : (s : Sort) (b : Bool) (h : Shape) (now later : Bool) → shaped s h ≡ true → Can s (parameters_more b h now later)
unfolding on_token is
can_more s b h now later g = can_round s (parameters_more b h now later) b (applied h now) mark.CloseParenthesis refl (shaped_applied s h now g)

pub can_parameters_next : (s : Sort) (b : Bool) (h : Shape) (c : Bool) → shaped s h ≡ true → Can s (parameters_next b h c)
unfolding on_token on_child opens stands outcome
can_parameters_next s b h c g = can_child s (parameters_next b h c) (parameters_more b h (c && false) (c && false)) least_parameter (tt, refl) refl refl g (can_more s b h (c && false) (c && false) g)

pub can_star : (s : Sort) (q : State) → on_token s q (kind.Word 0) ≡ direct true name_only → shaped s name_only ≡ true → Can s q
unfolding stands
can_star s q e g = can_token s q (direct true name_only) (kind.Word 0) e g (can_direct s true name_only g)

pub can_stars : (s : Sort) → is_declarator s ≡ true → Can s stars
unfolding on_token outcome is
can_stars (declarator named) h = can_star (declarator named) stars refl refl
can_stars (declarator optional) h = can_stop (declarator optional) stars refl
can_stars (declarator absent) h = can_stop (declarator absent) stars refl
can_stars (enclosed named) h = can_star (enclosed named) stars refl refl
can_stars (enclosed optional) h = can_stop (enclosed optional) stars refl
can_stars (enclosed absent) h = can_stop (enclosed absent) stars refl
can_stars s h = absurd (cc)

pub can_stars_const : (s : Sort) → is_declarator s ≡ true → Can s stars_const
unfolding on_token outcome is
can_stars_const (declarator named) h = can_star (declarator named) stars_const refl refl
can_stars_const (declarator optional) h = can_stop (declarator optional) stars_const refl
can_stars_const (declarator absent) h = can_stop (declarator absent) stars_const refl
can_stars_const (enclosed named) h = can_star (enclosed named) stars_const refl refl
can_stars_const (enclosed optional) h = can_stop (enclosed optional) stars_const refl
can_stars_const (enclosed absent) h = can_stop (enclosed absent) stars_const refl
can_stars_const s h = absurd (cc)

pub can_group : (s : Sort) (b : Bool) → is_declarator s ≡ true → Can s (group b)
unfolding on_token on_child opens stands outcome is
can_group (declarator named) b h = can_child (declarator named) (group b) (group_close b name_only) (name_of (declarator named)) name_fits refl refl refl (can_group_close (declarator named) b name_only refl)
can_group (enclosed named) b h = can_child (enclosed named) (group b) (group_close b name_only) (name_of (declarator named)) name_fits refl refl refl (can_group_close (enclosed named) b name_only refl)
can_group (declarator optional) b h = can_round (declarator optional) (group b) b nameless mark.CloseParenthesis refl refl
can_group (declarator absent) b h = can_round (declarator absent) (group b) b nameless mark.CloseParenthesis refl refl
can_group (enclosed optional) b h = can_round (enclosed optional) (group b) b nameless mark.CloseParenthesis refl refl
can_group (enclosed absent) b h = can_round (enclosed absent) (group b) b nameless mark.CloseParenthesis refl refl
can_group s b h = absurd (cc)
