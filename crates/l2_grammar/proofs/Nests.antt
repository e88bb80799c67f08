-- How constructs begin in one another.
use Rattle.std.proofs.Common.{◌≡◌, ℕ, ◌⊎◌, inl, inr, Bool, true, false, cond, refl, sym, ap, ◌∙◌, subst}
use Rattle.l2_syntax.specs.declared.token.Mark.{Mark}
use Rattle.l2_syntax.specs.declared.token.Mark.TheVariants as mark
use Rattle.l2_syntax.specs.declared.token.TokenKind.{TokenKind}
use Rattle.l2_syntax.specs.declared.token.TokenKind.TheVariants as kind
use Rattle.l2_grammar.specs.Marks.{is}
use Rattle.l2_grammar.specs.Networks.{on_token, on, after_type, add_to, applied, indexed}
use Rattle.l2_grammar.specs.Nesting.{opens, outcome, on_child, stands, is_unit, naming, own_naming, grouped, takes_type}
use Rattle.l2_grammar.specs.Reader.{takes, begins}
use Rattle.l2_grammar.proofs.Bools.{no}
use Rattle.l2_grammar.proofs.Tokens.{on_not, none_stands}
use Rattle.l2_grammar.specs.States.{if_open, listed, behind_else, Naming, named, Sort, unit, external, item, for_first, member, parameter, declarator, operand, inside, initialiser, nowhere, Storage, Named, number, tagged, nameless, State, none, fresh, unit_end, have, right, sizing, paren, index, call, call_next, quest, block, if_test, then_part, else_part, head_test, body, do_body, do_test, for_init, for_second, for_third, case_value, returning, statement, typed, members, enum_value, init_value, next_declarator, declaration_end, function_block, braces, brace_next, braced, group, direct, size, parameters, parameters_next, Outcome, declaration}

pub nowhere_stands : (q : State) → stands nowhere q ≡ false
unfolding stands
nowhere_stands none = refl
nowhere_stands q = refl

abbrev closing_mark : Mark → Bool
closing_mark mark.CloseParenthesis = true
closing_mark mark.CloseBracket = true
closing_mark mark.Semicolon = true
closing_mark m = false

-- the mark that ends a construct doesn't begin one in it
mark_apart : (s t : Sort) (m : Mark) (x : State) (k : TokenKind) → takes t fresh (kind.Mark m) ≡ false → takes t fresh k ≡ true → stands s (on m x k none) ≡ false
mark_apart s t m x k f e = on_not s m x k (λ i. no (subst (λ z. takes t fresh z ≡ true) i e) f)

group_apart : (n : Naming) → takes (grouped n) fresh (kind.Mark mark.CloseParenthesis) ≡ false
unfolding stands on_token
group_apart named = refl
group_apart n = refl

unit_apart : (k : TokenKind) → takes external fresh k ≡ true → takes unit fresh k ≡ false
unfolding stands on_token
unit_apart kind.End e = absurd (cc)
unit_apart k e = refl

fresh_apart : (s : Sort) (k : TokenKind) → takes (cond (is_unit s) external nowhere) fresh k ≡ true → takes s fresh k ≡ false
fresh_apart unit k e = unit_apart k e
fresh_apart s k e = absurd (no e (nowhere_stands _))

-- no specifier begins a declarator
abbrev Begins : TokenKind → Type 0
Begins (kind.Word x) = Unit {0}
Begins (kind.Mark mark.Star) = Unit {0}
Begins (kind.Mark mark.OpenParenthesis) = Unit {0}
Begins (kind.Mark mark.OpenBracket) = Unit {0}
Begins k = ⊥

added_apart : (s : Sort) (w : Storage) (y : Named) (k : TokenKind) → Begins k → stands s (add_to w y k) ≡ false
unfolding stands is
added_apart s w (number a l c) (kind.Word x) e = refl
added_apart s w y (kind.Word x) e = refl
added_apart s w (number a l c) (kind.Mark mark.Star) e = refl
added_apart s w y (kind.Mark mark.Star) e = refl
added_apart s w (number a l c) (kind.Mark mark.OpenParenthesis) e = refl
added_apart s w y (kind.Mark mark.OpenParenthesis) e = refl
added_apart s w (number a l c) (kind.Mark mark.OpenBracket) e = refl
added_apart s w y (kind.Mark mark.OpenBracket) e = refl
added_apart s w y k e = absurd e

type_apart : (s : Sort) (w : Storage) (y : Named) (n : Naming) (k : TokenKind) → takes (declarator n) fresh k ≡ true → stands s (after_type s w y k) ≡ false
unfolding stands on_token
type_apart s w y n (kind.Word x) e = added_apart s w y (kind.Word x) tt
type_apart s w y n (kind.Mark mark.Star) e = added_apart s w y (kind.Mark mark.Star) tt
type_apart s w y n (kind.Mark mark.OpenParenthesis) e = added_apart s w y (kind.Mark mark.OpenParenthesis) tt
type_apart s w y n (kind.Mark mark.OpenBracket) e = added_apart s w y (kind.Mark mark.OpenBracket) tt
type_apart s w y n k e = absurd (cc)

operand_closed : (l : ℕ) (m : Mark) → closing_mark m ≡ true → takes (operand l) fresh (kind.Mark m) ≡ false
unfolding stands on_token
operand_closed l mark.CloseParenthesis e = refl
operand_closed l mark.CloseBracket e = refl
operand_closed l mark.Semicolon e = refl
operand_closed l m e = absurd (cc)

closing : (takes (item listed) fresh (kind.Mark mark.CloseBrace) ≡ false) × (takes for_first fresh (kind.Mark mark.Semicolon) ≡ false) × (takes member fresh (kind.Mark mark.CloseBrace) ≡ false) × (takes initialiser fresh (kind.Mark mark.CloseBrace) ≡ false) × (takes parameter fresh (kind.Mark mark.CloseParenthesis) ≡ false)
unfolding stands on_token is
closing = (refl, refl, refl, refl, refl)

if_apart : takes (item behind_else) fresh (kind.Mark mark.If) ≡ false
unfolding stands on_token
if_apart = refl

-- where a construct begins with a token, the one round it doesn't go on with it
pub begins_apart : (s : Sort) (q : State) (k : TokenKind) → begins s q k ≡ true → takes s q k ≡ false
unfolding opens on_token
begins_apart s fresh k e = fresh_apart s k e
begins_apart s (right r) k e = none_stands s
begins_apart s sizing k e = none_stands s
begins_apart s paren k e = none_stands s
begins_apart s index k e = none_stands s
begins_apart s call k e = mark_apart s (operand 2) mark.CloseParenthesis (have 16) k (operand_closed 2 mark.CloseParenthesis refl) e
begins_apart s call_next k e = none_stands s
begins_apart s quest k e = none_stands s
begins_apart s block k e = mark_apart s (item listed) mark.CloseBrace (statement true) k closing.0 e
begins_apart s if_test k e = none_stands s
begins_apart s then_part k e = none_stands s
begins_apart s else_part k e = mark_apart s (item behind_else) mark.If if_open k if_apart e
begins_apart s head_test k e = none_stands s
begins_apart s body k e = none_stands s
begins_apart s do_body k e = none_stands s
begins_apart s do_test k e = none_stands s
begins_apart s for_init k e = mark_apart s for_first mark.Semicolon for_second k closing.1 e
begins_apart s for_second k e = mark_apart s (operand 1) mark.Semicolon for_third k (operand_closed 1 mark.Semicolon refl) e
begins_apart s for_third k e = mark_apart s (operand 1) mark.CloseParenthesis body k (operand_closed 1 mark.CloseParenthesis refl) e
begins_apart s case_value k e = none_stands s
begins_apart s returning k e = mark_apart s (operand 1) mark.Semicolon (statement true) k (operand_closed 1 mark.Semicolon refl) e
begins_apart s (typed w y) k e = type_apart s w y (naming s) k e
begins_apart s (members w) k e = mark_apart s member mark.CloseBrace (typed w tagged) k closing.2 e
begins_apart s (enum_value w) k e = none_stands s
begins_apart s (init_value w) k e = none_stands s
begins_apart s (next_declarator w) k e = none_stands s
begins_apart s function_block k e = mark_apart s (item listed) mark.CloseBrace declaration_end k closing.0 e
begins_apart s braces k e = none_stands s
begins_apart s brace_next k e = mark_apart s initialiser mark.CloseBrace braced k closing.3 e
begins_apart s (group b) k e = mark_apart s (grouped (own_naming s)) mark.CloseParenthesis (direct b nameless) k (group_apart (own_naming s)) e
begins_apart s (size b h) k e = mark_apart s (operand 1) mark.CloseBracket (direct b (indexed h)) k (operand_closed 1 mark.CloseBracket refl) e
begins_apart s (parameters b h) k e = mark_apart s parameter mark.CloseParenthesis (direct b (applied h true)) k closing.4 e
begins_apart s (parameters_next b h c) k e = none_stands s
begins_apart s q k e = absurd (no e (nowhere_stands _))

paren_unit : (b : Bool) → is_unit (cond b inside (operand 1)) ≡ false
paren_unit true = refl
paren_unit false = refl

fresh_unit : (s : Sort) → is_unit (cond (is_unit s) external nowhere) ≡ false
fresh_unit unit = refl
fresh_unit s = refl

group_unit : (n : Naming) → is_unit (grouped n) ≡ false
group_unit named = refl
group_unit n = refl

pub no_unit : (s : Sort) (q : State) → is_unit (opens s q) ≡ false
unfolding opens
no_unit s fresh = fresh_unit s
no_unit s paren = paren_unit (takes_type s)
no_unit s (group b) = group_unit (own_naming s)
no_unit s q = refl

-- only a unit begins with a construct
pub first_child : (s : Sort) (o : Outcome) → is_unit s ≡ false → stands s (on_child s fresh o) ≡ true → ⊥
unfolding on_child stands
first_child s declaration u e = no e u
first_child s o u e = absurd (cc)

pub child_begun : (s : Sort) (q : State) → stands s (on_child s q (outcome fresh)) ≡ true → ⊥
unfolding on_child outcome stands
child_begun s fresh e = absurd (cc)
child_begun s q e = absurd (cc)

pub unit_state : (q : State) → stands unit q ≡ true → (q ≡ fresh) ⊎ (q ≡ unit_end)
unfolding stands
unit_state fresh h = inl refl
unit_state unit_end h = inr refl
unit_state q h = absurd (cc)

at_start : (o : Outcome) → on_child unit fresh o ≡ unit_end → ⊥
unfolding on_child
at_start declaration f = absurd (cc)
at_start o f = absurd (cc)

at_end : (o : Outcome) → on_child unit unit_end o ≡ unit_end → ⊥
unfolding on_child
at_end o f = absurd (cc)

-- a unit ends behind a token
pub no_last_child : (q : State) (o : Outcome) → stands unit q ≡ true → on_child unit q o ≡ unit_end → ⊥
no_last_child q o h f = go (unit_state q h)
  where
    go : (q ≡ fresh) ⊎ (q ≡ unit_end) → ⊥
    go (inl e) = at_start o (ap (λ z. on_child unit z o) (sym e) ∙ f)
    go (inr e) = at_end o (ap (λ z. on_child unit z o) (sym e) ∙ f)
