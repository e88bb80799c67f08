-- A token that follows a construct, and belongs to the one round it, may follow it as a whole.
use Rattle.std.proofs.Common.{◌≡◌, ◌≤◌, ◌<◌, ℕ, suc, ◌⊎◌, inl, inr, Bool, true, false, cond, not, ◌||◌, leb, refl, sym, ap, subst, arith}
use Rattle.std.proofs.lemmas.Bool.{le-leb, leb-true}
use Rattle.l2_syntax.specs.declared.token.Mark.{Mark}
use Rattle.l2_syntax.specs.declared.token.Mark.TheVariants as mark
use Rattle.l2_syntax.specs.declared.token.TokenKind.{TokenKind}
use Rattle.l2_syntax.specs.declared.token.TokenKind.TheVariants as kind
use Rattle.l2_grammar.specs.Networks.{on_token, on, continued, wants_left, level_of, wanted_by, indexed, starred, cast_in}
use Rattle.l2_grammar.specs.Nesting.{opens, outcome, on_child, stands, least, value_at, is_item, naming, own_naming, grouped, takes_type, ends_declaration, names, behind_value, behind_statement, behind_item, behind_declaration, behind_declarator, behind_inside, behind_first, behind_parameter, behind_next_parameter, behind_group, defines}
use Rattle.l2_grammar.specs.Reader.{takes}
use Rattle.l2_grammar.proofs.Bools.{no, both, and}
use Rattle.l2_grammar.proofs.Tokens.{on_or, on_only, on_two, none_stands}
use Rattle.l2_grammar.proofs.Nests.{nowhere_stands}
use Rattle.l2_grammar.proofs.Ends.{ends, ends_value, ends_list, ends_declarator, is_else, Follows, grows, grows_wants, grows_low, grows_middle, grows_cast, value_level, ends_level}
use Rattle.l2_grammar.specs.States.{Items, lone, listed, behind_else, Naming, named, Sort, external, item, for_first, member, parameter, declarator, operand, inside, sizeof_operand, initialiser, nowhere, Right, binary, assignment, conditional, cast, prefix, update, Storage, tagged, Shape, nameless, State, none, fresh, have, right, sizing, sized, paren, paren_close, typed_close, index, index_close, call, call_more, call_next, quest, quest_close, block, if_test, if_close, then_part, then_done, else_part, head_test, head_close, body, do_body, do_while, do_open, do_test, do_close, for_init, for_init_close, for_second, for_second_close, for_third, for_close, case_value, colon, returning, semicolon, statement, typed, members, enum_value, enum_value_close, enum_comma, declared, init_value, init_close, next_declarator, declaration_end, function_block, braces, brace_more, brace_next, braced, stars, stars_const, group, group_close, direct, size, size_close, parameters, parameters_more, parameters_next, Outcome, value}

taken_only : (s : Sort) (x : State) (k : TokenKind) → opens s x ≡ nowhere → ends s x k ≡ false → Follows s x k → takes s x k ≡ true
taken_only s x k o e (inl t) = t
taken_only s x k o e (inr (inl b)) = absurd (no (subst (λ z. takes z fresh k ≡ true) o b) (nowhere_stands _))
taken_only s x k o e (inr (inr f)) = absurd (no f e)

value_ends : (t : Sort) (k : TokenKind) → is_item t ≡ false → grows k < least t → ends_value t k ≡ true
value_ends (item b) k i g = absurd (cc)
value_ends external k i g = le-leb (suc (grows k)) (least external) g
value_ends t k i g = le-leb (suc (grows k)) (least t) g

value_end : (t : Sort) (d : State) (k : TokenKind) → outcome d ≡ value → is_item t ≡ false → grows k < least t → ends t d k ≡ true
unfolding outcome
value_end t (have l) k o i g = value_ends t k i g
value_end t sized k o i g = refl
value_end t braced k o i g = refl
value_end t d k o i g = absurd (cc)

value_child : (s : Sort) (x : State) (o : Outcome) → stands s (behind_value x o) ≡ true → o ≡ value
value_child s x value h = refl
value_child s x o h = absurd (no h (none_stands s))

-- an expression that stands in another construct, and the state behind it
value_parent : (s t : Sort) (x d : State) (k : TokenKind) → is_item t ≡ false → stands s (behind_value x (outcome d)) ≡ true → Follows s (behind_value x (outcome d)) k → (stands s x ≡ true → Follows s x k → grows k < least t) → ends t d k ≡ true
value_parent s t x d k i h f g =
    let o = value_child s x (outcome d) h in
    value_end t d k o i (g (subst (λ z. stands s (behind_value x z) ≡ true) o h) (subst (λ z. Follows s (behind_value x z) k) o f))

one : (s : Sort) (x y : State) (m : Mark) (k : TokenKind) → opens s x ≡ nowhere → ends s x k ≡ false → on_token s x k ≡ on m y k none → Follows s x k → k ≡ kind.Mark m
one s x y m k o e t f = on_only s m y k (subst (λ z. stands s z ≡ true) t (taken_only s x k o e f))

two : (s : Sort) (x y z : State) (m n : Mark) (k : TokenKind) → opens s x ≡ nowhere → ends s x k ≡ false → on_token s x k ≡ on m y k (on n z k none) → Follows s x k → (k ≡ kind.Mark m) ⊎ (k ≡ kind.Mark n)
two s x y z m n k o e t f = on_two s m n y z k (subst (λ z. stands s z ≡ true) t (taken_only s x k o e f))

-- an expression before a mark that ends it
before_one : (s t : Sort) (x y d : State) (m : Mark) (k : TokenKind) → opens s x ≡ nowhere → ends s x k ≡ false → on_token s x k ≡ on m y k none → is_item t ≡ false → grows (kind.Mark m) < least t → stands s (behind_value x (outcome d)) ≡ true → Follows s (behind_value x (outcome d)) k → ends t d k ≡ true
before_one s t x y d m k o e n i g h f = value_parent s t x d k i h f (λ a b. subst (λ z. grows z < least t) (sym (one s x y m k o e n b)) g)

before_two : (s t : Sort) (x y z d : State) (m l : Mark) (k : TokenKind) → opens s x ≡ nowhere → ends s x k ≡ false → on_token s x k ≡ on m y k (on l z k none) → is_item t ≡ false → grows (kind.Mark m) < least t → grows (kind.Mark l) < least t → stands s (behind_value x (outcome d)) ≡ true → Follows s (behind_value x (outcome d)) k → ends t d k ≡ true
before_two s t x y z d m l k o e n i g j h f = value_parent s t x d k i h f (λ a b. go (two s x y z m l k o e n b))
  where
    go : (k ≡ kind.Mark m) ⊎ (k ≡ kind.Mark l) → grows k < least t
    go (inl p) = subst (λ z. grows z < least t) (sym p) g
    go (inr p) = subst (λ z. grows z < least t) (sym p) j

wants_right : (r : Right) (k : TokenKind) → wants_left k ≤ level_of r → grows k < wanted_by r
wants_right (binary l) k w = let g = grows_wants k in omega arith
wants_right assignment k w = let g = grows_low k (omega arith) in omega arith
wants_right conditional k w = let g = grows_low k (omega arith) in omega arith
wants_right cast k w = let g = grows_middle k (omega arith) in omega arith
wants_right prefix k w = let g = grows_middle k (omega arith) in omega arith
wants_right update k w = let g = grows_middle k (omega arith) in omega arith

ends_right : (r : Right) (n : ℕ) (k : TokenKind) → grows k < n → n ≤ level_of r → grows k < wanted_by r
ends_right (binary l) n k g w = omega arith
ends_right assignment n k g w = omega arith
ends_right conditional n k g w = omega arith
ends_right cast n k g w = omega arith
ends_right prefix n k g w = let c = grows_cast k (omega arith) in omega arith
ends_right update n k g w = omega arith

right_level : (s : Sort) (r : Right) (k : TokenKind) → stands s (have (level_of r)) ≡ true → Follows s (have (level_of r)) k → grows k < wanted_by r
unfolding on_token opens stands
right_level s r k h (inl t) = go (leb (wants_left k) (level_of r)) refl t
  where
    go : (b : Bool) → leb (wants_left k) (level_of r) ≡ b → stands s (cond b (continued k) none) ≡ true → grows k < wanted_by r
    go true e f = wants_right r k (leb-true _ _ e)
    go false e f = absurd (no f (none_stands s))
right_level s r k h (inr (inl b)) = absurd (no b (nowhere_stands _))
right_level s r k h (inr (inr e)) = ends_right r (least s) k (ends_level s k e).0 (value_level (level_of r) s (both (value_at (level_of r) s) (leb (level_of r) 16) h).0)

then_only : (s : Sort) (k : TokenKind) → Follows s (then_done false) k → not (is_else k) ≡ true
unfolding on_token opens
then_only s k (inl t) = go (on_or s mark.Else none none k t)
  where
    go : ((k ≡ kind.Mark mark.Else) × (stands s none ≡ true)) ⊎ (stands s none ≡ true) → not (is_else k) ≡ true
    go (inl p) = absurd (no p.1 (none_stands s))
    go (inr p) = absurd (no p (none_stands s))
then_only s k (inr (inl b)) = absurd (no b (nowhere_stands _))
then_only s k (inr (inr e)) = e

then_end : (s : Sort) (d : State) (k : TokenKind) → stands s (behind_statement then_done (outcome d)) ≡ true → Follows s (behind_statement then_done (outcome d)) k → ends (item lone) d k ≡ true
unfolding outcome
then_end s (statement true) k h f = refl
then_end s (statement false) k h f = then_only s k f
then_end s (then_done b) k h f = then_only s k f
then_end s d k h f = absurd (no h (none_stands s))

statement_only : (s : Sort) (b : Bool) (k : TokenKind) → Follows s (statement b) k → (b || not (is_else k)) ≡ true
unfolding on_token opens
statement_only s b k (inl t) = absurd (no t (none_stands s))
statement_only s b k (inr (inl t)) = absurd (no t (nowhere_stands _))
statement_only s b k (inr (inr e)) = e

body_end : (s : Sort) (i : Items) (d : State) (k : TokenKind) → stands s (behind_statement statement (outcome d)) ≡ true → Follows s (behind_statement statement (outcome d)) k → ends (item i) d k ≡ true
unfolding outcome
body_end s i (statement b) k h f = statement_only s b k f
body_end s i (then_done b) k h f = statement_only s false k f
body_end s i d k h f = absurd (no h (none_stands s))

or_true : (b x : Bool) → x ≡ true → (b || x) ≡ true
or_true true x e = refl
or_true false x e = e

do_only : (s : Sort) (k : TokenKind) → Follows s do_while k → not (is_else k) ≡ true
unfolding on_token opens
do_only s k f = ap (λ z. not (is_else z)) (one s do_while do_open mark.While k refl refl refl f)

do_end : (s : Sort) (d : State) (k : TokenKind) → stands s (behind_statement (λ b. do_while) (outcome d)) ≡ true → Follows s (behind_statement (λ b. do_while) (outcome d)) k → ends (item lone) d k ≡ true
unfolding outcome
do_end s (statement b) k h f = or_true b _ (do_only s k f)
do_end s (then_done b) k h f = do_only s k f
do_end s d k h f = absurd (no h (none_stands s))

item_else : (k : TokenKind) → takes (item listed) fresh k ≡ true → not (is_else k) ≡ true
unfolding on_token stands
item_else (kind.Mark mark.Else) e = absurd (cc)
item_else k e = refl

block_only : (s : Sort) (x y : State) (k : TokenKind) → opens s x ≡ item listed → ends s x k ≡ false → on_token s x k ≡ on mark.CloseBrace y k none → Follows s x k → not (is_else k) ≡ true
block_only s x y k o e n (inl t) = ap (λ z. not (is_else z)) (on_only s mark.CloseBrace y k (subst (λ z. stands s z ≡ true) n t))
block_only s x y k o e n (inr (inl b)) = item_else k (subst (λ z. takes z fresh k ≡ true) o b)
block_only s x y k o e n (inr (inr f)) = absurd (no f e)

block_end : (s : Sort) (x : State) (d : State) (k : TokenKind) → (Follows s x k → not (is_else k) ≡ true) → stands s (behind_item x (outcome d)) ≡ true → Follows s (behind_item x (outcome d)) k → ends (item listed) d k ≡ true
unfolding outcome
block_end s x (statement b) k g h f = or_true b _ (g f)
block_end s x (then_done b) k g h f = g f
block_end s x declaration_end k g h f = refl
block_end s x d k g h f = absurd (no h (none_stands s))

declaration_child : (s t : Sort) (x : State) (d : State) (k : TokenKind) → stands s (behind_declaration x (outcome d)) ≡ true → ends t d k ≡ true
unfolding outcome
declaration_child s t x declaration_end k h = refl
declaration_child s t x d k h = absurd (no h (none_stands s))

cond_follow : (s : Sort) (c : Bool) (x : State) (k : TokenKind) → stands s (cond c x none) ≡ true → Follows s (cond c x none) k → Follows s x k
cond_follow s true x k h f = f
cond_follow s false x k h f = absurd (no h (none_stands s))

declarator_end : (s t : Sort) (n : Naming) (f : Shape → State) (d : State) (k : TokenKind) → ((h : Shape) → Follows s (f h) k → ends_declarator k ≡ true) → stands s (behind_declarator n f (outcome d)) ≡ true → Follows s (behind_declarator n f (outcome d)) k → ends t d k ≡ true
unfolding outcome
declarator_end s t n f stars k g h w = g nameless (cond_follow s (names n nameless) (f nameless) k h w)
declarator_end s t n f stars_const k g h w = g nameless (cond_follow s (names n nameless) (f nameless) k h w)
declarator_end s t n f (direct b h) k g i w = g (starred b h) (cond_follow s (names n (starred b h)) (f (starred b h)) k i w)
declarator_end s t n f d k g h w = absurd (no h (none_stands s))

list_declarator : (k : TokenKind) → ends_list k ≡ true → ends_declarator k ≡ true
list_declarator (kind.Mark mark.Comma) e = refl
list_declarator (kind.Mark mark.CloseParenthesis) e = refl
list_declarator k e = absurd (cc)

mark_semicolon : (s : Sort) (x y : State) (k : TokenKind) → stands s (on mark.Semicolon x k (on mark.OpenBrace y k none)) ≡ true → ends_declarator k ≡ true
mark_semicolon s x y k e = go (on_two s mark.Semicolon mark.OpenBrace x y k e)
  where
    go : (k ≡ kind.Mark mark.Semicolon) ⊎ (k ≡ kind.Mark mark.OpenBrace) → ends_declarator k ≡ true
    go (inl p) = ap ends_declarator p
    go (inr p) = ap ends_declarator p

mark_comma : (s : Sort) (x y z : State) (k : TokenKind) → stands s (on mark.Comma x k (on mark.Semicolon y k (on mark.OpenBrace z k none))) ≡ true → ends_declarator k ≡ true
mark_comma s x y z k e = go (on_or s mark.Comma x (on mark.Semicolon y k (on mark.OpenBrace z k none)) k e)
  where
    go : ((k ≡ kind.Mark mark.Comma) × (stands s x ≡ true)) ⊎ (stands s (on mark.Semicolon y k (on mark.OpenBrace z k none)) ≡ true) → ends_declarator k ≡ true
    go (inl p) = ap ends_declarator p.0
    go (inr p) = mark_semicolon s y z k p

mark_equal : (s : Sort) (x y z u : State) (k : TokenKind) → stands s (on mark.Equal x k (on mark.Comma y k (on mark.Semicolon z k (on mark.OpenBrace u k none)))) ≡ true → ends_declarator k ≡ true
mark_equal s x y z u k e = go (on_or s mark.Equal x (on mark.Comma y k (on mark.Semicolon z k (on mark.OpenBrace u k none))) k e)
  where
    go : ((k ≡ kind.Mark mark.Equal) × (stands s x ≡ true)) ⊎ (stands s (on mark.Comma y k (on mark.Semicolon z k (on mark.OpenBrace u k none))) ≡ true) → ends_declarator k ≡ true
    go (inl p) = ap ends_declarator p.0
    go (inr p) = mark_comma s y z u k p

declared_only : (s : Sort) (w : Storage) (h : Shape) (b : Bool) (k : TokenKind) → Follows s (declared w h b) k → ends_declarator k ≡ true
unfolding on_token opens
declared_only s w h b k (inl t) = mark_equal s (init_value w) (next_declarator w) declaration_end (cond b function_block none) k t
declared_only s w h b k (inr (inl t)) = absurd (no t (nowhere_stands _))
declared_only s w h b k (inr (inr e)) = list_declarator k (both (not (ends_declaration s)) (ends_list k) e).1

more_only : (s : Sort) (b : Bool) (h : Shape) (now later : Bool) (k : TokenKind) → Follows s (parameters_more b h now later) k → ends_list k ≡ true
unfolding on_token opens
more_only s b h now later k f = go (two s (parameters_more b h now later) _ _ mark.Comma mark.CloseParenthesis k refl refl refl f)
  where
    go : (k ≡ kind.Mark mark.Comma) ⊎ (k ≡ kind.Mark mark.CloseParenthesis) → ends_list k ≡ true
    go (inl p) = ap ends_list p
    go (inr p) = ap ends_list p

parameter_end : (s : Sort) (b : Bool) (h : Shape) (c : Bool) (d : State) (k : TokenKind) → stands s (behind_parameter b h c (outcome d)) ≡ true → Follows s (behind_parameter b h c (outcome d)) k → ends parameter d k ≡ true
unfolding outcome
parameter_end s b h c (typed w y) k g f = more_only s b h _ _ k f
parameter_end s b h c (declared w i e) k g f = more_only s b h _ _ k f
parameter_end s b h c d k g f = absurd (no g (none_stands s))

next_end : (s : Sort) (b : Bool) (h : Shape) (c : Bool) (d : State) (k : TokenKind) → stands s (behind_next_parameter b h c (outcome d)) ≡ true → Follows s (behind_next_parameter b h c (outcome d)) k → ends parameter d k ≡ true
unfolding outcome
next_end s b h c (typed w y) k g f = more_only s b h _ _ k f
next_end s b h c (declared w i e) k g f = more_only s b h _ _ k f
next_end s b h c d k g f = absurd (no g (none_stands s))

group_only : (s : Sort) (b : Bool) (h : Shape) (k : TokenKind) → Follows s (group_close b h) k → ends_declarator k ≡ true
unfolding on_token opens
group_only s b h k f = ap ends_declarator (one s (group_close b h) (direct b h) mark.CloseParenthesis k refl refl refl f)

group_declares : (n : Naming) → not (ends_declaration (grouped n)) ≡ true
group_declares named = refl
group_declares n = refl

group_end : (s : Sort) (n : Naming) (b : Bool) (d : State) (k : TokenKind) → stands s (behind_group n b (outcome d)) ≡ true → Follows s (behind_group n b (outcome d)) k → ends (grouped n) d k ≡ true
unfolding outcome
group_end s n b stars k g f = group_only s b nameless k (cond_follow s (names n nameless) (group_close b nameless) k g f)
group_end s n b stars_const k g f = group_only s b nameless k (cond_follow s (names n nameless) (group_close b nameless) k g f)
group_end s n b (direct c h) k g f = group_only s b (starred c h) k (cond_follow s (names n (starred c h)) (group_close b (starred c h)) k g f)
group_end s n b (typed w y) k g f = more_only s b nameless false false k f
group_end s n b (declared w h c) k g f = and _ _ (group_declares n) (more_only s b nameless false false k f)
group_end s n b d k g f = absurd (no g (none_stands s))

paren_least : (c : Bool) → (least (cond c inside (operand 1)) ≡ 1) × (is_item (cond c inside (operand 1)) ≡ false) × (not (ends_declaration (cond c inside (operand 1))) ≡ true)
paren_least true = (refl, refl, refl)
paren_least false = (refl, refl, refl)

closing_level : (s : Sort) (c : Bool) (k : TokenKind) → Follows s paren_close k → grows k < least (cond c inside (operand 1))
unfolding on_token opens
closing_level s c k f = subst (λ n. grows k < n) (sym (paren_least c).0) (subst (λ z. grows z < 1) (sym (one s paren_close (have 16) mark.CloseParenthesis k refl refl refl f)) (omega arith))

closing_list : (s : Sort) (k : TokenKind) → Follows s typed_close k → ends_list k ≡ true
unfolding on_token opens
closing_list s k f = ap ends_list (one s typed_close (cast_in s) mark.CloseParenthesis k refl refl refl f)

paren_end : (s : Sort) (c : Bool) (d : State) (k : TokenKind) → stands s (behind_inside (outcome d)) ≡ true → Follows s (behind_inside (outcome d)) k → ends (cond c inside (operand 1)) d k ≡ true
unfolding outcome
paren_end s c (have l) k g f = value_ends _ k (paren_least c).1 (closing_level s c k f)
paren_end s c sized k g f = refl
paren_end s c braced k g f = refl
paren_end s c (typed w y) k g f = closing_list s k f
paren_end s c (declared w h b) k g f = and _ _ (paren_least c).2 (closing_list s k f)
paren_end s c d k g f = absurd (no g (none_stands s))

first_level : (s : Sort) (k : TokenKind) → Follows s for_init_close k → grows k < 1
unfolding on_token opens
first_level s k f = subst (λ z. grows z < 1) (sym (one s for_init_close for_second mark.Semicolon k refl refl refl f)) (omega arith)

first_end : (s : Sort) (d : State) (k : TokenKind) → stands s (behind_first (outcome d)) ≡ true → Follows s (behind_first (outcome d)) k → ends for_first d k ≡ true
unfolding outcome
first_end s (have l) k g f = value_ends for_first k refl (first_level s k f)
first_end s sized k g f = refl
first_end s braced k g f = refl
first_end s declaration_end k g f = refl
first_end s d k g f = absurd (no g (none_stands s))

pub follows_end : (s : Sort) (q : State) (d : State) (k : TokenKind) → stands s (on_child s q (outcome d)) ≡ true → Follows s (on_child s q (outcome d)) k → ends (opens s q) d k ≡ true
unfolding on_child opens on_token
follows_end s fresh d k h f = declaration_child s _ fresh d k h
follows_end s (right r) d k h f = value_parent s (operand (wanted_by r)) (have (level_of r)) d k refl h f (right_level s r k)
follows_end s sizing d k h f = value_parent s sizeof_operand (have 15) d k refl h f (right_level s update k)
follows_end s paren d k h f = paren_end s (takes_type s) d k h f
follows_end s index d k h f = before_one s (operand 1) index_close (have 16) d mark.CloseBracket k refl refl refl refl (omega arith) h f
follows_end s call d k h f = before_two s (operand 2) call_more call_next (have 16) d mark.Comma mark.CloseParenthesis k refl refl refl refl (omega arith) (omega arith) h f
follows_end s call_next d k h f = before_two s (operand 2) call_more call_next (have 16) d mark.Comma mark.CloseParenthesis k refl refl refl refl (omega arith) (omega arith) h f
follows_end s quest d k h f = before_one s (operand 1) quest_close (right conditional) d mark.Colon k refl refl refl refl (omega arith) h f
follows_end s block d k h f = block_end s block d k (block_only s block (statement true) k refl refl refl) h f
follows_end s if_test d k h f = before_one s (operand 1) if_close then_part d mark.CloseParenthesis k refl refl refl refl (omega arith) h f
follows_end s then_part d k h f = then_end s d k h f
follows_end s else_part d k h f = body_end s behind_else d k h f
follows_end s head_test d k h f = before_one s (operand 1) head_close body d mark.CloseParenthesis k refl refl refl refl (omega arith) h f
follows_end s body d k h f = body_end s lone d k h f
follows_end s do_body d k h f = do_end s d k h f
follows_end s do_test d k h f = before_one s (operand 1) do_close semicolon d mark.CloseParenthesis k refl refl refl refl (omega arith) h f
follows_end s for_init d k h f = first_end s d k h f
follows_end s for_second d k h f = before_one s (operand 1) for_second_close for_third d mark.Semicolon k refl refl refl refl (omega arith) h f
follows_end s for_third d k h f = before_one s (operand 1) for_close body d mark.CloseParenthesis k refl refl refl refl (omega arith) h f
follows_end s case_value d k h f = before_one s (operand 3) colon body d mark.Colon k refl refl refl refl (omega arith) h f
follows_end s returning d k h f = before_one s (operand 1) semicolon (statement true) d mark.Semicolon k refl refl refl refl (omega arith) h f
follows_end s (typed w y) d k h f = declarator_end s (declarator (naming s)) (naming s) (λ i. declared w i (defines w i)) d k (λ i. declared_only s w i (defines w i) k) h f
follows_end s (members w) d k h f = declaration_child s member (members w) d k h
follows_end s (enum_value w) d k h f = before_two s (operand 3) (enum_value_close w) (enum_comma w) (typed w tagged) d mark.Comma mark.CloseBrace k refl refl refl refl (omega arith) (omega arith) h f
follows_end s (init_value w) d k h f = before_two s initialiser (init_close w) (next_declarator w) declaration_end d mark.Comma mark.Semicolon k refl refl refl refl (omega arith) (omega arith) h f
follows_end s (next_declarator w) d k h f = declarator_end s (declarator (naming s)) (naming s) (λ i. declared w i false) d k (λ i. declared_only s w i false k) h f
follows_end s function_block d k h f = block_end s function_block d k (block_only s function_block declaration_end k refl refl refl) h f
follows_end s braces d k h f = before_two s initialiser brace_more brace_next braced d mark.Comma mark.CloseBrace k refl refl refl refl (omega arith) (omega arith) h f
follows_end s brace_next d k h f = before_two s initialiser brace_more brace_next braced d mark.Comma mark.CloseBrace k refl refl refl refl (omega arith) (omega arith) h f
follows_end s (group b) d k h f = group_end s (own_naming s) b d k h f
follows_end s (size b i) d k h f = before_one s (operand 1) (size_close b i) (direct b (indexed i)) d mark.CloseBracket k refl refl refl refl (omega arith) h f
follows_end s (parameters b i) d k h f = parameter_end s b i true d k h f
follows_end s (parameters_next b i c) d k h f = next_end s b i c d k h f
follows_end s q d k h f = absurd (no h (none_stands s))
