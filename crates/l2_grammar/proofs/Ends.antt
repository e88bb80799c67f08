-- Which tokens may follow a whole construct, and that it goes on with none of them.
use Rattle.std.proofs.Common.{◌≡◌, ◌≤◌, ◌<◌, ℕ, suc, ◌⊎◌, Bool, true, false, cond, not, ◌&&◌, ◌||◌, leb, refl, ap, arith}
use Rattle.l2_syntax.specs.declared.token.Mark.TheVariants as mark
use Rattle.l2_syntax.specs.declared.token.TokenKind.{TokenKind}
use Rattle.l2_syntax.specs.declared.token.TokenKind.TheVariants as kind
use Rattle.l2_grammar.specs.Marks.{is}
use Rattle.std.proofs.lemmas.Bool.{leb-true}
use Rattle.l2_grammar.specs.Networks.{on_token, continued, wants_left, level_of}
use Rattle.l2_grammar.specs.Nesting.{opens, stands, values, least, value_at, is_item, naming, ends_declaration, specifies}
use Rattle.l2_grammar.specs.Reader.{takes, begins}
use Rattle.l2_grammar.proofs.Bools.{no, both}
use Rattle.l2_grammar.proofs.Tokens.{on_not, none_stands}
use Rattle.l2_grammar.proofs.Nests.{nowhere_stands}
use Rattle.l2_grammar.specs.States.{Sort, external, item, declarator, Storage, Named, number, Shape, State, none, fresh, have, right, sized, index, call, member_name, quest, then_done, else_part, statement, typed, declared, declaration_end, braced, stars, stars_const, direct}

-- the level of the expression that the token makes
abbrev pub rank_of : State → ℕ
rank_of (have l) = l
rank_of (right r) = level_of r
rank_of index = 16
rank_of call = 16
rank_of member_name = 16
rank_of quest = 3
rank_of q = 0

abbrev pub grows : TokenKind → ℕ
grows k = rank_of (continued k)

abbrev Continues : State → Type 0
Continues (have l) = Unit {0}
Continues (right r) = Unit {0}
Continues index = Unit {0}
Continues call = Unit {0}
Continues member_name = Unit {0}
Continues quest = Unit {0}
Continues (statement b) = Unit {0}
Continues none = Unit {0}
Continues q = ⊥

continues : (k : TokenKind) → Continues (continued k)
continues (kind.Mark mark.OpenBracket) = tt
continues k = tt

pub value_level : (l : ℕ) (s : Sort) → value_at l s ≡ true → least s ≤ l
value_level l s e = leb-true (least s) l (both (values s) (leb (least s) l) e).1

ranked : (s : Sort) (q : State) → Continues q → is_item s ≡ false → stands s q ≡ true → least s ≤ rank_of q
unfolding stands
ranked s (have l) c i e = value_level l s (both (value_at l s) (leb l 16) e).0
ranked s (right r) c i e = value_level (level_of r) s (both (value_at (level_of r) s) _ e).0
ranked s index c i e = value_level 16 s e
ranked s call c i e = value_level 16 s e
ranked s member_name c i e = value_level 16 s e
ranked s quest c i e = value_level 3 s e
ranked s (statement b) c i e = absurd (no e i)
ranked s none c i e = absurd (cc)
ranked s q c i e = absurd c

pub grows_wants : (k : TokenKind) → grows k ≤ wants_left k
grows_wants (kind.Mark mark.OpenBracket) = omega arith
grows_wants (kind.Mark m) = omega arith
grows_wants k = omega arith

pub grows_low : (k : TokenKind) → wants_left k ≤ 3 → grows k ≤ 1
grows_low (kind.Mark mark.OpenBracket) w = omega arith
grows_low (kind.Mark m) w = omega arith
grows_low k w = omega arith

pub grows_middle : (k : TokenKind) → wants_left k ≤ 15 → grows k ≤ 13
grows_middle (kind.Mark mark.OpenBracket) w = omega arith
grows_middle (kind.Mark m) w = omega arith
grows_middle k w = omega arith

pub grows_cast : (k : TokenKind) → grows k < 15 → grows k ≤ 13
grows_cast (kind.Mark mark.OpenBracket) w = omega arith
grows_cast (kind.Mark m) w = omega arith
grows_cast k w = omega arith

-- the token may follow a whole expression here
abbrev pub ends_value : Sort → TokenKind → Bool
ends_value (item b) k = false
ends_value s k = leb (suc (grows k)) (least s)

abbrev pub ends_list : TokenKind → Bool
ends_list (kind.Mark mark.Comma) = true
ends_list (kind.Mark mark.CloseParenthesis) = true
ends_list k = false

abbrev pub ends_declarator : TokenKind → Bool
ends_declarator (kind.Mark mark.Comma) = true
ends_declarator (kind.Mark mark.CloseParenthesis) = true
ends_declarator (kind.Mark mark.Semicolon) = true
ends_declarator (kind.Mark mark.Equal) = true
ends_declarator (kind.Mark mark.OpenBrace) = true
ends_declarator k = false

abbrev pub is_else : TokenKind → Bool
is_else (kind.Mark mark.Else) = true
is_else k = false

-- the token may follow the whole construct
abbrev pub ends : Sort → State → TokenKind → Bool
ends s (have l) k = ends_value s k
ends s sized k = true
ends s braced k = true
ends s declaration_end k = true
ends s (statement b) k = b || not (is_else k)
ends s (then_done b) k = not (is_else k)
ends s (typed w y) k = ends_list k
ends s (declared w h b) k = not (ends_declaration s) && ends_list k
ends s stars k = ends_declarator k
ends s stars_const k = ends_declarator k
ends s (direct b h) k = ends_declarator k
ends s q k = false

-- the construct goes on with the token, or one that begins in it does, or it may follow behind the whole construct
abbrev pub Follows : Sort → State → TokenKind → Type 0
Follows s q k = (takes s q k ≡ true) ⊎ (begins s q k ≡ true) ⊎ (ends s q k ≡ true)

pub ends_level : (s : Sort) (k : TokenKind) → ends_value s k ≡ true → (grows k < least s) × (is_item s ≡ false)
ends_level (item b) k e = absurd (cc)
ends_level external k e = (leb-true _ _ e, refl)
ends_level s k e = (leb-true _ _ e, refl)

false_if : (b : Bool) → (b ≡ true → ⊥) → b ≡ false
false_if true f = absurd (f refl)
false_if false f = refl

have_apart : (s : Sort) (l : ℕ) (k : TokenKind) → ends_value s k ≡ true → takes s (have l) k ≡ false
unfolding on_token
have_apart s l k e = go (leb (wants_left k) l)
  where
    go : (b : Bool) → stands s (cond b (continued k) none) ≡ false
    go true = false_if _ (λ h. let p = ends_level s k e in let q = ranked s (continued k) (continues k) p.1 h in absurd (omega arith))
    go false = none_stands s

else_apart : (s : Sort) (b : Bool) (k : TokenKind) → not (is_else k) ≡ true → takes s (then_done b) k ≡ false
unfolding on_token
else_apart s b k e = on_not s mark.Else (cond b else_part none) k (λ i. let j = ap is_else i in absurd (cc))

list_typed : (s : Sort) (w : Storage) (y : Named) (k : TokenKind) → ends_list k ≡ true → takes s (typed w y) k ≡ false
unfolding on_token stands is
list_typed s w (number a l c) (kind.Mark mark.Comma) e = refl
list_typed s w y (kind.Mark mark.Comma) e = refl
list_typed s w (number a l c) (kind.Mark mark.CloseParenthesis) e = refl
list_typed s w y (kind.Mark mark.CloseParenthesis) e = refl
list_typed s w y k e = absurd (cc)

list_begins : (s : Sort) (k : TokenKind) → ends_list k ≡ true → takes (declarator (naming s)) fresh k ≡ false
unfolding on_token stands is
list_begins s (kind.Mark mark.Comma) e = refl
list_begins s (kind.Mark mark.CloseParenthesis) e = refl
list_begins s k e = absurd (cc)

list_declared : (s : Sort) (w : Storage) (h : Shape) (b : Bool) (k : TokenKind) → ends_declaration s ≡ false → ends_list k ≡ true → takes s (declared w h b) k ≡ false
unfolding on_token stands is
list_declared s w h b (kind.Mark mark.Comma) f e = ap (λ x. x && specifies s w) f
list_declared s w h b (kind.Mark mark.CloseParenthesis) f e = refl
list_declared s w h b k f e = absurd (cc)

star_apart : (s : Sort) (k : TokenKind) → ends_declarator k ≡ true → (takes s stars k ≡ false) × (takes s stars_const k ≡ false)
unfolding on_token stands is
star_apart s (kind.Mark mark.Comma) e = (refl, refl)
star_apart s (kind.Mark mark.CloseParenthesis) e = (refl, refl)
star_apart s (kind.Mark mark.Semicolon) e = (refl, refl)
star_apart s (kind.Mark mark.Equal) e = (refl, refl)
star_apart s (kind.Mark mark.OpenBrace) e = (refl, refl)
star_apart s k e = absurd (cc)

direct_apart : (s : Sort) (b : Bool) (h : Shape) (k : TokenKind) → ends_declarator k ≡ true → takes s (direct b h) k ≡ false
unfolding on_token stands is
direct_apart s b h (kind.Mark mark.Comma) e = refl
direct_apart s b h (kind.Mark mark.CloseParenthesis) e = refl
direct_apart s b h (kind.Mark mark.Semicolon) e = refl
direct_apart s b h (kind.Mark mark.Equal) e = refl
direct_apart s b h (kind.Mark mark.OpenBrace) e = refl
direct_apart s b h k e = absurd (cc)

not_true : (b : Bool) → not b ≡ true → b ≡ false
not_true true e = absurd (cc)
not_true false e = refl

pub ends_apart : (s : Sort) (q : State) (k : TokenKind) → ends s q k ≡ true → (takes s q k ≡ false) × (begins s q k ≡ false)
unfolding opens on_token
ends_apart s (have l) k e = (have_apart s l k e, nowhere_stands _)
ends_apart s sized k e = (none_stands s, nowhere_stands _)
ends_apart s braced k e = (none_stands s, nowhere_stands _)
ends_apart s declaration_end k e = (none_stands s, nowhere_stands _)
ends_apart s (statement b) k e = (none_stands s, nowhere_stands _)
ends_apart s (then_done b) k e = (else_apart s b k e, nowhere_stands _)
ends_apart s (typed w y) k e = (list_typed s w y k e, list_begins s k e)
ends_apart s (declared w h b) k e = let p = both _ _ e in (list_declared s w h b k (not_true _ p.0) p.1, nowhere_stands _)
ends_apart s stars k e = ((star_apart s k e).0, nowhere_stands _)
ends_apart s stars_const k e = ((star_apart s k e).1, nowhere_stands _)
ends_apart s (direct b h) k e = (direct_apart s b h k e, nowhere_stands _)
ends_apart s q k e = absurd (cc)
