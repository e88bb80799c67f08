-- Every construct that has begun can be made whole.
use Rattle.std.proofs.Common.{◌≡◌, ℕ, List, [], ◌∷◌, ◌++◌, Bool, true, false, cond, leb, refl, sym, ap, ◌∙◌, subst, arith}
use Rattle.l2_syntax.specs.declared.token.Mark.{Mark}
use Rattle.l2_syntax.specs.declared.token.Mark.TheVariants as mark
use Rattle.l2_syntax.specs.declared.token.TokenKind.{TokenKind}
use Rattle.l2_syntax.specs.declared.token.TokenKind.TheVariants as kind
use Rattle.l2_grammar.specs.Marks.{is}
use Rattle.l2_grammar.specs.Networks.{on_token, level_of, wanted_by}
use Rattle.l2_grammar.specs.Nesting.{opens, outcome, on_child, stands, value_at, is_sizeof, takes_type}
use Rattle.std.proofs.lemmas.Bool.{le-leb}
use Rattle.l2_grammar.proofs.Bools.{cond_true, both, and}
use Rattle.l2_grammar.proofs.Taken.{done, right_whole}
use Rattle.l2_grammar.specs.Trees.{Seen, Tree, begin, token, child, spell, sort, state, Fits}
use Rattle.l2_grammar.specs.States.{Items, lone, Sort, item, for_first, parameter, operand, inside, sizeof_operand, initialiser, Right, conditional, cast, State, none, have, right, sized, paren, paren_close, typed_close, index_close, call_more, quest_close, then_part, then_done, semicolon, statement, value, stated}

-- a tree that goes on to a whole one
pub record Completed (r : Tree) : Type 0 where
  pub tree : Tree
  pub rest : List Seen
  pub fits : Fits tree
  pub sorted : sort tree ≡ sort r
  pub whole : done (sort r) (outcome (state tree)) ≡ true
  pub spells : (m : List Seen) → spell tree m ≡ spell r (rest ++ m)

stopped : (r : Tree) → Fits r → done (sort r) (outcome (state r)) ≡ true → Completed r
stopped r f d = record { tree = r; rest = []; fits = f; sorted = refl; whole = d; spells = λ m. refl }

gone_on : (r : Tree) (t : Seen) → Completed (token r t) → Completed r
gone_on r t c = record { tree = c.tree; rest = t ∷ c.rest; fits = c.fits; sorted = c.sorted; whole = c.whole; spells = c.spells }

spell_more : (c : Tree) (x m : List Seen) → spell c (x ++ m) ≡ spell c x ++ m
spell_more (begin s) x m = refl
spell_more (token a t) x m = spell_more a (t ∷ x) m
spell_more (child a b) x m = ap (λ z. spell a z) (spell_more b x m) ∙ spell_more a (spell b x) m

gone_in : (r c : Tree) → Completed (child r c) → Completed r
gone_in r c d = record { tree = d.tree; rest = spell c d.rest; fits = d.fits; sorted = d.sorted; whole = d.whole; spells = λ m. d.spells m ∙ ap (λ z. spell r z) (spell_more c d.rest m) }

-- every tree of this sort in this state goes on to a whole one
abbrev pub Can : Sort → State → Type 0
Can s q = (r : Tree) → Fits r → sort r ≡ s → state r ≡ q → Completed r

pub can_stop : (s : Sort) (q : State) → done s (outcome q) ≡ true → Can s q
can_stop s q d r f e i = stopped r f (subst (λ z. done z (outcome (state r)) ≡ true) (sym e) (subst (λ z. done s (outcome z) ≡ true) (sym i) d))

abbrev pub seen : TokenKind → Seen
seen k = record { kind = k; at = record { offset = 0; line = 1; col = 1 } }

pub can_token : (s : Sort) (q x : State) (k : TokenKind) → on_token s q k ≡ x → stands s x ≡ true → Can s x → Can s q
can_token s q x k e h c r f i j =
    let z : state (token r (seen k)) ≡ x = ap (λ y. on_token y (state r) k) i ∙ ap (λ y. on_token s y k) j ∙ e in
    gone_on r (seen k) (c (token r (seen k)) (f, subst (λ y. stands y (state (token r (seen k))) ≡ true) (sym i) (subst (λ y. stands s y ≡ true) (sym z) h)) i z)

pub can_child : (s : Sort) (q x : State) (c : Tree) → Fits c → opens s q ≡ sort c → on_child s q (outcome (state c)) ≡ x → stands s x ≡ true → Can s x → Can s q
can_child s q x c g o e h n r f i j =
    let z : state (child r c) ≡ x = ap (λ y. on_child y (state r) (outcome (state c))) i ∙ ap (λ y. on_child s y (outcome (state c))) j ∙ e in
    gone_in r c (n (child r c) (f, g, ap (λ y. opens y (state r)) i ∙ ap (λ y. opens s y) j ∙ o, subst (λ y. stands y (state (child r c)) ≡ true) (sym i) (subst (λ y. stands s y ≡ true) (sym z) h)) i z)

abbrev pub sign : Mark → TokenKind
sign m = kind.Mark m

-- the least expression, statement, declarator and parameter
abbrev pub least_of : Sort → Tree
least_of s = token (begin s) (seen kind.Text)

abbrev pub skip : Tree
skip = token (begin (item lone)) (seen (sign mark.Semicolon))

abbrev pub name_of : Sort → Tree
name_of s = token (begin s) (seen (kind.Word 0))

abbrev pub least_parameter : Tree
least_parameter = token (begin parameter) (seen (sign mark.Int))

pub fits_text : (l : ℕ) → leb l 16 ≡ true → Fits (least_of (operand l))
unfolding on_token stands
fits_text l e = (tt, and _ _ e refl)

-- an expression stands
pub can_have : (s : Sort) (l : ℕ) → stands s (have l) ≡ true → Can s (have l)
unfolding on_token stands outcome
can_have (operand n) l h = can_stop (operand n) (have l) refl
can_have inside l h = can_stop inside (have l) refl
can_have sizeof_operand l h = can_stop sizeof_operand (have l) refl
can_have initialiser l h = can_stop initialiser (have l) refl
can_have for_first l h = can_stop for_first (have l) refl
can_have (item b) l h = can_token (item b) (have l) (statement true) (sign mark.Semicolon) (cond_true (leb 0 l) (statement true) none (le-leb 0 l (omega arith))) refl (can_stop (item b) (statement true) refl)
can_have s l h = absurd (cc)

pub can_right : (s : Sort) (r : Right) → stands s (right r) ≡ true → Can s (right r)
unfolding on_token on_child opens stands outcome
can_right s r h =
    let p = both (value_at (level_of r) s) (leb (wanted_by r) 16) h in
    can_child s (right r) (have (level_of r)) (least_of (operand (wanted_by r))) (fits_text (wanted_by r) p.1) refl refl (right_whole s r h) (can_have s (level_of r) (right_whole s r h))

pub primary : (s : Sort) → value_at 16 s ≡ true → stands s (have 16) ≡ true
unfolding stands
primary s h = and _ _ h refl

pub can_primary : (s : Sort) (q : State) (k : TokenKind) → value_at 16 s ≡ true → on_token s q k ≡ have 16 → Can s q
can_primary s q k h e = can_token s q (have 16) k e (primary s h) (can_have s 16 (primary s h))

pub can_sized : (s : Sort) → is_sizeof s ≡ true → Can s sized
unfolding outcome
can_sized sizeof_operand h = can_stop sizeof_operand sized refl
can_sized s h = absurd (cc)

pub can_typed_close : (s : Sort) → takes_type s ≡ true → Can s typed_close
unfolding on_token stands is
can_typed_close sizeof_operand h = can_token sizeof_operand typed_close sized (sign mark.CloseParenthesis) refl refl (can_sized sizeof_operand refl)
can_typed_close s h = can_token s typed_close (right cast) (sign mark.CloseParenthesis) refl (and _ _ h refl) (can_right s cast (and _ _ h refl))

pub can_paren_close : (s : Sort) → value_at 16 s ≡ true → Can s paren_close
unfolding on_token is
can_paren_close s h = can_primary s paren_close (sign mark.CloseParenthesis) h refl

pub can_paren : (s : Sort) → value_at 16 s ≡ true → (c : Bool) → takes_type s ≡ c → Can s paren
unfolding on_token on_child opens stands outcome
can_paren s h true e = can_child s paren paren_close (least_of inside) (tt, refl) (ap (λ z. cond z inside (operand 1)) e) refl h (can_paren_close s h)
can_paren s h false e = can_child s paren paren_close (least_of (operand 1)) (fits_text 1 refl) (ap (λ z. cond z inside (operand 1)) e) refl h (can_paren_close s h)

pub can_value : (s : Sort) (q x : State) (l : ℕ) → leb l 16 ≡ true → opens s q ≡ operand l → on_child s q value ≡ x → stands s x ≡ true → Can s x → Can s q
unfolding on_token outcome
can_value s q x l e o n h c = can_child s q x (least_of (operand l)) (fits_text l e) o n h c

pub can_call_more : (s : Sort) → value_at 16 s ≡ true → Can s call_more
unfolding on_token is
can_call_more s h = can_primary s call_more (sign mark.CloseParenthesis) h refl

pub can_index_close : (s : Sort) → value_at 16 s ≡ true → Can s index_close
unfolding on_token is
can_index_close s h = can_primary s index_close (sign mark.CloseBracket) h refl

pub can_quest_close : (s : Sort) → value_at 3 s ≡ true → Can s quest_close
unfolding on_token stands is
can_quest_close s h = can_token s quest_close (right conditional) (sign mark.Colon) refl (and _ _ h refl) (can_right s conditional (and _ _ h refl))

-- statements
pub can_statement : (b : Items) (c : Bool) → Can (item b) (statement c)
unfolding outcome
can_statement b c = can_stop (item b) (statement c) refl

pub can_semicolon : (b : Items) → Can (item b) semicolon
unfolding on_token stands is
can_semicolon b = can_token (item b) semicolon (statement true) (sign mark.Semicolon) refl refl (can_statement b true)

pub can_body : (b : Items) (q : State) → opens (item b) q ≡ item lone → on_child (item b) q (stated true) ≡ statement true → Can (item b) q
unfolding on_token stands outcome is
can_body b q o e = can_child (item b) q (statement true) skip (tt, refl) o e refl (can_statement b true)

pub can_then : (b : Items) → Can (item b) then_part
unfolding on_token on_child opens stands outcome is
can_then b = can_child (item b) then_part (then_done true) skip (tt, refl) refl refl refl (can_stop (item b) (then_done true) refl)
