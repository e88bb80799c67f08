-- The tokens of an expression are those of all constructs that are open in it, and no statement is among them.
use Rattle.std.proofs.Common.{◌≡◌, ◌+◌, ◌≤◌, ℕ, suc, List, [], ◌∷◌, Bool, true, false, cond, ◌&&◌, ◌||◌, leb, refl, sym, ap, ◌∙◌, subst, length, arith}
use Rattle.std.proofs.lemmas.Bool.{le-leb}
use Rattle.l2_grammar.specs.States.{Level, comma_level, assignment_level, conditional_level, Naming, named, Sort, unit, external, item, operand, inside, State, fresh, have, right, sizing, sized, paren, paren_close, typed_close, index, index_close, call, call_more, call_next, member_name, quest, quest_close, word, block, then_part, else_part, body, do_body, function_block, group}
use Rattle.l2_grammar.specs.Nesting.{opens, stands, is_unit, is_item, is_external, takes_type, own_naming, grouped}
use Rattle.l2_grammar.specs.Trees.{Seen, Tree, begin, token, child, spell, sort, state, Fits}
use Rattle.l2_grammar.specs.Reader.{To}
use Rattle.l2_grammar.specs.Limits.{is_statement, is_expression, size, statements, expression_size, most, longest, exceeds}
use Rattle.l2_grammar.specs.Expressions.{sort_at}
use Rattle.l2_grammar.proofs.Bools.{cond_true, no}
use Rattle.l2_grammar.proofs.Fed.{led}
use Rattle.l2_grammar.proofs.Kept.{before, StandsIn, Good}

-- in an expression stands no statement, no declaration by itself, and no unit
abbrev inner : Sort → Bool
inner unit = false
inner external = false
inner (item b) = false
inner s = true

not_unit : (s : Sort) → inner s ≡ true → is_unit s ≡ true → ⊥
not_unit unit i e = cc
not_unit s i e = cc

not_external : (s : Sort) → inner s ≡ true → is_external s ≡ true → ⊥
not_external external i e = cc
not_external s i e = cc

not_item : (s : Sort) → inner s ≡ true → is_item s ≡ true → ⊥
not_item (item b) i e = cc
not_item s i e = cc

paren_inner : (b : Bool) → inner (cond b inside (operand 1)) ≡ true
paren_inner true = refl
paren_inner false = refl

group_inner : (n : Naming) → inner (grouped n) ≡ true
group_inner named = refl
group_inner n = refl

inner_opens : (s : Sort) (q : State) → inner s ≡ true → stands s q ≡ true → inner (opens s q) ≡ true
unfolding stands opens
inner_opens s fresh i h = absurd (not_unit s i h)
inner_opens s paren i h = paren_inner (takes_type s)
inner_opens s (group b) i h = group_inner (own_naming s)
inner_opens s block i h = absurd (not_item s i h)
inner_opens s then_part i h = absurd (not_item s i h)
inner_opens s else_part i h = absurd (not_item s i h)
inner_opens s body i h = absurd (not_item s i h)
inner_opens s do_body i h = absurd (not_item s i h)
inner_opens s function_block i h = absurd (not_external s i h)
inner_opens s q i h = refl

inner_in : (s : Sort) (ks : List Tree) (r : Tree) → inner s ≡ true → StandsIn s ks r → inner (sort r) ≡ true
inner_in s [] r i g = ap inner g ∙ i
inner_in s (p ∷ ks) r i g = ap inner (sym g.0) ∙ inner_opens (sort p) (state p) (inner_in s ks p i g.3) g.2

level_inner : (l : Level) → inner (sort_at l) ≡ true
level_inner comma_level = refl
level_inner assignment_level = refl
level_inner conditional_level = refl

no_statement : (r : Tree) → inner (sort r) ≡ true → is_statement r ≡ false
no_statement (token (begin (item b)) t) i = absurd (cc)
no_statement r i = refl

operand_expression : (n : ℕ) (q : State) → stands (operand n) q ≡ true → is_expression q ≡ true
unfolding stands
operand_expression n (have l) h = refl
operand_expression n (right r) h = refl
operand_expression n sizing h = refl
operand_expression n sized h = refl
operand_expression n paren h = refl
operand_expression n paren_close h = refl
operand_expression n typed_close h = refl
operand_expression n index h = refl
operand_expression n index_close h = refl
operand_expression n call h = refl
operand_expression n call_more h = refl
operand_expression n call_next h = refl
operand_expression n member_name h = refl
operand_expression n quest h = refl
operand_expression n quest_close h = refl
operand_expression n word h = refl
operand_expression n q h = absurd (cc)

level_expression : (l : Level) (q : State) → stands (sort_at l) q ≡ true → is_expression q ≡ true
level_expression comma_level q h = operand_expression 1 q h
level_expression assignment_level q h = operand_expression 2 q h
level_expression conditional_level q h = operand_expression 3 q h

-- counts of tokens
pub spell_size : (r : Tree) (m : List Seen) → length (spell r m) ≡ size r + length m
spell_size (begin s) m = omega arith
spell_size (token a t) m = let e = spell_size a (t ∷ m) in omega arith
spell_size (child a b) m = let e = spell_size a (spell b m) in let f = spell_size b m in omega arith

abbrev total : List Tree → ℕ
total [] = 0
total (p ∷ ks) = size p + total ks

before_size : (ks : List Tree) (m : List Seen) → length (before ks m) ≡ total ks + length m
before_size [] m = omega arith
before_size (p ∷ ks) m = let e = before_size ks (spell p m) in let f = spell_size p m in omega arith

fresh_stands : (s : Sort) → stands s fresh ≡ true → is_unit s ≡ true
unfolding stands
fresh_stands s h = h

some : (r : Tree) → Fits r → is_unit (sort r) ≡ false → stands (sort r) (state r) ≡ true → 1 ≤ size r
some (begin s) f u h = absurd (no (fresh_stands s h) u)
some (token a t) f u h = omega arith
some (child a b) f u h =
    let e = led (child a b) f tt u [] in
    let g : length (spell (child a b) []) ≡ length (e.first ∷ e.rest) = ap (λ x. length x) e.leads in
    let k = spell_size (child a b) [] in
    omega arith

abbrev Counted : List Tree → Tree → Type 0
Counted ks r = (expression_size (r ∷ ks) ≡ size r + total ks) × (1 ≤ size r + total ks)

counted : (l : Level) → is_unit (sort_at l) ≡ false → (ks : List Tree) (r : Tree) → Good (sort_at l) ks r → Counted ks r
counted l u [] r g =
    let e : expression_size (r ∷ []) ≡ size r = cond_true (is_expression (state r)) _ _ (level_expression l (state r) (subst (λ s. stands s (state r) ≡ true) g.2 g.1)) in
    let s = some r g.0 (subst (λ s. is_unit s ≡ false) (sym g.2) u) g.1 in
    (omega arith, omega arith)
counted l u (p ∷ ks) r g =
    let i = counted l u ks p (g.2.1, g.2.2, g.2.3) in
    let e : expression_size (r ∷ p ∷ ks) ≡ size r + expression_size (p ∷ ks) = cond_true (leb 1 (expression_size (p ∷ ks))) _ _ (subst (λ n. leb 1 n ≡ true) (sym i.0) (le-leb 1 (size p + total ks) i.1)) in
    let f = i.0 in
    let h = i.1 in
    (omega arith, omega arith)

-- a limit that stops an expression is that of its tokens
pub exceeds_length : (l : Level) → is_unit (sort_at l) ≡ false → (used : List Seen) (r : Tree) (ks : List Tree) → Good (sort_at l) ks r → used ≡ before ks (spell r []) → exceeds (To r ks) ≡ leb (suc longest) (length used)
exceeds_length l u used r ks g e =
    let c = (counted l u ks r g).0 in
    let a : length used ≡ length (before ks (spell r [])) = ap (λ x. length x) e in
    let b = before_size ks (spell r []) in
    let d = spell_size r [] in
    let n : expression_size (r ∷ ks) ≡ length used = omega arith in
    ap (λ x. (x && leb most (statements ks)) || leb (suc longest) (expression_size (r ∷ ks))) (no_statement r (inner_in (sort_at l) ks r (level_inner l) g.2))
    ∙ ap (λ x. leb (suc longest) x) n
