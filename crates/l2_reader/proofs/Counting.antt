-- Counts of tokens, and of constructs that hold statements.
use Rattle.std.proofs.Common.{◌≡◌, ◌+◌, ◌≤◌, ℕ, zero, suc, List, [], ◌∷◌, Bool, true, false, cond, ◌⊎◌, inl, inr, leb, refl, sym, ap, ◌∙◌, subst, arith}
use Rattle.l2_grammar.specs.declared.states.Sort.{Sort}
use Rattle.l2_grammar.specs.declared.states.Sort.TheVariants.{Unit as unit, Item as item}
use Rattle.l2_grammar.specs.declared.states.Items.{Items}
use Rattle.l2_grammar.specs.declared.states.Items.TheVariants.{Lone as lone}
use Rattle.l2_grammar.specs.declared.states.State.{State}
use Rattle.l2_grammar.specs.declared.states.State.TheVariants.{None as none, Fresh as fresh, FunctionBlock as function_block}
use Rattle.l2_grammar.specs.declared.states.Outcome.{Outcome}
use Rattle.l2_grammar.specs.declared.states.Outcome.TheVariants.{Unfinished as unfinished, Declaration as declaration}
use Rattle.l2_grammar.specs.Networks.{on_token}
use Rattle.l2_grammar.specs.Nesting.{opens, stands, outcome, on_child, is_item}
use Rattle.l2_grammar.specs.Trees.{Seen, Tree, begin, token, child, sort, state}
use Rattle.l2_grammar.specs.Reader.{Next, Stop, To, takes, begins, step}
use Rattle.l2_grammar.specs.Limits.{size, holds_statements, is_statement, is_expression, expression_size}
use Rattle.l2_reader.specs.Stacks.{spelt}

-- a construct without tokens
nothing_in : (s : Sort) (q : State) → on_child s q unfinished ≡ none
unfolding on_child
nothing_in s fresh = refl
nothing_in s q = refl

none_of_it : (s : Sort) (o : Outcome) → on_child s none o ≡ none
unfolding on_child
none_of_it s o = refl

declared_first : (s : Sort) (o : Outcome) → (on_child s fresh o ≡ fresh) ⊎ (on_child s fresh o ≡ none)
unfolding on_child
declared_first s declaration = inl refl
declared_first s o = inr refl

abbrev Idle : State → Type 0
Idle q = (q ≡ fresh) ⊎ (q ≡ none)

idle_outcome : (q : State) → Idle q → outcome q ≡ unfinished
unfolding outcome
idle_outcome q (inl e) = ap (λ x. outcome x) e
idle_outcome q (inr e) = ap (λ x. outcome x) e

idle_child : (s : Sort) (q : State) (o : Outcome) → Idle q → Idle (on_child s q o)
idle_child s q o (inl e) = subst (λ x. Idle (on_child s x o)) (sym e) (declared_first s o)
idle_child s q o (inr e) = subst (λ x. Idle (on_child s x o)) (sym e) (inr (none_of_it s o))

pub idle : (r : Tree) → size r ≡ 0 → Idle (state r)
idle (begin s) e = inl refl
idle (token a t) e = absurd (cc)
idle (child a b) e = let z : size a ≡ 0 = omega arith in idle_child (sort a) (state a) (outcome (state b)) (idle a z)

none_stands : (s : Sort) → stands s none ≡ true → ⊥
unfolding stands
none_stands s e = cc

item_begun : (s : Sort) → is_item s ≡ true → stands s fresh ≡ true → ⊥
unfolding stands
item_begun unit i e = cc
item_begun s i e = cc

fresh_holds : (s : Sort) → stands s fresh ≡ true → holds_statements s fresh ≡ 0
unfolding stands
fresh_holds unit e = refl
fresh_holds s e = absurd (cc)

holds_one : (s : Sort) (q : State) → (holds_statements s q ≡ 0) ⊎ (holds_statements s q ≡ 1)
holds_one (item b) q = inr refl
holds_one s function_block = inr refl
holds_one s q = inl refl

pub holds_some : (r : Tree) → stands (sort r) (state r) ≡ true → holds_statements (sort r) (state r) ≤ size r
holds_some r h = go (size r) refl (holds_one (sort r) (state r))
  where
    go : (n : ℕ) → size r ≡ n → (holds_statements (sort r) (state r) ≡ 0) ⊎ (holds_statements (sort r) (state r) ≡ 1) → holds_statements (sort r) (state r) ≤ size r
    go n e (inl z) = omega arith
    go (suc n) e (inr z) = omega arith
    go zero e (inr z) = idly (idle r e)
      where
        idly : Idle (state r) → holds_statements (sort r) (state r) ≤ size r
        idly (inl f) = let k : holds_statements (sort r) (state r) ≡ 0 = ap (λ q. holds_statements (sort r) q) f ∙ fresh_holds (sort r) (subst (λ q. stands (sort r) q ≡ true) f h) in omega arith
        idly (inr f) = absurd (none_stands (sort r) (subst (λ q. stands (sort r) q ≡ true) f h))

-- a statement that has just begun, by its size
pub not_lone : (r : Tree) → (size r ≡ 1 → ⊥) → is_statement r ≡ false
not_lone (token (begin (item b)) t) f = absurd (f refl)
not_lone r f = refl

pub not_item : (r : Tree) → is_item (sort r) ≡ false → is_statement r ≡ false
not_item (token (begin (item b)) t) f = absurd (cc)
not_item r f = refl

behind_empty : (a b : Tree) → size b ≡ 0 → state (child a b) ≡ none
behind_empty a b e = ap (λ o. on_child (sort a) (state a) o) (idle_outcome (state b) (idle b e)) ∙ nothing_in (sort a) (state a)

token_none : (s : Sort) (t : Seen) → on_token s none t.kind ≡ none
unfolding on_token
token_none s t = refl

pub alone : (r : Tree) → stands (sort r) (state r) ≡ true → size r ≡ 1 → is_item (sort r) ≡ true → is_statement r ≡ stands (item lone) (state r)
alone (begin s) h e i = absurd (cc)
alone (token (begin (item b)) t) h e i = refl
alone (token (begin s) t) h e i = absurd (cc)
alone (token (token a u) t) h e i = absurd (cc)
alone (token (child a b) t) h e i =
    let z : size b ≡ 0 = omega arith in
    let n : state (token (child a b) t) ≡ none = ap (λ q. on_token (sort a) q t.kind) (behind_empty a b z) ∙ token_none (sort a) t in
    absurd (none_stands (sort a) (subst (λ q. stands (sort a) q ≡ true) n h))
alone (child a b) h e i = go (size b) refl
  where
    idly : Idle (state (child a b)) → is_statement (child a b) ≡ stands (item lone) (state (child a b))
    idly (inl f) = absurd (item_begun (sort a) i (subst (λ q. stands (sort a) q ≡ true) f h))
    idly (inr f) = absurd (none_stands (sort a) (subst (λ q. stands (sort a) q ≡ true) f h))

    go : (n : ℕ) → size b ≡ n → is_statement (child a b) ≡ stands (item lone) (state (child a b))
    go zero z = idly (inr (behind_empty a b z))
    go (suc n) z = let y : size a ≡ 0 = omega arith in idly (idle_child (sort a) (state a) (outcome (state b)) (idle a y))

-- the tokens of all of them bound the others
pub expression_spelt : (ks : List Tree) → expression_size ks ≤ spelt ks
expression_spelt [] = omega arith
expression_spelt (p ∷ ks) = go (leb 1 (expression_size ks)) (is_expression (state p)) (expression_spelt ks)
  where
    go : (b c : Bool) → expression_size ks ≤ spelt ks → cond b (size p + expression_size ks) (cond c (size p) 0) ≤ size p + spelt ks
    go true c l = omega arith
    go false true l = omega arith
    go false false l = omega arith

-- a step adds one token
abbrev pub Adds : ℕ → Next → Type 0
Adds n Stop = Unit {0}
Adds n (To r ks) = spelt (r ∷ ks) ≡ n + 1

pub step_adds : (ks : List Tree) (r : Tree) (t : Seen) → Adds (spelt (r ∷ ks)) (step ks r t)
step_adds [] r t = go (takes (sort r) (state r) t.kind) (begins (sort r) (state r) t.kind) (opens (sort r) (state r))
  where
    go : (a b : Bool) (s : Sort) → Adds (spelt (r ∷ [])) (cond a (To (token r t) []) (cond b (To (token (begin s) t) (r ∷ [])) Stop))
    go true b s = omega arith
    go false true s = omega arith
    go false false s = tt
step_adds (p ∷ ks) r t = go (takes (sort r) (state r) t.kind) (begins (sort r) (state r) t.kind) (stands (sort p) (state (child p r))) (opens (sort r) (state r)) (step_adds ks (child p r) t)
  where
    go : (a b c : Bool) (s : Sort) → Adds (spelt (child p r ∷ ks)) (step ks (child p r) t) → Adds (spelt (r ∷ p ∷ ks)) (cond a (To (token r t) (p ∷ ks)) (cond b (To (token (begin s) t) (r ∷ p ∷ ks)) (cond c (step ks (child p r) t) Stop)))
    go true b c s k = omega arith
    go false true c s k = omega arith
    go false false true s k = let e : spelt (child p r ∷ ks) ≡ spelt (r ∷ p ∷ ks) = omega arith in subst (λ n. Adds n (step ks (child p r) t)) e k
    go false false false s k = tt

pub step_more : (ks : List Tree) (r : Tree) (t : Seen) (r' : Tree) (ks' : List Tree) → step ks r t ≡ To r' ks' → spelt (r' ∷ ks') ≡ spelt (r ∷ ks) + 1
step_more ks r t r' ks' e = subst (λ x. Adds (spelt (r ∷ ks)) x) e (step_adds ks r t)

pub holds_nothing : (s : Sort) (q : State) → ((b : Items) → s ≡ item b → ⊥) → (q ≡ function_block → ⊥) → 0 ≡ holds_statements s q
holds_nothing (item b) q f g = absurd (f b refl)
holds_nothing s function_block f g = absurd (g refl)
holds_nothing s q f g = refl
