-- Where the innermost construct ends, a token does to those round it what it did to all.
use Rattle.std.proofs.Common.{◌≡◌, ◌+◌, List, [], ◌∷◌, Bool, true, false, cond, ◌||◌, ap, ◌∙◌, arith}
use Rattle.l2_syntax.specs.declared.token.Token.{Token}
use Rattle.l2_grammar.specs.Nesting.{stands}
use Rattle.l2_grammar.specs.Trees.{Seen, Tree, child, sort, state}
use Rattle.l2_grammar.specs.Reader.{Next, Stop, To, takes, begins, step}
use Rattle.l2_grammar.specs.Limits.{size}
use Rattle.l2_grammar.specs.Expressions.{close}
use Rattle.l2_grammar.proofs.Bools.{cond_false}
use Rattle.l2_reader.specs.declared.syntax.Open.{Open}
use Rattle.l2_reader.specs.declared.stack.Stack.{Stack}
use Rattle.l2_reader.specs.Parts.{seen, tree_of, Sound}
use Rattle.l2_reader.specs.Stacks.{trees_of, AllSound, spelt, ends}
use Rattle.l2_reader.proofs.Stepping.{takes_of, begins_of}

step_ends : (ks : List Tree) (r : Tree) (t : Seen) (q : Tree) (js : List Tree) → takes (sort r) (state r) t.kind ≡ false → begins (sort r) (state r) t.kind ≡ false → ends ks r ≡ To q js → step ks r t ≡ step js q t
step_ends [] r t q js e b h = absurd (cc)
step_ends (p ∷ ks) r t q js e b h = cond_false (takes (sort r) (state r) t.kind) _ _ e ∙ cond_false (begins (sort r) (state r) t.kind) _ _ b ∙ go (stands (sort p) (state (child p r))) h
  where
    from : Next → Next
    from Stop = Stop
    from (To x xs) = step xs x t

    go : (c : Bool) → cond c (To (child p r) ks) Stop ≡ To q js → cond c (step ks (child p r) t) Stop ≡ step js q t
    go true h = ap from h
    go false h = absurd (cc)

close_ends : (ks : List Tree) (r : Tree) (q : Tree) (js : List Tree) → ends ks r ≡ To q js → close ks r ≡ close js q
close_ends [] r q js h = absurd (cc)
close_ends (p ∷ ks) r q js h = go (stands (sort p) (state (child p r))) h
  where
    from : Next → Next
    from Stop = Stop
    from (To x xs) = close xs x

    go : (c : Bool) → cond c (To (child p r) ks) Stop ≡ To q js → cond c (close ks (child p r)) Stop ≡ close js q
    go true h = ap from h
    go false h = absurd (cc)

pub turned_on : (o next : Open) (ks rest : Stack) (t : Token) → Sound o × AllSound ks → takes o.sort o.state t.kind ≡ false → begins o.sort o.state t.kind ≡ false → ends (trees_of ks) (tree_of o) ≡ To (tree_of next) (trees_of rest) → step (trees_of ks) (tree_of o) (seen t) ≡ step (trees_of rest) (tree_of next) (seen t)
turned_on o next ks rest t s e b h = step_ends (trees_of ks) (tree_of o) (seen t) (tree_of next) (trees_of rest) (takes_of o t false s.0 e) (begins_of o t false s.0 b) h

pub closed_on : (o next : Open) (ks rest : Stack) → ends (trees_of ks) (tree_of o) ≡ To (tree_of next) (trees_of rest) → close (trees_of ks) (tree_of o) ≡ close (trees_of rest) (tree_of next)
closed_on o next ks rest h = close_ends (trees_of ks) (tree_of o) (tree_of next) (trees_of rest) h

spelt_ends : (ks : List Tree) (r : Tree) (q : Tree) (js : List Tree) → ends ks r ≡ To q js → spelt (q ∷ js) ≡ spelt (r ∷ ks)
spelt_ends [] r q js h = absurd (cc)
spelt_ends (p ∷ ks) r q js h = go (stands (sort p) (state (child p r))) h
  where
    go : (c : Bool) → cond c (To (child p r) ks) Stop ≡ To q js → spelt (q ∷ js) ≡ spelt (r ∷ p ∷ ks)
    go true h =
        let x : child p r ≡ q = cc in
        let y : ks ≡ js = cc in
        let a : size p + size r ≡ size q = ap (λ z. size z) x in
        let b : spelt ks ≡ spelt js = ap (λ z. spelt z) y in omega arith
    go false h = absurd (cc)

pub spelt_on : (o next : Open) (ks rest : Stack) → ends (trees_of ks) (tree_of o) ≡ To (tree_of next) (trees_of rest) → spelt (tree_of next ∷ trees_of rest) ≡ spelt (tree_of o ∷ trees_of ks)
spelt_on o next ks rest h = spelt_ends (trees_of ks) (tree_of o) (tree_of next) (trees_of rest) h

pub neither : (a b : Bool) → a ≡ false → b ≡ false → (a || b) ≡ false
neither true b e f = absurd (cc)
neither false b e f = f
