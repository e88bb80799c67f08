-- Steps of the reader over what the code keeps.
use Rattle.std.proofs.Common.{◌≡◌, ◌+◌, suc, List, [], ◌∷◌, Bool, true, false, refl, sym, ap, ◌∙◌, subst, arith}
use Rattle.l2_syntax.specs.declared.token.Token.{Token}
use Rattle.l2_grammar.specs.declared.states.Sort.{Sort}
use Rattle.l2_grammar.specs.declared.states.Sort.TheVariants.{Unit as unit}
use Rattle.l2_grammar.specs.declared.states.State.{State}
use Rattle.l2_grammar.specs.declared.states.State.TheVariants.{Fresh as fresh}
use Rattle.l2_grammar.specs.Networks.{on_token}
use Rattle.l2_grammar.specs.Nesting.{opens, stands}
use Rattle.l2_grammar.specs.Trees.{Seen, Tree, begin, token, sort, state}
use Rattle.l2_grammar.specs.Reader.{To, takes, begins, step}
use Rattle.l2_grammar.specs.Limits.{size}
use Rattle.l2_grammar.proofs.Bools.{cond_true, cond_false}
use Rattle.l2_reader.specs.declared.syntax.Open.{Open}
use Rattle.l2_reader.specs.declared.stack.Stack.{Stack}
use Rattle.l2_reader.specs.Parts.{seen, tree_of, Sound}
use Rattle.l2_reader.specs.Stacks.{trees_of, AllSound, Leads}

step_takes : (ks : List Tree) (r : Tree) (t : Seen) → takes (sort r) (state r) t.kind ≡ true → step ks r t ≡ To (token r t) ks
step_takes [] r t e = cond_true (takes (sort r) (state r) t.kind) _ _ e
step_takes (p ∷ ks) r t e = cond_true (takes (sort r) (state r) t.kind) _ _ e

step_begins : (ks : List Tree) (r : Tree) (t : Seen) → takes (sort r) (state r) t.kind ≡ false → begins (sort r) (state r) t.kind ≡ true → step ks r t ≡ To (token (begin (opens (sort r) (state r))) t) (r ∷ ks)
step_begins [] r t e b = cond_false (takes (sort r) (state r) t.kind) _ _ e ∙ cond_true (begins (sort r) (state r) t.kind) _ _ b
step_begins (p ∷ ks) r t e b = cond_false (takes (sort r) (state r) t.kind) _ _ e ∙ cond_true (begins (sort r) (state r) t.kind) _ _ b

-- the same by the sort and the state that the code keeps
pub takes_of : (o : Open) (t : Token) (b : Bool) → Sound o → takes o.sort o.state t.kind ≡ b → takes (sort (tree_of o)) (state (tree_of o)) t.kind ≡ b
takes_of o t b s h = ap (λ x. takes x (state (tree_of o)) t.kind) s.sorted ∙ ap (λ q. takes o.sort q t.kind) s.stated ∙ h

pub begins_of : (o : Open) (t : Token) (b : Bool) → Sound o → begins o.sort o.state t.kind ≡ b → begins (sort (tree_of o)) (state (tree_of o)) t.kind ≡ b
begins_of o t b s h = ap (λ x. begins x (state (tree_of o)) t.kind) s.sorted ∙ ap (λ q. begins o.sort q t.kind) s.stated ∙ h

token_state : (o : Open) (t : Token) → Sound o → state (token (tree_of o) (seen t)) ≡ on_token o.sort o.state t.kind
token_state o t s = ap (λ x. on_token x (state (tree_of o)) t.kind) s.sorted ∙ ap (λ q. on_token o.sort q t.kind) s.stated

pub takes_step : (run next : Open) (ks : Stack) (t : Token) (q : State) → Sound run × AllSound ks → takes run.sort run.state t.kind ≡ true → q ≡ on_token run.sort run.state t.kind → tree_of next ≡ token (tree_of run) (seen t) → next.state ≡ q → next.sort ≡ run.sort → next.size ≡ run.size + 1 → Leads (step (trees_of ks) (tree_of run) (seen t)) next ks
takes_step run next ks t q s h n tree st so si =
    let z : size (tree_of run) ≡ run.size = s.0.sized in
    let y : size (tree_of next) ≡ suc (size (tree_of run)) = ap (λ x. size x) tree in (
      step_takes (trees_of ks) (tree_of run) (seen t) (takes_of run t true s.0 h) ∙ ap (λ x. To x (trees_of ks)) (sym tree),
      record {
        sorted = ap (λ x. sort x) tree ∙ s.0.sorted ∙ sym so;
        stated = ap (λ x. state x) tree ∙ token_state run t s.0 ∙ sym n ∙ sym st;
        sized = omega arith;
        standing = subst (λ x. stands next.sort x ≡ true) (sym (st ∙ n)) (subst (λ x. stands x (on_token run.sort run.state t.kind) ≡ true) (sym so) h);
      },
      s.1,
    )

pub begins_step : (run inner : Open) (ks rest : Stack) (t : Token) (s : Sort) (q : State) → Sound run × AllSound ks → takes run.sort run.state t.kind ≡ false → begins run.sort run.state t.kind ≡ true → s ≡ opens run.sort run.state → q ≡ on_token s fresh t.kind → tree_of inner ≡ token (begin s) (seen t) → inner.state ≡ q → inner.sort ≡ s → inner.size ≡ 1 → trees_of rest ≡ tree_of run ∷ trees_of ks → AllSound rest → Leads (step (trees_of ks) (tree_of run) (seen t)) inner rest
begins_step run inner ks rest t s q sound fails goes o n tree st so si stack all =
    let b = begins_of run t true sound.0 goes in
    let here : opens (sort (tree_of run)) (state (tree_of run)) ≡ s = ap (λ x. opens x (state (tree_of run))) sound.0.sorted ∙ ap (λ x. opens run.sort x) sound.0.stated ∙ sym o in (
      step_begins (trees_of ks) (tree_of run) (seen t) (takes_of run t false sound.0 fails) b ∙ ap (λ x. To (token (begin x) (seen t)) (tree_of run ∷ trees_of ks)) here ∙ ap (λ x. To x (tree_of run ∷ trees_of ks)) (sym tree) ∙ ap (λ x. To (tree_of inner) x) (sym stack),
      record {
        sorted = ap (λ x. sort x) tree ∙ sym so;
        stated = ap (λ x. state x) tree ∙ sym n ∙ sym st;
        sized = ap (λ x. size x) tree ∙ sym si;
        standing = subst (λ x. stands inner.sort x ≡ true) (sym (st ∙ n)) (subst (λ x. stands x (on_token s fresh t.kind) ≡ true) (sym so) (subst (λ x. stands x (on_token x fresh t.kind) ≡ true) (sym o) goes));
      },
      all,
    )

unit_stands : stands unit fresh ≡ true
unfolding stands
unit_stands = refl

pub empty_sound : (o : Open) → tree_of o ≡ begin unit → o.state ≡ fresh → o.sort ≡ unit → o.size ≡ 0 → Sound o
empty_sound o tree st so si = record {
  sorted = ap (λ x. sort x) tree ∙ sym so;
  stated = ap (λ x. state x) tree ∙ sym st;
  sized = ap (λ x. size x) tree ∙ sym si;
  standing = subst (λ x. stands x o.state ≡ true) (sym so) (subst (λ x. stands unit x ≡ true) (sym st) unit_stands);
}
