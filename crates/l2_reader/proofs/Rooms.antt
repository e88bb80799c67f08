-- What is kept of constructs is at most the count of their tokens.
use Rattle.std.proofs.Common.{◌≡◌, ◌≤◌, true, ap, ◌∙◌, subst, arith}
use Rattle.l2_grammar.specs.Nesting.{stands}
use Rattle.l2_grammar.specs.Trees.{sort, state}
use Rattle.l2_grammar.specs.Limits.{size, holds_statements, statements, expression_size}
use Rattle.l2_reader.specs.declared.syntax.Open.{Open}
use Rattle.l2_reader.specs.declared.stack.Stack.{Stack}
use Rattle.l2_reader.specs.declared.stack.Stack as stack
use Rattle.l2_reader.specs.Parts.{tree_of, Sound}
use Rattle.l2_reader.specs.Stacks.{trees_of, AllSound, spelt}
use Rattle.l2_reader.proofs.Counting.{holds_some, expression_spelt}

pub tree_stands : (o : Open) → Sound o → stands (sort (tree_of o)) (state (tree_of o)) ≡ true
tree_stands o s = ap (λ x. stands x (state (tree_of o))) s.sorted ∙ ap (λ q. stands o.sort q) s.stated ∙ s.standing

pub holds_is : (o : Open) → Sound o → holds_statements (sort (tree_of o)) (state (tree_of o)) ≡ holds_statements o.sort o.state
holds_is o s = ap (λ x. holds_statements x (state (tree_of o))) s.sorted ∙ ap (λ q. holds_statements o.sort q) s.stated

pub holds_room : (o : Open) → Sound o → holds_statements o.sort o.state ≤ size (tree_of o)
holds_room o s = subst (λ n. n ≤ size (tree_of o)) (holds_is o s) (holds_some (tree_of o) (tree_stands o s))

pub statements_room : (ks : Stack) → AllSound ks → statements (trees_of ks) ≤ spelt (trees_of ks)
statements_room stack.Bottom s = omega arith
statements_room (stack.Over' o counts a rest) s =
    let h : holds_statements (sort (tree_of o)) (state (tree_of o)) ≤ size (tree_of o) = holds_some (tree_of o) (tree_stands o s.0) in
    let r = statements_room rest s.1 in
    omega arith

pub expression_room : (ks : Stack) → expression_size (trees_of ks) ≤ spelt (trees_of ks)
expression_room ks = expression_spelt (trees_of ks)
