use Rattle.std.proofs.Common.{◌≡◌, ◌∷◌, length}
use Rattle.l2_grammar.specs.Reader.{step}
use Rattle.l2_grammar.specs.Expressions.{close}
use Rattle.l2_reader.specs.Parts.{seen, tree_of, Sound}
use Rattle.l2_reader.specs.Stacks.{trees_of, AllSound, spelt}
use Rattle.l2_reader.proofs.steps.turn.Given as goal

abbrev pub invariant-loop-alloc : goal.invariant-loop-alloc
invariant-loop-alloc l =
    (step (trees_of l.fn.stack) (tree_of l.fn.run) (seen l.token) ≡ step (trees_of l.stack) (tree_of l.run) (seen l.token))
    × (close (trees_of l.fn.stack) (tree_of l.fn.run) ≡ close (trees_of l.stack) (tree_of l.run))
    × (Sound l.run × AllSound l.stack)
    × (spelt (tree_of l.run ∷ trees_of l.stack) ≡ spelt (tree_of l.fn.run ∷ trees_of l.fn.stack))

abbrev pub decreases-loop-alloc : goal.decreases-loop-alloc
decreases-loop-alloc l = length (trees_of l.stack)
