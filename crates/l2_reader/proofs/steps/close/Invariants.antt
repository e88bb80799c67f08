use Rattle.std.proofs.Common.{◌≡◌, ◌∷◌, length}
use Rattle.l2_grammar.specs.Expressions.{close}
use Rattle.l2_reader.specs.Parts.{tree_of, Sound}
use Rattle.l2_reader.specs.Stacks.{trees_of, AllSound, spelt}
use Rattle.l2_reader.proofs.steps.close.Given as goal

abbrev pub invariant-loop-run : goal.invariant-loop-run
invariant-loop-run l =
    (close (trees_of l.fn.stack) (tree_of l.fn.run) ≡ close (trees_of l.stack) (tree_of l.run))
    × (Sound l.run × AllSound l.stack)
    × (spelt (tree_of l.run ∷ trees_of l.stack) ≡ spelt (tree_of l.fn.run ∷ trees_of l.fn.stack))

abbrev pub decreases-loop-run : goal.decreases-loop-run
decreases-loop-run l = length (trees_of l.stack)
