-- Constructs that stand in one another: their trees, what is kept of them, and steps over them.
use Rattle.std.specs.Prelude.{◌≡◌, ◌+◌, ℕ, List, [], ◌∷◌, cond}
use Rattle.l2_grammar.specs.Nesting.{stands}
use Rattle.l2_grammar.specs.Trees.{Tree, child, sort, state}
use Rattle.l2_grammar.specs.Reader.{Next, Stop, To}
use Rattle.l2_grammar.specs.Limits.{size, statements, expression_size}
use Rattle.l2_reader.specs.declared.syntax.Open.{Open}
use Rattle.l2_reader.specs.declared.stack.Stack.{Stack}
use Rattle.l2_reader.specs.declared.stack.Stack as stack
use Rattle.l2_reader.specs.Parts.{tree_of, Sound}

abbrev pub trees_of : Stack → List Tree
trees_of stack.Bottom = []
trees_of (stack.Over' o counts a rest) = tree_of o ∷ trees_of rest

-- each is sound, and so are the counts from each outwards
abbrev pub AllSound : Stack → Type 0
AllSound stack.Bottom = Unit {0}
AllSound (stack.Over' o counts a rest) = Sound o × AllSound rest × (counts.statements ≡ statements (tree_of o ∷ trees_of rest)) × (counts.expression ≡ expression_size (tree_of o ∷ trees_of rest))

-- the tokens of all of them
abbrev pub spelt : List Tree → ℕ
spelt [] = 0
spelt (p ∷ ks) = size p + spelt ks

-- the innermost construct ends, and the one round it goes on behind it
abbrev pub ends : List Tree → Tree → Next
ends [] r = Stop
ends (p ∷ ks) r = cond (stands (sort p) (state (child p r))) (To (child p r) ks) Stop

-- what comes next is this, and it is sound
abbrev pub Leads : Next → Open → Stack → Type 0
Leads next run rest = (next ≡ To (tree_of run) (trees_of rest)) × Sound run × AllSound rest
