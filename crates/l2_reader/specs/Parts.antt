-- The trees of what the reader builds.
use Rattle.std.specs.Prelude.{◌≡◌, List, [], ◌∷◌, true}
use Rattle.l2_syntax.specs.declared.token.Token.{Token}
use Rattle.l2_grammar.specs.Trees.{Seen, Tree, begin, token, child, state, sort}
use Rattle.l2_grammar.specs.Nesting.{stands}
use Rattle.l2_grammar.specs.Limits.{size}
use Rattle.l2_reader.specs.declared.syntax.Syntax as syntax
use Rattle.l2_reader.specs.declared.syntax.Syntax.{Syntax, Row_of-Syntax, end_of-Syntax, more_of-Syntax}
use Rattle.l2_reader.specs.declared.syntax.Open.{Open}

abbrev pub seen : Token → Seen
seen t = record { kind = t.kind; at = t.place }

abbrev mutual
  pub with_part : Tree → Syntax → Tree
  with_part r (syntax.Token t) = token r (seen t)
  with_part r (syntax.Construct' s shape all) = child r (row_onto (begin s) all)

  pub row_onto : {m : _} → Tree → Row_of-Syntax m → Tree
  row_onto r end_of-Syntax = r
  row_onto r (more_of-Syntax x rest) = row_onto (with_part r x) rest

abbrev pub parts_onto : Tree → List Syntax → Tree
parts_onto r [] = r
parts_onto r (x ∷ xs) = parts_onto (with_part r x) xs

abbrev pub tree_of : Open → Tree
tree_of o = parts_onto (begin o.sort) o.parts.items

-- what is kept of the tree is so, and the construct may be in its state
pub record Sound (o : Open) : Type 0 where
  pub sorted : sort (tree_of o) ≡ o.sort
  pub stated : state (tree_of o) ≡ o.state
  pub sized : size (tree_of o) ≡ o.size
  pub standing : stands o.sort o.state ≡ true
