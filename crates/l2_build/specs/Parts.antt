-- The parts of a construct, as definitions speak of them.
use Rattle.std.specs.Prelude.{ℕ, ◌+◌, List, [], ◌∷◌}
use Rattle.l2_reader.specs.declared.syntax.Syntax as syntax
use Rattle.l2_reader.specs.declared.syntax.Syntax.{Syntax, Row_of-Syntax, end_of-Syntax, more_of-Syntax}
use Rattle.l2_tree.specs.Build.{Part, leaf, node, built}
use Rattle.l2_build.specs.declared.next.Next.{Next}
use Rattle.l2_build.specs.declared.next.Next.TheVariants as next

abbrev mutual
  pub part : Syntax → Part
  part (syntax.Token t) = leaf t.kind t.place
  part (syntax.Construct' s shape all) = node (built (row_parts all))

  pub row_parts : {m : _} → Row_of-Syntax m → List Part
  row_parts end_of-Syntax = []
  row_parts (more_of-Syntax x rest) = part x ∷ row_parts rest

abbrev pub parts_of : List Syntax → List Part
parts_of [] = []
parts_of (x ∷ xs) = part x ∷ parts_of xs

-- what stands next, and the parts behind it
abbrev pub listed : Next → List Part
listed next.End = []
listed (next.Leaf t rest) = leaf t.kind t.place ∷ parts_of rest.now
listed (next.Node inner rest) = node (built (parts_of inner.now)) ∷ parts_of rest.now

-- how many tokens and constructs there are
abbrev mutual
  pub size : Syntax → ℕ
  size (syntax.Token t) = 1
  size (syntax.Construct' s shape all) = 1 + row_size all

  pub row_size : {m : _} → Row_of-Syntax m → ℕ
  row_size end_of-Syntax = 0
  row_size (more_of-Syntax x rest) = size x + row_size rest

abbrev pub size_of : List Syntax → ℕ
size_of [] = 0
size_of (x ∷ xs) = size x + size_of xs

abbrev pub next_size : Next → ℕ
next_size next.End = 0
next_size (next.Leaf t rest) = 1 + size_of rest.now
next_size (next.Node inner rest) = 1 + size_of inner.now + size_of rest.now
