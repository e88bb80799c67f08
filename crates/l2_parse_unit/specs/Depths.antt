-- Which tokens are too deep: said of the tokens, and of the trees of the units that begin with them.
use Rattle.std.specs.Prelude.{◌≡◌, ◌≤◌, ◌<◌, ◌++◌, ◌⊎◌, List, [], ◌∷◌, true}
use Rattle.l2_grammar.specs.Trees.{Seen, Tree, begin, token, child, spell}
use Rattle.l2_grammar.specs.Law.{Spells, Begins}
use Rattle.l2_grammar.specs.Limits.{most, longest, is_statement, statements, expression_size}
use Rattle.l2_grammar.specs.Expressions.{DeepBracket}

-- what is open behind some token of a tree, where the tree stands in these constructs: the construct of the token, and those round
-- it from the innermost outwards, each as far as it has come there
abbrev pub OpenIn : (outer : List Tree) → Tree → Tree → List Tree → Type 0
OpenIn outer (begin s) r ks = ⊥
OpenIn outer (token a t) r ks = ((r ≡ token a t) × (ks ≡ outer)) ⊎ OpenIn outer a r ks
OpenIn outer (child a b) r ks = OpenIn outer a r ks ⊎ OpenIn (a ∷ outer) b r ks

-- the tokens of constructs that stand in one another, and then more
abbrev pub tokens_of : List Tree → List Seen → List Seen
tokens_of [] m = m
tokens_of (p ∷ ks) m = tokens_of ks (spell p m)

-- these constructs are open behind these tokens, in a unit that begins with them
pub record OpenBehind (ts : List Seen) (r : Tree) (ks : List Tree) : Type 0 where
  pub unit : Tree
  pub rest : List Seen
  pub spells : Spells (ts ++ rest) unit
  pub stands : OpenIn [] unit r ks
  pub read : tokens_of (r ∷ ks) [] ≡ ts

-- the token behind these opens a bracket where 128 are open, starts a statement in 128 others, or is the 1,025th of a full expression
pub data TooDeep (used : List Seen) (t : Seen) : Type 0 where
  bracket : DeepBracket 0 used t → TooDeep used t
  statement : (r : Tree) (ks : List Tree) → OpenBehind (used ++ (t ∷ [])) r ks → is_statement r ≡ true → most ≤ statements ks → TooDeep used t
  expression : (r : Tree) (ks : List Tree) → OpenBehind (used ++ (t ∷ [])) r ks → longest < expression_size (r ∷ ks) → TooDeep used t

-- none of the tokens before this rest is too deep
abbrev pub Shallow : List Seen → List Seen → Type 0
Shallow ts rest = (used : List Seen) (t : Seen) (more : List Seen) → ts ≡ used ++ (t ∷ (more ++ rest)) → TooDeep used t → ⊥

-- the first token of this rest isn't, either
abbrev pub ShallowAt : List Seen → List Seen → Type 0
ShallowAt ts rest = (used : List Seen) (t : Seen) (more : List Seen) → ts ≡ used ++ (t ∷ more) → rest ≡ t ∷ more → TooDeep used t → ⊥

abbrev pub DeepAt : List Seen → List Seen → Type 0
DeepAt used [] = ⊥
DeepAt used (t ∷ more) = TooDeep used t

-- some unit begins with the tokens before this rest, and its first token is the first that is too deep
pub record NestsBefore (ts rest : List Seen) : Type 0 where
  pub used : List Seen
  pub parts : ts ≡ used ++ rest
  pub begins : Begins used
  pub deep : DeepAt used rest
  pub shallow : Shallow ts rest
