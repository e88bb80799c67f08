-- The trees of the grammar, and the tokens that they spell.
use Rattle.std.specs.Prelude.{◌≡◌, List, ◌∷◌, true}
use Rattle.l2_syntax.specs.declared.place.Place.{Place}
use Rattle.l2_syntax.specs.declared.token.TokenKind.{TokenKind}
use Rattle.l2_grammar.specs.States.{Sort, State, fresh}
use Rattle.l2_grammar.specs.Networks.{on_token}
use Rattle.l2_grammar.specs.Nesting.{opens, outcome, on_child, stands}

-- a token, and where it stands
pub record Seen : Type 0 where
  pub kind : TokenKind
  pub at : Place

-- a construct, as far as it has been read: its sort, and then its tokens and the constructs in it, in their order
pub data Tree : Type 0 where
  begin : Sort → Tree
  token : Tree → Seen → Tree
  child : Tree → Tree → Tree

-- the tokens of a construct, and then more
abbrev pub spell : Tree → List Seen → List Seen
spell (begin s) m = m
spell (token a t) m = spell a (t ∷ m)
spell (child a b) m = spell a (spell b m)

abbrev pub sort : Tree → Sort
sort (begin s) = s
sort (token a t) = sort a
sort (child a b) = sort a

-- how far it has been read
abbrev pub state : Tree → State
state (begin s) = fresh
state (token a t) = on_token (sort a) (state a) t.kind
state (child a b) = on_child (sort a) (state a) (outcome (state b))

-- each part of it may stand where it does
abbrev pub Fits : Tree → Type 0
Fits (begin s) = Unit {0}
Fits (token a t) = Fits a × (stands (sort a) (state (token a t)) ≡ true)
Fits (child a b) = Fits a × Fits b × (opens (sort a) (state a) ≡ sort b) × (stands (sort a) (state (child a b)) ≡ true)
