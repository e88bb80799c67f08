-- What reading is: which tokens spell a unit, and where reading stops.
use Rattle.std.specs.Prelude.{◌≡◌, ◌↔◌, List, [], ◌∷◌, ◌++◌}
use Rattle.l2_grammar.specs.States.{unit, unit_end}
use Rattle.l2_grammar.specs.Trees.{Seen, Tree, begin, spell, sort, state, Fits}
use Rattle.l2_grammar.specs.Reader.{feed, Reads, Stops}

-- the tree of a whole text
pub record IsUnit (u : Tree) : Type 0 where
  pub fits : Fits u
  pub sorted : sort u ≡ unit
  pub ended : state u ≡ unit_end

-- these tokens are the spelling of this unit
pub record Spells (ts : List Seen) (u : Tree) : Type 0 where
  pub whole : IsUnit u
  pub spelled : spell u [] ≡ ts

-- some unit begins with these tokens
pub record Begins (ts : List Seen) : Type 0 where
  pub unit : Tree
  pub rest : List Seen
  pub spells : Spells (ts ++ rest) unit

-- no unit goes on so
abbrev pub NoFurther : List Seen → List Seen → Type 0
NoFurther used [] = (u : Tree) → Spells used u → ⊥
NoFurther used (t ∷ rest) = Begins (used ++ (t ∷ [])) → ⊥

-- reading these tokens stops where this rest begins: some unit begins with those before, and none with one more
pub record StopsBefore (ts rest : List Seen) : Type 0 where
  pub used : List Seen
  pub parts : ts ≡ used ++ rest
  pub begins : Begins used
  pub further : NoFurther used rest

abbrev pub ReadLaw : Type 0
ReadLaw = (ts : List Seen) (u : Tree) → Spells ts u ↔ (feed ts (begin unit) [] ≡ Reads u)

abbrev pub StopLaw : Type 0
StopLaw = (ts rest : List Seen) → feed ts (begin unit) [] ≡ Stops rest → StopsBefore ts rest

abbrev pub UniqueLaw : Type 0
UniqueLaw = (ts : List Seen) (u v : Tree) → Spells ts u → Spells ts v → u ≡ v
