-- Edges of a graph, along which members go from node to node.
use Rattle.std.specs.Prelude.{◌≡◌, ℕ, Bool, true, false, List, slice_index_or, ◌⊎◌}
use Rattle.std.specs.List.{All}
use Rattle.l2_runs.specs.declared.member.Member.{Member}
use Rattle.l2_inclusions.specs.declared.graph.Edge.{Edge}
use Rattle.l2_inclusions.specs.Rows.{RowsValue, number_at, set_at}

-- what holds of an edge's first end holds of its second one; backwards, the other way round
abbrev pub LeadsAlong : Bool → (ℕ → Bool) → Edge → Type 0
LeadsAlong false w e = w e.from ≡ true → w e.to ≡ true
LeadsAlong true w e = w e.to ≡ true → w e.from ≡ true

-- what holds of a node holds of each to which an edge leads from it
abbrev pub Leads : Bool → (ℕ → Bool) → List Edge → Type 0
Leads backward w edges = All (LeadsAlong backward w) edges

-- the nodes that have this member all pass the test
abbrev pub Fits : RowsValue → Member → (ℕ → Bool) → Type 0
Fits r m w = (n : ℕ) → set_at r n m ≡ true → w n ≡ true

-- members went along edges alone
pub record GoesAlong (edges : List Edge) (a : RowsValue) (b : RowsValue) : Type 0 where
  pub fits : (m : Member) (w : ℕ → Bool) → Leads false w edges → Fits a m w → Fits b m w

abbrev pub AllPass : (ℕ → Bool) → List ℕ → Type 0
AllPass w nodes = All (λ x. w x ≡ true) nodes

-- each number of a list passes, and so does 0, past its end
abbrev pub EachPasses : (ℕ → Bool) → List ℕ → Type 0
EachPasses q numbers = (i : ℕ) → q (slice_index_or numbers i 0) ≡ true

-- where a node passes, the number of its set does
abbrev pub Transfers : RowsValue → (ℕ → Bool) → (ℕ → Bool) → Type 0
Transfers r w q = (x : ℕ) → w x ≡ true → q (number_at r x) ≡ true

-- a node leads to the set to which it led, or passes and leads to this one
abbrev pub IsLed : (ℕ → Bool) → RowsValue → RowsValue → ℕ → ℕ → Type 0
IsLed q a b k n = (number_at b n ≡ number_at a n) ⊎ ((number_at b n ≡ k) × (q n ≡ true))
