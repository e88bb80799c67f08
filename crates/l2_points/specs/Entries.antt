-- Entries of objects and of temporaries: numbers of their nodes' sets.
use Rattle.std.specs.Prelude.{◌≡◌, ℕ, suc, ◌+◌, ◌*◌, ◌<◌, List, length, slice_index_or, ◌⊎◌}
use Rattle.l2_runs.specs.declared.member.Member.{Member}
use Rattle.l2_runs.specs.declared.member.Member.TheVariants.{Null, Invalid, Object}
use Rattle.l2_runs.specs.Numbers.{at_number}
use Rattle.l2_code.specs.declared.code.CodeObject.{CodeObject}
use Rattle.l2_code.specs.Sets.{HasCell}
use Rattle.l2_inclusions.specs.Rows.{RowsValue, number_at}

-- the node of the object, or temporary, of this number
abbrev pub node_at : ℕ → ℕ → ℕ
node_at rest n = 3 * n + rest

-- no object, or temporary, of so many has this number
abbrev pub IsBeyond : ℕ → ℕ → Type 0
IsBeyond count n = (n ≡ 0) ⊎ (count < n)

-- what has no entry has the empty set
abbrev pub NoneBeyond : RowsValue → ℕ → ℕ → Type 0
NoneBeyond r rest count = (n : ℕ) → IsBeyond count n → number_at r (node_at rest n) ≡ 0

-- the entries up to this one
abbrev pub AreThose : RowsValue → ℕ → List ℕ → Type 0
AreThose r rest entries = (i : ℕ) → i < length entries → slice_index_or entries i 0 ≡ number_at r (node_at rest (suc i))

-- an object that is named exists and has a cell
abbrev pub IsThere : List CodeObject → Member → Type 0
IsThere objects Null = Unit {0}
IsThere objects Invalid = Unit {0}
IsThere objects (Object o) = HasCell (at_number objects o)
