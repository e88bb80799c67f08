-- What is emitted one after another, and where it is too much.
use Rattle.std.specs.Prelude.{◌≡◌, ◌≢◌, ℕ, ◌+◌, ◌<◌, List, Result, Ok, Err}
use Rattle.l2_code.specs.declared.code.Item.{Item}
use Rattle.l2_code.specs.Trees.{Nodes, join, items_of}
use Rattle.l2_code.specs.Sizes.{instructions}
use Rattle.l2_lower.specs.declared.error.LowerError.{LowerError}
use Rattle.l2_lower.specs.declared.error.LowerError.TheVariants.{NoMemory}

-- how many instructions code may have
abbrev pub most_instructions : ℕ
most_instructions = 65536

-- the number of the temporary that comes next, and how many instructions were emitted in all
pub record Counts : Type 0 where
  pub next : ℕ
  pub count : ℕ

-- the items emitted so far, the number of the temporary that comes next, and how many instructions were emitted in all
pub record Output : Type 0 where
  pub nodes : Nodes
  pub next : ℕ
  pub count : ℕ

abbrev pub output : List Item → Counts → Output
output items at = record { nodes = items_of items; next = at.next; count = at.count }

-- these items more
abbrev pub with_nodes : Output → Nodes → ℕ → Output
with_nodes out xs next = record { nodes = join out.nodes xs; next = next; count = out.count + instructions xs }

-- a function emitted these items and gives what is so, unless they make too many instructions; want of memory says nothing
abbrev pub Emits : {A : Type 0} → Nodes → ℕ → (A → Type 0) → Output → Output → Result A LowerError → Type 0
Emits xs next IsSo old new (Ok a) = IsSo a × (new ≡ with_nodes old xs next)
Emits xs next IsSo old new (Err e) = e ≢ NoMemory → most_instructions < old.count + instructions xs

abbrev pub Anything : {A : Type 0} → A → Type 0
Anything a = Unit {0}
