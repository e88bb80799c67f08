-- Inclusions between sets of members. Sets are those of nodes, which are numbers.
use Rattle.std.specs.Prelude.{◌≡◌, ℕ, ◌*◌, Bool, true, List}
use Rattle.std.specs.List.{All}
use Rattle.l2_runs.specs.declared.member.Member.{Member}
use Rattle.l2_runs.specs.declared.member.Member.TheVariants.{Object}
use Rattle.l2_runs.specs.Members.{Within}
use Rattle.l2_inclusions.specs.declared.inclusion.Inclusion.{Inclusion}
use Rattle.l2_inclusions.specs.declared.inclusion.Inclusion.TheVariants.{Has, Copies, Loads, Stores}

-- a set of members for each node
abbrev pub Family : Type 0
Family = ℕ → Member → Bool

-- the node of an object; the numbers between these are for other nodes
abbrev pub object_node : ℕ → ℕ
object_node o = 3 * o

-- a family keeps an inclusion
abbrev pub Keeps : Family → Inclusion → Type 0
Keeps f (Has n m) = f n m ≡ true
Keeps f (Copies a b) = Within (f a) (f b)
Keeps f (Loads p n) = (o : ℕ) → f p (Object o) ≡ true → Within (f (object_node o)) (f n)
Keeps f (Stores p n) = (o : ℕ) → f p (Object o) ≡ true → Within (f n) (f (object_node o))

-- a family is closed under inclusions
abbrev pub IsClosed : Family → List Inclusion → Type 0
IsClosed f all = All (Keeps f) all
