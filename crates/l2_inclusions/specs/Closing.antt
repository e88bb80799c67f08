-- What closes rows under inclusions.
use Rattle.std.specs.Prelude.{ℕ, List}
use Rattle.std.specs.List.{All}
use Rattle.l2_runs.specs.declared.member.Member.{Member}
use Rattle.l2_runs.specs.declared.member.Member.TheVariants.{Null, Invalid, Object}
use Rattle.l2_runs.specs.Members.{has, Within}
use Rattle.l2_inclusions.specs.declared.inclusion.Inclusion.{Inclusion}
use Rattle.l2_inclusions.specs.declared.closed.Pair.{Pair}
use Rattle.l2_inclusions.specs.Inclusions.{Family, object_node, IsClosed}
use Rattle.l2_inclusions.specs.Rows.{RowsValue, members_at, number_at, set_at, IsInside}

-- one set is within another, by their numbers
abbrev pub IsPart : RowsValue → ℕ → ℕ → Type 0
IsPart r a b = Within (has (members_at r.sets a)) (has (members_at r.sets b))

-- the first set of each pair is within the second
abbrev pub AreParts : RowsValue → List Pair → Type 0
AreParts r pairs = All (λ p. IsPart r p.from p.to) pairs

-- what an object has, this set has
abbrev pub LoadHolds : RowsValue → ℕ → Member → Type 0
LoadHolds r k Null = Unit {0}
LoadHolds r k Invalid = Unit {0}
LoadHolds r k (Object o) = IsPart r (number_at r (object_node o)) k

-- what this set has, an object has
abbrev pub StoreHolds : RowsValue → ℕ → Member → Type 0
StoreHolds r k Null = Unit {0}
StoreHolds r k Invalid = Unit {0}
StoreHolds r k (Object o) = IsPart r k (number_at r (object_node o))

-- every family that is closed has what stands in the rows
pub record AreForced (all : List Inclusion) (r : RowsValue) : Type 0 where
  pub inside : (f : Family) → IsClosed f all → IsInside (set_at r) f
