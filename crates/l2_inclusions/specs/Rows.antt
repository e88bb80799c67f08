-- The sets of nodes as they are kept: equal ones are shared.
use Rattle.std.specs.Prelude.{◌≡◌, ℕ, ◌≤◌, ◌<◌, Bool, true, List, length, slice_index_or}
use Rattle.l2_runs.specs.declared.member.Member.{Member}
use Rattle.l2_runs.specs.Numbers.{at_number}
use Rattle.l2_runs.specs.Members.{has, Within}
use Rattle.l2_code.specs.declared.sets.PointsTo.{PointsTo}
use Rattle.l2_code.specs.Sets.{members_of, AllRise}
use Rattle.l2_inclusions.specs.Inclusions.{Family}

-- sets, and by node the number of its set, from 1 on, or 0 for the empty set
pub record RowsValue : Type 0 where
  pub sets : List PointsTo
  pub at : List ℕ

-- the members of the set of this number
abbrev pub members_at : List PointsTo → ℕ → List Member
members_at sets k = members_of (at_number sets k)

abbrev pub number_at : RowsValue → ℕ → ℕ
number_at r n = slice_index_or r.at n 0

-- the set of each node
abbrev pub set_at : RowsValue → Family
set_at r n = has (members_at r.sets (number_at r n))

-- each node leads to a set, and the members of each set are in order, each once; numbers of sets have 32 bits
pub record AreRows (r : RowsValue) : Type 0 where
  pub count : length r.sets < 4294967296
  pub numbers : (n : ℕ) → number_at r n ≤ length r.sets
  pub rise : AllRise r.sets

-- further sets came, and no node was led elsewhere
pub record Grows (a : RowsValue) (b : RowsValue) : Type 0 where
  pub at : b.at ≡ a.at
  pub more : length a.sets ≤ length b.sets
  pub kept : (k : ℕ) → k ≤ length a.sets → members_at b.sets k ≡ members_at a.sets k

-- where the list has this member, b is true
pub record Brings (xs : List Member) (m : Member) (b : Bool) : Type 0 where
  pub to : has xs m ≡ true → b ≡ true

-- each is the number of a set; past the end stands the empty set
abbrev pub AreNumbers : RowsValue → List ℕ → Type 0
AreNumbers r list = (i : ℕ) → slice_index_or list i 0 ≤ length r.sets

-- where one of these sets has this member, b is true
abbrev pub AllBring : RowsValue → List ℕ → Member → Bool → Type 0
AllBring r list m b = (i : ℕ) → Brings (members_at r.sets (slice_index_or list i 0)) m b

-- each set of one family is within that of the other
abbrev pub IsInside : Family → Family → Type 0
IsInside f g = (n : ℕ) → Within (f n) (g n)
