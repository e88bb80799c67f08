-- Which nodes of a round's graph may have a member. Beside the nodes of the inclusions there are two for each set: through one
-- go all members that are loaded by the pointers of this set, through the other all that are stored.
use Rattle.std.specs.Prelude.{ℕ, suc, ◌+◌, ◌-◌, ◌==◌, nat_lt, Bool, true, false, not, ◌||◌, ◌&&◌, if◌then◌else◌, List, [], ◌∷◌, length}
use Rattle.l2_runs.specs.declared.member.Member.{Member}
use Rattle.l2_runs.specs.declared.member.Member.TheVariants.{Null, Invalid, Object}
use Rattle.l2_inclusions.specs.declared.inclusion.Inclusion.{Inclusion}
use Rattle.l2_inclusions.specs.declared.inclusion.Inclusion.TheVariants.{Has, Copies, Loads, Stores}
use Rattle.l2_inclusions.specs.declared.graph.Edge.{Edge}
use Rattle.l2_inclusions.specs.Inclusions.{Family, object_node, IsClosed}
use Rattle.l2_inclusions.specs.Rows.{RowsValue, members_at, number_at, set_at, IsInside}
use Rattle.l2_inclusions.specs.Edges.{Leads}

abbrev pub implies : Bool → Bool → Bool
implies a b = not a || b

-- each node into which a pointer of this set loads may have it
abbrev pub loads_may : RowsValue → Family → Member → ℕ → List Inclusion → Bool
loads_may r f m k [] = true
loads_may r f m k (Has n x ∷ rest) = loads_may r f m k rest
loads_may r f m k (Copies a b ∷ rest) = loads_may r f m k rest
loads_may r f m k (Loads p n ∷ rest) = implies (number_at r p == k) (f n m) && loads_may r f m k rest
loads_may r f m k (Stores p n ∷ rest) = loads_may r f m k rest

-- each of these objects may have it
abbrev pub objects_may : Family → Member → List Member → Bool
objects_may f m [] = true
objects_may f m (Null ∷ rest) = objects_may f m rest
objects_may f m (Invalid ∷ rest) = objects_may f m rest
objects_may f m (Object o ∷ rest) = f (object_node o) m && objects_may f m rest

-- the node through which the pointers of a set load, and that through which they store
abbrev pub load_node : RowsValue → ℕ → ℕ
load_node r k = length r.at + k

abbrev pub store_node : RowsValue → ℕ → ℕ
store_node r k = suc (length r.at + length r.sets + k)

-- each node that may have the member, by the sets of a family
abbrev pub may_have : List Inclusion → RowsValue → Family → Member → ℕ → Bool
may_have all r f m x =
    if nat_lt x (length r.at) then f x m
    else (if nat_lt x (suc (length r.at + length r.sets)) then loads_may r f m (x - length r.at) all
    else objects_may f m (members_at r.sets (x - suc (length r.at + length r.sets))))

-- along the edges go members that the nodes must have, by the inclusions
pub record AreDue (all : List Inclusion) (r : RowsValue) (edges : List Edge) : Type 0 where
  pub leads : (f : Family) → IsClosed f all → IsInside (set_at r) f → (m : Member) → Leads false (may_have all r f m) edges

-- further edges are due, whatever the inclusions are
abbrev pub AddsDue : RowsValue → List Edge → List Edge → Type 0
AddsDue r a b = (all : List Inclusion) → AreDue all r a → AreDue all r b
