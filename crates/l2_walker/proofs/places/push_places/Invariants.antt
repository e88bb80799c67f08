use Rattle.std.proofs.Common.{◌≡◌, ◌++◌, drop}
use Rattle.l2_ssa.specs.Walks.{places_in}
use Rattle.l2_walker.proofs.places.push_places.Given as goal

abbrev pub invariant-loop-t : goal.invariant-loop-t
invariant-loop-t l = l.list.items ++ places_in l.ty l.object l.offset (drop l.t-index l.types) ≡ l.initial.list.items ++ places_in l.ty l.object 0 l.types
