use Rattle.std.proofs.Common.{◌≡◌, drop}
use Rattle.l2_types.specs.Founds.{place_of}
use Rattle.l2_types.proofs.table.place_of.Given as goal

abbrev pub invariant-loop-v : goal.invariant-loop-v
invariant-loop-v l = place_of (drop l.v-index l.variables) l.name ≡ place_of l.variables l.name
