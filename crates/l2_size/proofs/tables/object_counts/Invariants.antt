use Rattle.std.proofs.Common.{◌≡◌, ◌++◌, map, drop}
use Rattle.l2_size.specs.Tables.{object_count}
use Rattle.l2_size.proofs.tables.object_counts.Given as goal

abbrev pub invariant-loop-object : goal.invariant-loop-object
invariant-loop-object l = l.counts.items ++ map (object_count l.ty) (drop l.object-index l.objects) ≡ map (object_count l.ty) l.objects
