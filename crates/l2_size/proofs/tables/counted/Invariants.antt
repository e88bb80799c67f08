use Rattle.std.proofs.Common.{◌≡◌, ◌++◌, map, drop}
use Rattle.l2_size.specs.Tables.{set_count}
use Rattle.l2_size.proofs.tables.counted.Given as goal

abbrev pub invariant-loop-set : goal.invariant-loop-set
invariant-loop-set l = l.counts.items ++ map (set_count l.objects l.ty) (drop l.set-index l.sets) ≡ map (set_count l.objects l.ty) l.sets
