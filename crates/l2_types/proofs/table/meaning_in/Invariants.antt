use Rattle.std.proofs.Common.{◌≡◌, None, drop}
use Rattle.l2_types.specs.Founds.{meaning_from}
use Rattle.l2_types.proofs.table.meaning_in.Given as goal

abbrev pub invariant-loop-e : goal.invariant-loop-e
invariant-loop-e l = meaning_from l.found l.level (drop l.e-index l.scope) l.name ≡ meaning_from None l.level l.scope l.name
