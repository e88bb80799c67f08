use Rattle.std.proofs.Common.{◌≡◌, drop}
use Rattle.l2_types.specs.States.{check_from}
use Rattle.l2_types.proofs.table.number_of.Given as goal

abbrev pub invariant-loop-c : goal.invariant-loop-c
invariant-loop-c l = check_from l.number (drop l.c-index l.numbers) l.place l.kind ≡ check_from 1 l.numbers l.place l.kind
