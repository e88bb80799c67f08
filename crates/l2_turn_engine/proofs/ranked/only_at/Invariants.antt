use Rattle.std.proofs.Common.{◌≡◌, [], replicate}
use Rattle.l2_turn_engine.proofs.ranked.only_at.Given as goal

abbrev pub invariant-loop : goal.invariant-loop
invariant-loop l = l.ranks ≡ replicate l.counter []
