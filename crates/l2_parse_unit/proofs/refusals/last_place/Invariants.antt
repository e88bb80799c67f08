use Rattle.std.proofs.Common.{◌≡◌, drop}
use Rattle.l2_parse_unit.specs.Reading.{last_place, start}
use Rattle.l2_parse_unit.proofs.refusals.last_place.Given as goal

abbrev pub invariant-loop-token : goal.invariant-loop-token
invariant-loop-token l = last_place l.place (drop l.token-index l.tokens) ≡ last_place start l.initial.tokens
