use Rattle.std.proofs.Common.{◌≡◌, ◌++◌, drop}
use Rattle.l2_parse_unit.specs.Reading.{constants_of}
use Rattle.l2_parse_unit.proofs.copies.constants.Given as goal

abbrev pub invariant-loop-token : goal.invariant-loop-token
invariant-loop-token l = l.all.items ++ constants_of (drop l.token-index l.tokens) ≡ constants_of l.initial.tokens
