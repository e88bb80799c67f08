use Rattle.std.proofs.Common.{◌≡◌, ◌++◌, map, drop}
use Rattle.l2_reader.specs.Parts.{seen}
use Rattle.l2_parse_unit.specs.Reading.{kept}
use Rattle.l2_parse_unit.proofs.copies.kept.Given as goal

abbrev pub invariant-loop-token : goal.invariant-loop-token
invariant-loop-token l = map seen l.all.items ++ kept (drop l.token-index l.tokens) ≡ kept l.initial.tokens
