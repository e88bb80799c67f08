use Rattle.std.proofs.Common.{◌≡◌, drop, map}
use Rattle.l2_grammar.specs.Limits.{reading}
use Rattle.l2_reader.specs.Parts.{seen}
use Rattle.l2_reader.specs.Readings.{Steady, count_of, read_from}
use Rattle.l2_reader.proofs.reader.read_all.Given as goal

abbrev pub invariant-loop-token : goal.invariant-loop-token
invariant-loop-token l = (reading (map seen l.tokens) ≡ read_from l.progress (map seen (drop l.token-index l.tokens))) × Steady l.progress × (l.at ≡ l.token-index) × (count_of l.progress ≡ l.token-index)
