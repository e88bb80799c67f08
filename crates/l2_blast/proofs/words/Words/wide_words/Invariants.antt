use Rattle.std.proofs.Common.{◌≡◌, ◌++◌, drop}
use Rattle.l2_row_circuits.specs.Words.{words_of}
use Rattle.l2_blast.specs.Words.{wide_words}
use Rattle.l2_blast.proofs.words.Words.wide_words.Given as goal

abbrev pub invariant-loop-a : goal.invariant-loop-a
invariant-loop-a l = words_of l.words.items ++ wide_words l.self (drop l.a-index l.operands) ≡ wide_words l.self l.operands
