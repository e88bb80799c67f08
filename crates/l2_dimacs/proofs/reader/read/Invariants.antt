use Rattle.std.proofs.Common.{length}
use Rattle.l2_dimacs.specs.Reading.{left}
use Rattle.l2_dimacs.proofs.Whole.{WasRead}
use Rattle.l2_dimacs.proofs.reader.read.Given as goal

abbrev pub invariant-loop-first : goal.invariant-loop-first
invariant-loop-first l = WasRead l.text (left l.tokens) l.reading

abbrev pub decreases-loop-first : goal.decreases-loop-first
decreases-loop-first l = length (left l.tokens)
