use Rattle.std.proofs.Common.{◌≡◌, ◌+◌, ◌≤◌, ◌++◌, length}
use Rattle.std.specs.List.{concat}
use Rattle.l2_lines.specs.Lines.{lines_of}
use Rattle.l2_witness.specs.Read.{Keeps, seen}
use Rattle.l2_witness.proofs.read.read_values.Given as goal

-- the lines read and what stands behind them are the bytes
abbrev pub invariant-loop-rest : goal.invariant-loop-rest
invariant-loop-rest l = record {
  bytes : l.bytes ≡ concat (seen l.reading) ++ l.rest;
  lines : lines_of l.bytes ≡ seen l.reading ++ lines_of l.rest;
  counted : l.line ≡ length (seen l.reading) + 1;
  keeps : Keeps l.reading;
  within : l.line + length l.rest ≤ length l.bytes + 1;
}

abbrev pub decreases-loop-rest : goal.decreases-loop-rest
decreases-loop-rest l = length l.rest
