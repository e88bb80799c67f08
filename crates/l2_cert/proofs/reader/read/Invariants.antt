use Rattle.std.proofs.Common.{◌≡◌, ◌+◌, ◌≤◌, ◌++◌, length, map}
use Rattle.std.specs.List.{concat}
use Rattle.l2_lines.specs.Lines.{lines_of}
use Rattle.l2_cert.specs.Words.{line_of}
use Rattle.l2_cert.specs.Kept.{seen}
use Rattle.l2_cert.specs.Reading.{state_of}
use Rattle.l2_cert.proofs.Bytes.{WasRead}
use Rattle.l2_cert.proofs.reader.read.Given as goal

-- the lines read and what stands behind them are the bytes
abbrev pub invariant-loop-rest : goal.invariant-loop-rest
invariant-loop-rest l = record {
  bytes : l.bytes ≡ concat (map line_of (seen (state_of l.reading))) ++ l.rest;
  lines : lines_of l.bytes ≡ map line_of (seen (state_of l.reading)) ++ lines_of l.rest;
  counted : l.line ≡ length (seen (state_of l.reading)) + 1;
  read : WasRead (state_of l.reading);
  within : l.line + length l.rest ≤ length l.bytes + 1;
}

abbrev pub decreases-loop-rest : goal.decreases-loop-rest
decreases-loop-rest l = length l.rest
