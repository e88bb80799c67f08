use Rattle.std.proofs.Common.{◌+◌, ◌≤◌, length}
use Rattle.l2_derivation_file.proofs.Files.{WasRead}
use Rattle.l2_derivation_file.proofs.reader.read.Given as goal

abbrev pub invariant-loop-rest : goal.invariant-loop-rest
invariant-loop-rest l = record {
  read : WasRead l.bytes l.rest l.line l.reading;
  within : l.line + length l.rest ≤ length l.bytes + 1;
}

abbrev pub decreases-loop-rest : goal.decreases-loop-rest
decreases-loop-rest l = length l.rest
