use Rattle.std.proofs.Common.{◌≡◌, ◌≤◌, ◌+◌, length, drop}
use Rattle.l2_dimacs.specs.Tokens.{lines}
use Rattle.l2_dimacs.proofs.tokens.line_count.Given as goal

-- the lines so far and those behind them are all
abbrev pub invariant-loop-byte : goal.invariant-loop-byte
invariant-loop-byte l = record {
  counted : l.count + length (lines (drop l.byte-index l.text)) ≡ length (lines l.text) + 1;
  within : l.count ≤ l.byte-index + 1;
}
