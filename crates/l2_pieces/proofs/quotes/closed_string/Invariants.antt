use Rattle.std.proofs.Common.{◌≡◌, ◌+◌, false, drop}
use Rattle.l2_pieces.specs.Fronts.{closed_string}
use Rattle.l2_pieces.proofs.quotes.closed_string.Given as goal

abbrev pub invariant-loop-byte : goal.invariant-loop-byte
invariant-loop-byte l = (closed_string l.escaped l.passed (drop l.byte-index l.text) ≡ closed_string false 1 l.text) × (l.passed ≡ l.byte-index + 1)
