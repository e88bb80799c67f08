use Rattle.std.proofs.Common.{◌≡◌, ◌+◌, false, drop}
use Rattle.l2_pieces.specs.Fronts.{closed_comment}
use Rattle.l2_pieces.proofs.comments.closed_comment.Given as goal

abbrev pub invariant-loop-byte : goal.invariant-loop-byte
invariant-loop-byte l = (closed_comment l.star l.passed (drop l.byte-index l.text) ≡ closed_comment false 2 l.text) × (l.passed ≡ l.byte-index + 2)
