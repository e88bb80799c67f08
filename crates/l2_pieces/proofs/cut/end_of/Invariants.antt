use Rattle.std.proofs.Common.{◌≡◌, ◌≤◌, ◌+◌, drop}
use Rattle.l2_pieces.specs.Pieces.{behind_all, first_place}
use Rattle.l2_pieces.proofs.cut.end_of.Given as goal

abbrev pub invariant-loop-byte : goal.invariant-loop-byte
invariant-loop-byte l =
    (behind_all (drop l.byte-index l.text) l.place ≡ behind_all l.text first_place) × (l.place.offset ≤ l.byte-index) × (l.place.line ≤ l.byte-index + 1) × (l.place.col ≤ l.byte-index + 1)
