use Rattle.std.proofs.Common.{◌≡◌, ◌≤◌, ◌+◌, ◌++◌, drop, length}
use Rattle.std.specs.List.{filter}
use Rattle.l2_pieces.specs.Pieces.{parts, pieces, is_solid}
use Rattle.l2_pieces.proofs.cut.pieces.Given as goal

abbrev pub invariant-loop-at : goal.invariant-loop-at
invariant-loop-at l =
    (l.kept.items ++ filter is_solid (parts l.place l.inside (drop l.at l.text)) ≡ pieces l.text) × (l.place.offset ≤ l.at) × (l.place.line ≤ l.at + 1) × (l.place.col ≤ l.at + 1) × (length l.kept.items ≤ l.at)
