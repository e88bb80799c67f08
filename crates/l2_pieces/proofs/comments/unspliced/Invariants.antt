use Rattle.std.proofs.Common.{◌≡◌, ◌+◌, ◌-◌, drop}
use Rattle.l2_pieces.specs.Fronts.{unspliced}
use Rattle.l2_pieces.proofs.comments.unspliced.Given as goal

abbrev pub invariant-loop-at : goal.invariant-loop-at
invariant-loop-at l = l.at + unspliced (l.count - l.at) (drop l.at l.text) ≡ unspliced l.count l.text
