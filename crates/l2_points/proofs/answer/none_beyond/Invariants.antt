use Rattle.std.proofs.Common.{◌≡◌, ℕ, ◌<◌}
use Rattle.l2_inclusions.specs.Rows.{number_at}
use Rattle.l2_points.specs.Entries.{IsBeyond, node_at}
use Rattle.l2_points.proofs.answer.none_beyond.Given as goal

abbrev pub invariant-loop-n : goal.invariant-loop-n
invariant-loop-n l = (k : ℕ) → k < l.n → IsBeyond l.count k → number_at l.rows (node_at l.rest k) ≡ 0
