use Rattle.std.proofs.Common.{◌≡◌, ◌≤◌, ◌+◌, drop}
use Rattle.l2_size.specs.Capped.{capped}
use Rattle.l2_size.specs.Tables.{count_among}
use Rattle.l2_size.proofs.tables.count_among.Given as goal

abbrev pub invariant-loop-member : goal.invariant-loop-member
invariant-loop-member l =
    (capped (l.total + count_among l.counts (drop l.member-index l.members)) ≡ capped (count_among l.counts l.members))
    × (l.total ≤ 18446744073709551615)
