use Rattle.std.proofs.Common.{◌≡◌, ◌+◌, true, length, reverse}
use Rattle.l2_cdcl.specs.Analysis.{IsOpen, IsTraced}
use Rattle.l2_cdcl.specs.Chain.{Chain, IsLater}
use Rattle.l2_cdcl.proofs.analysis.analyse.Given as goal

abbrev pub invariant-loop-at : goal.invariant-loop-at
invariant-loop-at l = record {
  len : length l.marks ≡ length l.initial.marks;
  traced : IsTraced l.watch.clauses l.watch.past.literals l.at.low l.at.start l.traced.place l.marks l.aside.items;
  kept : l.hints.kept ≡ l.initial.hints.kept;
  chain : l.hints.kept ≡ true → Chain l.watch.clauses (IsOpen l.watch.past.literals l.at.low l.at.start (l.traced.place + 1) l.marks l.aside.items) (IsLater l.watch.past.literals l.traced.place) (reverse l.hints.numbers);
}

abbrev pub decreases-loop-at : goal.decreases-loop-at
decreases-loop-at l = l.traced.place
