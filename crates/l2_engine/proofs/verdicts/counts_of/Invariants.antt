use Rattle.std.proofs.Common.{◌≡◌, ◌++◌, drop, length, map}
use Rattle.l2_engine.proofs.verdicts.counts_of.Given as goal

abbrev pub invariant-loop-i : goal.invariant-loop-i
invariant-loop-i l = l.counts.items ++ map length (map (λ f. f.items) (drop l.i l.all)) ≡ map length (map (λ f. f.items) l.all)
