use Rattle.std.proofs.Common.{◌≡◌, ◌++◌, map, drop}
use Rattle.l2_strategy.specs.Places.{at_bottom}
use Rattle.l2_strategy.proofs.search.bottom.Given as goal

abbrev pub invariant-loop-i : goal.invariant-loop-i
invariant-loop-i l = l.places.items ++ map (λ f. at_bottom f.items) (drop l.i l.forms) ≡ map (λ f. at_bottom f.items) l.forms
