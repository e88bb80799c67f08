use Rattle.std.proofs.Common.{◌≡◌, ◌+◌, ◌*◌, length, map}
use Rattle.std.specs.Prelude.{sum_by}
use Rattle.l2_strategy.specs.Places.{IsSearching, forms_of, left}
use Rattle.l2_strategy.proofs.Steps.{IsCounted}
use Rattle.l2_strategy.proofs.search.strongest.Given as goal

abbrev pub invariant-loop-places : goal.invariant-loop-places
invariant-loop-places g l =
    (g.A.Asks.problem l.engine ≡ g.A.Asks.problem l.fn.engine) × IsSearching (g.A.Asks.infers (g.A.Asks.problem l.fn.engine)) l.bounds l.places.items × (forms_of l.places.items ≡ map (λ f. f.items) l.forms)
    × IsCounted (g.A.Asks.asked l.fn.engine) (g.A.Asks.asked l.engine) (length l.forms + sum_by (λ f. length f.items) l.forms * length l.bounds) (left (length l.bounds) l.places.items) (length l.bounds)

abbrev pub decreases-loop-places : goal.decreases-loop-places
decreases-loop-places g l = left (length l.bounds) l.places.items
