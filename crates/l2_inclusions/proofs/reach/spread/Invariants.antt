use Rattle.std.proofs.Common.{◌≡◌, ℕ, Bool, true}
use Rattle.l2_inclusions.specs.Edges.{Leads, AllPass}
use Rattle.l2_inclusions.proofs.reach.spread.Given as goal

abbrev pub invariant-loop : goal.invariant-loop
invariant-loop l = (w : ℕ → Bool) → Leads l.walk.backward w l.graph → w l.node ≡ true → AllPass w l.initial.list.items → AllPass w l.list.items
