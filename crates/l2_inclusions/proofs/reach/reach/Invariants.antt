use Rattle.std.proofs.Common.{◌≡◌, ℕ, Bool, true}
use Rattle.l2_inclusions.specs.Edges.{Leads, AllPass}
use Rattle.l2_inclusions.proofs.reach.reach.Given as goal

abbrev pub invariant-loop-i : goal.invariant-loop-i
invariant-loop-i l = (w : ℕ → Bool) → Leads l.walk.backward w l.graph → w l.start ≡ true → AllPass w l.list.items
