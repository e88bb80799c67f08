use Rattle.std.proofs.Common.{◌≡◌, ℕ, Bool, true}
use Rattle.l2_inclusions.specs.Edges.{Leads, AllPass, EachPasses, Transfers}
use Rattle.l2_inclusions.proofs.settle.Numbers.take_all.Given as goal

abbrev pub invariant-loop-node : goal.invariant-loop-node
invariant-loop-node l = (w q : ℕ → Bool) → Leads true w l.graph → Transfers l.rows w q → q 0 ≡ true → AllPass w l.nodes → EachPasses q l.self.list.items
