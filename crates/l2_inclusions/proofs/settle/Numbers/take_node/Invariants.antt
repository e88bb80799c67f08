use Rattle.std.proofs.Common.{◌≡◌, ℕ, Bool, true}
use Rattle.l2_inclusions.specs.Edges.{Leads, EachPasses, Transfers}
use Rattle.l2_inclusions.proofs.settle.Numbers.take_node.Given as goal

abbrev pub invariant-loop : goal.invariant-loop
invariant-loop l = (w q : ℕ → Bool) → Leads true w l.graph → Transfers l.rows w q → w l.node ≡ true → EachPasses q l.initial.self.list.items → EachPasses q l.self.list.items
