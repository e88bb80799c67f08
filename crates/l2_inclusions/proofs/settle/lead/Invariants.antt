use Rattle.std.proofs.Common.{◌≡◌, ℕ, Bool}
use Rattle.l2_inclusions.specs.Edges.{AllPass, IsLed}
use Rattle.l2_inclusions.proofs.settle.lead.Given as goal

abbrev pub invariant-loop-node : goal.invariant-loop-node
invariant-loop-node l = record {
  sets : l.rows.sets ≡ l.initial.rows.sets;
  led : (q : ℕ → Bool) → AllPass q l.nodes → (n : ℕ) → IsLed q l.initial.rows l.rows l.number n;
}
