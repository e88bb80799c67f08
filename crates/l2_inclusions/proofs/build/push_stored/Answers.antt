use Rattle.std.proofs.Common.{arith, ap, ◌∙◌, ℕ}
use Rattle.l2_inclusions.specs.Valuation.{store_node}
use Rattle.l2_inclusions.proofs.Due.{due_stored}
use Rattle.l2_inclusions.proofs.build.push_stored.Goals as goal

pub returns-in_ok-push : goal.returns-in_ok-push
returns-in_ok-push c = λ due.
    due_stored c.args.inclusions.now c.args.rows.now c.push_stores.new.graph c.push.new.self c.args.i _ c.in-Stores.pointer c.in-Stores.from c.store_node.result
    (omega arith) c.in-Stores.is (omega (arith, c.nodes.ensures.value))
    (c.store_node.ensures ∙ ap (λ (k : ℕ). store_node c.args.rows.now k) c.number-number.ensures.value)
    c.in_ok-push.ensures (c.in_ok-push_stores.ensures c.args.inclusions.now due)
