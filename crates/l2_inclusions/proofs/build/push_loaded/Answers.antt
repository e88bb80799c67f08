use Rattle.std.proofs.Common.{arith, ap, ◌∙◌, ℕ}
use Rattle.l2_inclusions.specs.Valuation.{load_node}
use Rattle.l2_inclusions.proofs.Due.{due_loaded}
use Rattle.l2_inclusions.proofs.build.push_loaded.Goals as goal

pub returns-in_ok-push : goal.returns-in_ok-push
returns-in_ok-push c = λ due.
    due_loaded c.args.inclusions.now c.args.rows.now c.push_loads.new.graph c.push.new.self c.args.i _ c.in-Loads.pointer c.in-Loads.to c.load_node.result
    (omega arith) c.in-Loads.is (omega (arith, c.nodes.ensures.value))
    (omega (arith, c.number-number.ensures.value, c.number-number.ensures.bound))
    (c.load_node.ensures ∙ ap (λ (k : ℕ). load_node c.args.rows.now k) c.number-number.ensures.value)
    c.in_ok-push.ensures (c.in_ok-push_loads.ensures c.args.inclusions.now due)
