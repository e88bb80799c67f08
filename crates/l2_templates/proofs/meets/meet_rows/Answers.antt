use Rattle.std.proofs.Common.{◌≡◌, ◌∙◌, ◌++◌, [], ap, sym, drop, append-nil, arith}
use Rattle.l2_templates.specs.Points.{meet_rows}
use Rattle.l2_templates.proofs.Strength.{meet_rows_none, meet_rows_none_second}
use Rattle.l2_templates.proofs.meets.meet_rows.Goals as goal
use Rattle.l2_templates.proofs.meets.meet_rows.Goals.{then-loop-i-test+else-i-b, else-loop-i-test}

pub returns : goal.returns
returns c =
    let none : meet_rows (drop c.loop-i.i c.args.a.now) (drop c.loop-i.i c.args.b.now) ≡ [] = elim c.loop-i-test.branch [
      | then-loop-i-test+else-i-b w ↦ meet_rows_none_second c.args.a.now c.args.b.now c.loop-i.i (omega arith)
      | else-loop-i-test w ↦ meet_rows_none c.args.a.now c.args.b.now c.loop-i.i (omega arith)
    ] in
    sym (c.loop-i.invariant ∙ ap (λ rest. c.loop-i.all ++ rest) none ∙ append-nil c.loop-i.all)
