use Rattle.std.proofs.Common.{◌+◌, ◌-◌, Some, arith, refl, sym, ap, ◌∙◌}
use Rattle.l2_ssa.specs.Walks.{RowGoal}
use Rattle.l2_row_engine.specs.Indexes.{goal_count}
use Rattle.l2_row_engine.proofs.Standing.{found_here, found_on}
use Rattle.l2_row_engine.proofs.indexes.broken_at.Goals as goal

pub returns-then-left-count : goal.returns-then-left-count
returns-then-left-count c =
    found_here c.args.point.now c.loop-l.l c.loop-l.left c.args.i (omega (arith, c.loop-l-test.true, c.len-l-end.ensures)) c.loop-l.invariant c.get-at.result.now c.in_ok-row.row c.get-at.ensures (c.in_ok-row.ensures (c.loop-l.l + 1))
    ∙ ap (λ n. Some (RowGoal n c.in_ok-row.row)) (sym c.in_ok-number.ensures)

pub loop-l-preserved : goal.loop-l-preserved
loop-l-preserved c =
    found_on c.args.point.now c.loop-l.l c.loop-l.left c.args.i (omega (arith, c.loop-l-test.true, c.len-l-end.ensures)) c.loop-l.invariant c.goal_count-count.result (c.loop-l.left - c.goal_count-count.result) (c.goal_count-count.ensures ∙ ap goal_count c.get-at.ensures) (omega (arith, c.if-left-count.false)) refl
