use Rattle.std.proofs.Common.{◌+◌, length, ap, ◌∙◌}
use Rattle.l2_ssa_points.specs.Goals.{row_goals}
use Rattle.l2_row_engine.specs.Indexes.{goals_before}
use Rattle.l2_row_engine.proofs.Standing.{before_all}
use Rattle.l2_turn_engine.proofs.indexes.rank_index.Goals as goal

pub returns-in-Some : goal.returns-in-Some
returns-in-Some c =
    c.in-Some.ensures.1 ∙ ap (λ n. n + c.in_ok-ranks.ranks) (c.in_ok-rows.ensures ∙ ap (goals_before c.args.point.now) c.len.ensures ∙ before_all 1 c.args.point.now)
    ∙ ap (λ n. length (row_goals 1 c.args.point.now) + n) c.in_ok-ranks.ensures
