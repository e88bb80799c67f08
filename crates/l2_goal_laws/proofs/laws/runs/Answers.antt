use Rattle.l2_goal_laws.proofs.laws.runs.Goals as goal

pub returns : goal.returns
returns c = record {
  solutions_run = c.solutions_run.ensures;
  runs_enter = c.runs_enter.ensures;
  rows_run = c.rows_run.ensures;
  ranks_run = c.ranks_run.ensures;
  runs_fall = c.runs_fall.ensures;
  none_watched = c.none_watched.ensures;
  named = c.events_named.ensures;
  points_start = c.points_test.ensures.start;
  points_test = c.points_test.ensures.test;
}
