use Rattle.l2_goal_laws.proofs.laws.programs.Goals as goal

pub returns : goal.returns
returns c = record {
  below = c.below.ensures;
  runs = c.runs.ensures;
  made = c.fills_mean.ensures.made;
  mean = c.fills_mean.ensures.mean;
  well_formed = c.code_is_well_formed.ensures;
  direct = c.code_is_direct.ensures;
  runs_alike = c.runs_alike.ensures;
  stays_well_formed = c.stays_well_formed.ensures;
  stays_resolved = c.stays_resolved.ensures;
  stays_direct = c.stays_direct.ensures;
  cells = c.code_does_what_its_program_does.ensures.cells;
  closed = c.code_has_the_sets_of_its_program.ensures.closed;
  executions = c.points_on_code.ensures.executions;
  safe = c.cut_law.ensures.safe;
  terminating = c.turn_bound.ensures.terminating;
}
