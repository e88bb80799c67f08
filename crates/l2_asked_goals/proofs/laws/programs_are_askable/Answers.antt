use Rattle.l2_asked_goals.proofs.Programs.{programs_are_askable as proved}
use Rattle.l2_asked_goals.proofs.laws.programs_are_askable.Goals as goal

pub returns : goal.returns
returns c = proved (record {
  well_formed = c.code_is_well_formed.ensures;
  direct = c.code_is_direct.ensures;
  runs_alike = c.runs_alike.ensures;
  stays_well_formed = c.stays_well_formed.ensures;
  stays_resolved = c.stays_resolved.ensures;
  stays_direct = c.stays_direct.ensures;
  cells = c.code_does_what_its_program_does.ensures.cells;
  executions = c.points_on_code.ensures.executions;
})
