use Rattle.l2_cut_laws.proofs.Consequences.{rows_hold, turns_count, watch_changes_nothing}
use Rattle.l2_cut_laws.proofs.laws.turns_law.Goals as goal

pub returns-clause-rows : goal.returns-clause-rows
returns-clause-rows c = rows_hold

pub returns-clause-counted : goal.returns-clause-counted
returns-clause-counted c = turns_count

pub returns-clause-passing : goal.returns-clause-passing
returns-clause-passing c = watch_changes_nothing
