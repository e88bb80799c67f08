use Rattle.l2_grown_laws.proofs.Runs.{grown_runs}
use Rattle.l2_grown_laws.proofs.Asked.{questions_are_runs}
use Rattle.l2_grown_laws.proofs.laws.grown_law.Goals as goal

pub returns-clause-runs : goal.returns-clause-runs
returns-clause-runs c = grown_runs (record { solutions_run = c.solutions_run.ensures; runs_enter = c.runs_enter.ensures; events_named = c.events_named.ensures; fronting = c.front_law.ensures })

pub returns-clause-questions : goal.returns-clause-questions
returns-clause-questions c =
    questions_are_runs (record { solutions_run = c.solutions_run.ensures; runs_enter = c.runs_enter.ensures; events_named = c.events_named.ensures; fronting = c.front_law.ensures })
    (record { raised_is = c.raised_law.ensures; bottom_is = c.bottom_law.ensures })
