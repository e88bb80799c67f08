use Rattle.l2_meaning.proofs.Starts.{first_fits, run_law}
use Rattle.l2_meaning.proofs.Typed.{value_law}
use Rattle.l2_meaning.proofs.laws.runs_keep_types.Goals as goal

pub returns-clause-start : goal.returns-clause-start
returns-clause-start c = first_fits

pub returns-clause-runs : goal.returns-clause-runs
returns-clause-runs c = run_law

pub returns-clause-values : goal.returns-clause-values
returns-clause-values c = value_law
