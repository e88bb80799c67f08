use Rattle.l2_unwind.proofs.CutRuns.{runs_are_cut_runs}
use Rattle.l2_unwind.proofs.laws.unwound_runs.Goals as goal

-- src/laws.rt:5:1
pub returns : goal.returns
returns c = runs_are_cut_runs
