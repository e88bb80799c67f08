use Rattle.std.proofs.Common.{ap}
use Rattle.l2_lower.proofs.ProgramRuns.{program_types}
use Rattle.l2_lower.proofs.Executions.{start_same, run_law, exec_law}
use Rattle.l2_lower.proofs.laws.code_does_what_its_program_does.Goals as goal

pub returns-clause-executions : goal.returns-clause-executions
returns-clause-executions c = exec_law

pub returns-clause-runs : goal.returns-clause-runs
returns-clause-runs c = run_law

pub returns-clause-start : goal.returns-clause-start
returns-clause-start c = start_same

pub returns-clause-cells : goal.returns-clause-cells
returns-clause-cells c = λ p. ap (λ t. t.objects) (program_types p)
