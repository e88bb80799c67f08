-- Goals as they are handed over.
use Rattle.std.specs.Prelude.{◌≡◌, length}
use Rattle.l2_cnf.specs.Logic.{AllWithin}
use Rattle.l2_derivations.specs.declared.runs.Problem.{Problem}
use Rattle.l2_derivations.specs.Goals.{Goals}

abbrev pub goals_of : Problem → Goals
goals_of p = record { base = p.base.now; variables = p.variables; last = p.last.now; steps = p.steps.now }

-- there is a last clause for each goal, and no clause has a greater variable
pub record Fits (p : Problem) : Type 0 where
  pub base : AllWithin p.variables p.base.now
  pub last : AllWithin p.variables p.last.now
  pub each : length p.last.now ≡ length p.steps.now
