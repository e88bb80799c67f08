use Rattle.std.proofs.Common.{ℕ, Bool, subst}
use Rattle.std.specs.Bool.{OnTrue}
use Rattle.l2_cnf.specs.Logic.{Satisfies}
use Rattle.l2_rup.specs.Checked.{formula_of}
use Rattle.l2_rup.proofs.checker.Checker.closed.Goals as goal

pub returns-clause-refuted : goal.returns-clause-refuted
returns-clause-refuted c = subst (λ k. OnTrue c.ends_empty.result ((v : ℕ → Bool) → ¬ Satisfies v (formula_of k))) c.self.view_is c.ends_empty.ensures.refuted
