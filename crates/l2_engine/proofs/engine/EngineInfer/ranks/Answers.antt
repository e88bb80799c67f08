use Rattle.std.proofs.Common.{subst}
use Rattle.l2_engine.specs.Tasks.{AreRanksOf}
use Rattle.l2_engine.proofs.engine.EngineInfer.ranks.Goals as goal

pub returns-in-Ok-clause-is : goal.returns-in-Ok-clause-is
returns-in-Ok-clause-is c = subst (λ x. AreRanksOf x c.args.k c.args.p.now c.in-Ok.ranks) c.begin.ensures.task c.in-Ok.ensures
