use Rattle.std.proofs.Common.{subst}
use Rattle.std.specs.Prelude.{◌↔◌, IsTrue}
use Rattle.l2_engine.specs.Tasks.{ProvesAt}
use Rattle.l2_engine.proofs.engine.EngineInfer.proves.Goals as goal

pub returns-in-Ok-clause-is : goal.returns-in-Ok-clause-is
returns-in-Ok-clause-is c = subst (λ x. IsTrue c.in-Ok.proved ↔ ProvesAt x c.args.k c.args.p.now) c.begin.ensures.task c.in-Ok.ensures
