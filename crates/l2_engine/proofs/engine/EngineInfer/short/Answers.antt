use Rattle.std.proofs.Common.{subst}
use Rattle.std.specs.Prelude.{MatchOption}
use Rattle.l2_engine.specs.Tasks.{IsSomeBreak, SomeBreak}
use Rattle.l2_engine.proofs.engine.EngineInfer.short.Goals as goal

pub returns-in-Ok-clause-is : goal.returns-in-Ok-clause-is
returns-in-Ok-clause-is c = subst (λ x. MatchOption c.in-Ok.found (¬ SomeBreak x c.args.k) (λ f. SomeBreak x c.args.k × IsSomeBreak x c.args.k f)) c.begin.ensures.task c.in-Ok.ensures
