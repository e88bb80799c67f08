use Rattle.std.proofs.Common.{inr}
use Rattle.l2_point_laws.proofs.Greedy.{implied, both_pass}
use Rattle.l2_point_laws.proofs.laws.watch_law.Goals as goal

pub returns-clause-weaker : goal.returns-clause-weaker
returns-clause-weaker c = λ p sets k q w v weaker pass. implied p sets k q w v (λ l a b. inr (weaker l a b)) pass

pub returns-clause-both : goal.returns-clause-both
returns-clause-both c = both_pass
