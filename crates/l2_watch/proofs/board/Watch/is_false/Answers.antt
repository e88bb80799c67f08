use Rattle.std.proofs.Common.{subst}
use Rattle.std.specs.Prelude.{neg_ℤ, Contains, IsTrue, ◌↔◌}
use Rattle.l2_watch.proofs.board.Watch.is_false.Goals as goal

pub returns : goal.returns
returns c = subst (λ b. IsTrue c.is_false.result ↔ Contains b.past.literals (neg_ℤ c.args.l)) c.self.view_is c.is_false.ensures
