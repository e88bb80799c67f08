use Rattle.std.proofs.Common.{subst}
use Rattle.std.specs.Prelude.{neg_ℤ, Contains, IsTrue, ◌↔◌}
use Rattle.l2_watch.proofs.board.Watch.is_true.Goals as goal

pub returns : goal.returns
returns c = subst (λ b. IsTrue c.is_true.result ↔ Contains b.past.literals c.args.l) c.self.view_is c.is_true.ensures
