use Rattle.std.proofs.Common.{inl, inr, sym, subst}
use Rattle.std.specs.Prelude.{neg_ℤ, Contains}
use Rattle.l2_cnf.proofs.Laws.{same_or_not}
use Rattle.l2_watch.proofs.looks.look_at.Goals as goal

pub returns-in-None : goal.returns-in-None
returns-in-None c = λ m h. elim (same_or_not m c.args.other) [
  | inl e ↦ subst (λ x. Contains c.args.history.now.literals (neg_ℤ x)) (sym e) (c.is_false.ensures.0 c.if-is_false.true)
  | inr ne ↦ c.in-None.ensures m h ne
]
