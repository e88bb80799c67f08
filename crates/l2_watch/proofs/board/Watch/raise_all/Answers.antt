use Rattle.std.proofs.Common.{◌≡◌, sym, ap, ◌∙◌, subst}
use Rattle.l2_cnf.specs.Trail.{AreOver}
use Rattle.l2_watch.proofs.board.Watch.raise_all.Goals as goal

pub raise-requires-clause-over : goal.raise-requires-clause-over
raise-requires-clause-over c = λ clause h.
    let same : c.self.inside.history.variables ≡ c.self.inside.variables = ap (λ b. b.past.variables) c.self.view_is ∙ c.requires.room ∙ sym (ap (λ b. b.variables) c.self.view_is) in
    subst (λ n. AreOver n clause) (sym same) (c.self.invariant.0.stored.over clause h)
