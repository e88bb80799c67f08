use Rattle.std.proofs.Common.{◌∙◌, ◌++◌, ◌∷◌, [], length, ap, arith}
use Rattle.std.proofs.lemmas.List.{length-append, length_push}
use Rattle.l2_cnf.proofs.Cuts.{AreEnds-grown, cut-grown}
use Rattle.l2_rup.proofs.held.Held.push.Goals as goal

pub invariant_of-self : goal.invariant_of-self
invariant_of-self c = (
  AreEnds-grown c.self.inside.ends.items c.push.new.self.items c.self.inside.all.items c.extend_from_slice.new.self.items c.args.clause.now c.len.result c.self.invariant.0 c.in-Ok.ensures.items (omega arith) c.in-Ok-push.ensures.items,
  omega (arith, ap length c.in-Ok-push.ensures.items, length_push c.self.inside.ends.items c.len.result, c.self.invariant.1, c.in-Ok-push.ensures.capacity, c.requires.lines, ap (λ h. h.lines) c.self.view_is),
  omega (arith, ap length c.in-Ok.ensures.items, length-append c.self.inside.all.items c.args.clause.now, c.self.invariant.2, c.in-Ok.ensures.capacity, c.requires.literals, ap (λ h. h.literals) c.self.view_is),
)

pub returns-clause-clauses : goal.returns-clause-clauses
returns-clause-clauses c =
    cut-grown c.self.inside.ends.items c.push.new.self.items c.self.inside.all.items c.extend_from_slice.new.self.items c.args.clause.now c.len.result c.self.invariant.0 c.in-Ok.ensures.items (omega arith) c.in-Ok-push.ensures.items
    ∙ ap (λ h. h.clauses ++ c.args.clause.now ∷ []) c.self.view_is
