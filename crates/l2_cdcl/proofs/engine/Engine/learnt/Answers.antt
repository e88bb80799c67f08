use Rattle.std.proofs.Common.{◌<◌, ◌∙◌, [], length, get_or, sym, ap, arith}
use Rattle.std.proofs.lemmas.List.{length-map, get_or-map}
use Rattle.l2_cdcl.proofs.engine.Engine.learnt.Goals as goal
use Rattle.l2_cdcl.proofs.engine.Engine.learnt.Goals.{After-index}

low : (c : After-index) → c.args.i < length c.self.inside.learnt_at.items
low c = omega (arith, c.requires, ap (λ s. length s.learnt) c.self.view_is, length-map c.self.inside.learnt_at.items (λ i. get_or c.self.inside.watch.clauses i []))

pub clause-requires : goal.clause-requires
clause-requires c = c.self.invariant.within c.index.result.now (c.args.i, low (goal.at.clause-requires c).After-index, sym c.index.ensures)

pub returns : goal.returns
returns c =
    let d = (goal.at.returns c).After-index in
    c.clause.ensures ∙ sym (get_or-map (λ i. get_or c.self.inside.watch.clauses i []) c.self.inside.learnt_at.items c.args.i c.index.result.now [] (low d) ∙ ap (λ i. get_or c.self.inside.watch.clauses i []) (sym c.index.ensures)) ∙ ap (λ s. get_or s.learnt c.args.i []) c.self.view_is
