use Rattle.std.proofs.Common.{◌≡◌, ◌<◌, ap, ◌∙◌, arith, length}
use Rattle.std.specs.Prelude.{pos}
use Rattle.std.proofs.lemmas.List.{get_or_default}
use Rattle.l2_watch.specs.Visit.{items_of}
use Rattle.l2_watch.specs.Board.{start_of}
use Rattle.l2_watch.proofs.Boards.{IsKept-back}
use Rattle.l2_watch.proofs.board.Watch.back.Goals as goal

pub invariant_of-self : goal.invariant_of-self
invariant_of-self c =
    let was = c.self.inside in
    let within : c.args.level < length was.levels.items = omega (arith, c.requires.level, ap (λ b. length b.levels) c.self.view_is) in
    let start : c.index.result.now.0 ≡ start_of was.levels.items c.args.level = ap (λ p. p.0) (c.index.ensures ∙ get_or_default was.levels.items c.args.level c.index.result.now (0, pos 0) within) in (
      IsKept-back was.clauses was.variables was.pairs.items (items_of was.lists.items) was.history c.cut.new.self was.levels.items c.truncate.new.self.items was.seen was.ready c.args.level c.index.result.now.0 c.self.invariant.0
          (ap (λ b. b.ready) c.self.view_is ∙ c.requires.ready) within start c.truncate.ensures.items c.cut.ensures.literals c.cut.ensures.reasons c.cut.ensures.variables,
      c.self.invariant.1,
      c.self.invariant.2,
    )
