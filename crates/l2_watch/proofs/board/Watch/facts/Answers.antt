use Rattle.std.proofs.Common.{subst, arith}
use Rattle.l2_watch.specs.Visit.{items_of}
use Rattle.l2_watch.specs.Board.{IsBoard}
use Rattle.l2_watch.proofs.Boards.{IsBoard-from}
use Rattle.l2_watch.proofs.board.Watch.facts.Goals as goal

pub returns : goal.returns
returns c = subst IsBoard c.self.view_is (IsBoard-from _ c.self.inside.pairs.items (items_of c.self.inside.lists.items) c.self.invariant.0 (omega (arith, c.len.ensures.len, c.len.ensures.most)) c.len.ensures.over c.len.ensures.apart c.len.ensures.count)
