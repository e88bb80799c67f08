use Rattle.std.proofs.Common.{◌≡◌, drop}
use Rattle.l2_directives.specs.Directives.{last_of}
use Rattle.l2_directives.proofs.directives.last_of.Given as goal

abbrev pub invariant-loop-piece : goal.invariant-loop-piece
invariant-loop-piece l = last_of l.last (drop l.piece-index l.line) ≡ last_of l.fn.first l.line
