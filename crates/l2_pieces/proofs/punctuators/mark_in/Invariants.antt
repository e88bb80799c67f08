use Rattle.std.proofs.Common.{◌≡◌, map, drop}
use Rattle.l2_pieces.specs.Punctuators.{spelt, mark_in}
use Rattle.l2_pieces.proofs.punctuators.mark_in.Given as goal

abbrev pub invariant-loop-spelling : goal.invariant-loop-spelling
invariant-loop-spelling l = mark_in (map (λ e. spelt e.0.now e.1) (drop l.spelling-index l.table)) l.word ≡ mark_in (map (λ e. spelt e.0.now e.1) l.table) l.word
