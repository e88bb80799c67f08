use Rattle.std.proofs.Common.{◌≡◌, ◌≢◌, ◌<◌, length, get_or, arith}
use Rattle.l2_dimacs.proofs.Pieces.{line_more, line_same}
use Rattle.l2_dimacs.proofs.tokens.line_count.Goals as goal
use Rattle.l2_dimacs.proofs.tokens.line_count.Goals.{then-byte-eq10, else-byte-eq10}

pub loop-byte-preserved : goal.loop-byte-preserved
loop-byte-preserved c =
    let text = c.args.text.now in
    let i = c.loop-byte.byte-index in
    let inside : i < length text = omega arith in
    elim c.if-byte-eq10.branch [
      | then-byte-eq10 w ↦
          let is : get_or text i 0 ≡ 10 = omega (arith, w.if-byte-eq10.true) in
          record { counted = omega (arith, w.count-is, line_more text i inside is, c.loop-byte.invariant.counted); within = omega (arith, w.count-is, c.loop-byte.invariant.within) }
      | else-byte-eq10 w ↦
          let other : get_or text i 0 ≢ 10 = λ same. omega (arith, same, w.if-byte-eq10.false) in
          record { counted = omega (arith, w.count-is, line_same text i inside other, c.loop-byte.invariant.counted); within = omega (arith, w.count-is, c.loop-byte.invariant.within) }
    ]
