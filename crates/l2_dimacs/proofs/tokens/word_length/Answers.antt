use Rattle.std.proofs.Common.{◌<◌, ◌∙◌, length, sym, arith}
use Rattle.l2_dimacs.proofs.Pieces.{not_blank_more}
use Rattle.l2_dimacs.proofs.tokens.word_length.Goals as goal

pub loop-i-preserved : goal.loop-i-preserved
loop-i-preserved c =
    let inside : c.loop-i.i < length c.args.text.now = omega arith in
    record {
      within = omega (arith, inside);
      word = not_blank_more c.args.text.now c.loop-i.i inside c.loop-i.invariant.word (sym c.is_blank.ensures ∙ c.if-not-is_blank.true);
    }
