use Rattle.std.proofs.Common.{◌≡◌, suc, ◌-◌, ap, ◌∙◌, arith}
use Rattle.l2_gates.specs.Gates.{literals_of}
use Rattle.l2_row_circuits.proofs.Words.{word_at}
use Rattle.l2_row_circuits.proofs.rows.variable_word.Goals as goal

pub returns-in-Some : goal.returns-in-Some
returns-in-Some c =
    let q : c.args.number ≡ suc (c.args.number - 1) = omega arith in
    ap literals_of c.as_slice.ensures.value ∙ word_at c.args.words.now c.args.number (c.args.number - 1) c.in-Some.word.now q c.in-Some.ensures.lookup.3.0 c.in-Some.ensures.lookup.1
