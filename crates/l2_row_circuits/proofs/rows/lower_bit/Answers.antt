use Rattle.std.proofs.Common.{◌≡◌, ◌+◌, ◌-◌, length, get_or, ap, ◌∙◌, arith}
use Rattle.l2_gates.specs.Gates.{literal_of}
use Rattle.l2_row_circuits.specs.Words.{words_of}
use Rattle.l2_row_circuits.proofs.Words.{item_is, one_lower}
use Rattle.l2_row_circuits.proofs.rows.lower_bit.Goals as goal

pub loop-i-preserved : goal.loop-i-preserved
loop-i-preserved c =
    let forms = c.args.forms.now in
    let f = c.form_at-form.result.now in
    let k : length forms - c.loop-i.i - 1 ≡ length forms - (c.loop-i.i + 1) = omega arith in
    one_lower forms c.loop-i.i f (words_of c.args.before.now) (words_of c.args.after.now) (literal_of c.loop-i.low) (literal_of c.in_ok-low.low) c.args.gates.now c.loop-i.gates c.component_bit.new.gates
    c.loop-i-test.true (item_is forms (length forms - c.loop-i.i - 1) f c.form_at-form.ensures ∙ ap (λ n. get_or forms n f) k) c.in_ok-low.ensures.is c.in_ok-low.ensures.made c.loop-i.invariant
