use Rattle.std.proofs.Common.{sym}
use Rattle.l2_words.proofs.Digits.{number_read, number_missing, read_between}
use Rattle.l2_words.proofs.values.number_between.Goals as goal

pub returns-then-number-most : goal.returns-then-number-most
returns-then-number-most c =
    sym (read_between c.args.text.now c.args.least c.args.most c.in-Ok.number (number_read c.args.text.now c.in-Ok.number c.in-Ok.ensures.value.0)
    c.if-least-number.true c.if-number-most.true)

pub returns-in_default : goal.returns-in_default
returns-in_default c =
    sym (number_missing c.args.text.now c.args.least c.args.most c.in_default.field-0 c.ranges.most.fits c.in_default.ensures.value.0)
