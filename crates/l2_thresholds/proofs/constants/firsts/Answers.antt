use Rattle.std.proofs.Common.{[], arith, drop}
use Rattle.std.proofs.lemmas.List.{drop_all}
use Rattle.l2_meaning.specs.Thresholds.{values_of, firsts}
use Rattle.l2_thresholds.proofs.Firsts.{all_taken, none_left}
use Rattle.l2_thresholds.proofs.constants.firsts.Goals as goal

pub returns-then-len-ge256 : goal.returns-then-len-ge256
returns-then-len-ge256 c =
    all_taken c.loop-t.all.items (firsts c.loop-t.all.items (values_of (drop c.loop-t.t-index c.args.tokens.now))) (firsts [] (values_of c.args.tokens.now)) c.loop-t.invariant.so_far c.loop-t.invariant.few
    (omega (arith, c.if-len-ge256.true, c.len.ensures))

pub returns : goal.returns
returns c =
    none_left c.loop-t.all.items (firsts [] (values_of c.args.tokens.now)) (drop c.loop-t.t-index c.args.tokens.now) (drop_all c.loop-t.t-index c.args.tokens.now (omega (arith, c.loop-t-test.false)))
    c.loop-t.invariant.so_far c.loop-t.invariant.few
