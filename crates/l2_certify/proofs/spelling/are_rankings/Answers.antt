use Rattle.std.proofs.Common.{◌≡◌, ◌≤◌, length, arith}
use Rattle.l2_certify.proofs.Spelt.{all_ranked}
use Rattle.l2_certify.proofs.spelling.are_rankings.Goals as goal

pub returns : goal.returns
returns c = λ t.
    let point = c.args.point.now in
    let ranks = c.args.ranks.now in
    let end : length point ≤ c.loop-i.i = omega (arith, c.loop-i-test.false, c.len-i-end.ensures) in
    let same : length ranks ≡ length point = omega (arith, c.if-len.false, c.len.ensures, c.len-2.ensures) in
    all_ranked point ranks c.loop-i.i c.loop-i.invariant end same
