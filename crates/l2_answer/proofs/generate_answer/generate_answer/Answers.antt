use Rattle.std.proofs.Common.{◌≡◌, length, refl}
use Rattle.l2_gen.specs.Made.{program}
use Rattle.l2_answer.proofs.Made.{generated}
use Rattle.l2_answer.proofs.generate_answer.generate_answer.Goals as goal

pub returns : goal.returns
returns c =
    let value = c.as_bytes-bytes.ensures.value in
    let made = c.in_ok-text.ensures in
    let text_is : c.as_bytes-bytes.result.now ≡ program c.args.seed c.args.loops = cc in
    generated c.args.seed c.args.loops (length c.as_bytes-bytes.result.now) c.as_bytes-bytes.result.now c.in_ok-line.line.items c.in_ok-said.said text_is refl
    c.in_ok-line.ensures c.in_ok-said.ensures c.with_line.result c.with_line.ensures
