use Rattle.std.proofs.Common.{rules, ◌≡◌, ◌++◌, ◌∙◌, ◌+◌, ◌<◌, suc, drop, length, sym, ap}
use Rattle.l2_templates.specs.Points.{loop_at}
use Rattle.l2_cert.specs.Words.{text_of}
use Rattle.l2_cert.specs.Certificate.{entry_lines, loops_lines}
use Rattle.l2_cert.proofs.Written.{entry_text}
use Rattle.l2_cert.proofs.writer.push_all_loops.Goals as goal

pub loop-i-preserved : goal.loop-i-preserved
loop-i-preserved c =
    let point = c.args.cert.now.point in
    let ranks = c.args.cert.now.ranks in
    let i = c.loop-i.i in
    let within : i < length point = search rules in
    let pushed : c.push_entry.new.bytes.items ≡ c.loop-i.bytes.items ++ text_of (entry_lines (suc i) (loop_at point i) (drop i ranks)) = search rules in
    c.loop-i.invariant ∙ entry_text c.loop-i.bytes.items i point ranks within ∙ ap (λ b. b ++ text_of (loops_lines (suc (i + 1)) (drop (i + 1) point) (drop (i + 1) ranks))) (sym pushed)
