use Rattle.std.proofs.Common.{rules, ◌≡◌, ◌++◌, ◌∙◌, ◌+◌, ◌<◌, [], suc, get_or, length, sym, ap, arith, append_assoc}
use Rattle.l2_templates.specs.Points.{loop_at}
use Rattle.l2_cert.specs.Words.{text_of}
use Rattle.l2_cert.specs.Certificate.{loop_lines, rank_lines}
use Rattle.l2_cert.proofs.Written.{ranked, text_of-append}
use Rattle.l2_cert.proofs.writer.push_entry.Goals as goal

pub overflow_add-i : goal.overflow_add-i
overflow_add-i c = record { fits = omega (arith, c.requires.within, c.requires.few) }

pub returns-in_ok-push_ranking : goal.returns-in_ok-push_ranking
returns-in_ok-push_ranking c =
    let i = c.args.i in
    let p = loop_at c.args.cert.now.point i in
    let ranks = c.args.cert.now.ranks in
    let forms = get_or ranks i [] in
    let within : i < length ranks = search rules in
    let index : i + 1 ≡ suc i = omega arith in
    let first : c.push_loop.new.bytes.items ≡ c.args.bytes.now.items ++ text_of (loop_lines (i + 1) p) = search rules in
    let second : c.push_ranking.new.bytes.items ≡ c.push_loop.new.bytes.items ++ text_of (rank_lines (i + 1) forms) = search rules in
    second ∙ ap (λ b. b ++ text_of (rank_lines (i + 1) forms)) first
    ∙ append_assoc c.args.bytes.now.items (text_of (loop_lines (i + 1) p)) (text_of (rank_lines (i + 1) forms))
    ∙ ap (λ n. c.args.bytes.now.items ++ (text_of (loop_lines n p) ++ text_of (rank_lines n forms))) index
    ∙ ap (λ t. c.args.bytes.now.items ++ t) (sym (text_of-append (loop_lines (suc i) p) (rank_lines (suc i) forms)) ∙ ap text_of (sym (ranked i p ranks [] within)))
