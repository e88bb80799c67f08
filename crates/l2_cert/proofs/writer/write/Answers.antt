use Rattle.std.proofs.Common.{rules, ◌≡◌, ◌++◌, ◌∷◌, [], ◌∙◌, length, ap}
use Rattle.l2_cert.specs.Words.{line_of, text_of}
use Rattle.l2_cert.specs.Certificate.{goals_line, goals_lines, head_lines, loops_lines}
use Rattle.l2_cert.proofs.Written.{whole_text}
use Rattle.l2_cert.proofs.writer.write.Goals as goal

pub returns : goal.returns
returns c =
    let cert = c.args.cert.now in
    let head : c.push_head.new.bytes.items ≡ text_of (head_lines cert (length cert.point)) = search rules in
    let loops : c.push_all_loops.new.bytes.items ≡ text_of (head_lines cert (length cert.point)) ++ text_of (loops_lines 1 cert.point cert.ranks) = search rules in
    let count : c.push_numbered.new.bytes.items ≡ (text_of (head_lines cert (length cert.point)) ++ text_of (loops_lines 1 cert.point cert.ranks)) ++ line_of (goals_line (length cert.goals)) = search rules in
    let goals : c.push_all_goals.new.bytes.items ≡ ((text_of (head_lines cert (length cert.point)) ++ text_of (loops_lines 1 cert.point cert.ranks)) ++ line_of (goals_line (length cert.goals))) ++ text_of (goals_lines 1 cert.goals) = search rules in
    let last : c.extend_from_slice.new.self.items ≡ c.push_all_goals.new.bytes.items ++ 101 ∷ 110 ∷ 100 ∷ 10 ∷ [] = search rules in
    last ∙ ap (λ b. b ++ 101 ∷ 110 ∷ 100 ∷ 10 ∷ []) goals ∙ whole_text cert
