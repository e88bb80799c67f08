use Rattle.std.proofs.Common.{rules, ◌≡◌, ◌++◌, ◌∙◌, length, ap}
use Rattle.l2_cert.specs.Words.{line_of}
use Rattle.l2_cert.specs.Certificate.{checks_line, copies_line, first_line, kind_line, loops_line}
use Rattle.l2_cert.proofs.Written.{head_written}
use Rattle.l2_cert.proofs.writer.push_head.Goals as goal

pub returns : goal.returns
returns c =
    let cert = c.args.cert.now in
    let old = c.args.bytes.now.items in
    let first : c.extend_from_slice.new.self.items ≡ old ++ line_of first_line = search rules in
    let kind : c.extend_from_slice-2.new.self.items ≡ (old ++ line_of first_line) ++ line_of (kind_line cert.kind) = search rules in
    let checks : c.extend_from_slice-3.new.self.items ≡ ((old ++ line_of first_line) ++ line_of (kind_line cert.kind)) ++ line_of (checks_line cert.overflow) = search rules in
    let copies : c.push_numbered.new.bytes.items ≡ (((old ++ line_of first_line) ++ line_of (kind_line cert.kind)) ++ line_of (checks_line cert.overflow)) ++ line_of (copies_line cert.k) = search rules in
    let loops : c.push_numbered-2.new.bytes.items ≡ c.push_numbered.new.bytes.items ++ line_of (loops_line (length cert.point)) = search rules in
    loops ∙ ap (λ b. b ++ line_of (loops_line (length cert.point))) copies ∙ head_written old cert
