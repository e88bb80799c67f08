use Rattle.std.proofs.Common.{rules, ◌≡◌, ◌∙◌, length, ap}
use Rattle.std.proofs.lemmas.Result.{on_ok_weaker}
use Rattle.l2_cert.specs.Cursor.{left}
use Rattle.l2_cert.specs.Certificate.{ranks_line}
use Rattle.l2_cert.specs.Machine.{forms_left}
use Rattle.l2_cert.specs.Reading.{cert_of, state_of}
use Rattle.l2_cert.proofs.reading.Reading.take_ranks.Goals as goal

pub returns-clause-ok : goal.returns-clause-ok
returns-clause-ok c =
    let told = c.in-Some.ensures in
    let may = (c.most_components-most.ensures c.in-Some.components).0 told.0 in
    let line : left c.args.words ≡ ranks_line (length c.args.self.now.point) c.in-Some.components = search rules in
    on_ok_weaker c.go_to_components.result (λ goes. let placed : state_of c.go_to_components.new.self ≡ forms_left c.args.self.now.left (cert_of c.args.self.now) c.in-Some.components c.new.result.items = goes in
    (c.in-Some.components, may.0, may.1, line, placed ∙ ap (forms_left c.args.self.now.left (cert_of c.args.self.now) c.in-Some.components) c.new.ensures.items)) c.go_to_components.ensures.ok
