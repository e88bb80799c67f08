use Rattle.std.proofs.Common.{rules, ◌≡◌, ◌∙◌, ◌+◌, ◌-◌, inr, suc, length, ap, arith}
use Rattle.std.proofs.lemmas.Result.{on_ok_weaker}
use Rattle.l2_cert.specs.Cursor.{left}
use Rattle.l2_cert.specs.declared.lines.LoopLine.TheVariants.{Rows}
use Rattle.l2_cert.specs.Certificate.{rows_line}
use Rattle.l2_cert.specs.Machine.{rows_left}
use Rattle.l2_cert.specs.Reading.{TellsLoop, cert_of, state_of}
use Rattle.l2_cert.proofs.reading.Reading.take_loop.Goals as goal

pub returns-in-Rows-clause-ok : goal.returns-in-Rows-clause-ok
returns-in-Rows-clause-ok c = on_ok_weaker c.go_to_rows.result
    (λ goes. let some : c.args.self.now.left ≡ suc (c.args.self.now.left - 1) = omega (arith, c.requires.some) in
    let placed : state_of c.go_to_rows.new.self ≡ rows_left (c.args.self.now.left - 1) (cert_of c.args.self.now) c.from-self.result c.new.result = goes in
    let told : TellsLoop (length c.args.self.now.point + 1) (left c.args.words) (Rows c.in-Rows.rows) = search rules in
    let index : length c.args.self.now.point + 1 ≡ suc (length c.args.self.now.point) = omega arith in
    (c.args.self.now.left - 1, some, inr (c.in-Rows.rows, told.0, told.1 ∙ ap (λ i. rows_line i c.in-Rows.rows) index, placed ∙ (λ i. rows_left (c.args.self.now.left - 1) (cert_of c.args.self.now) (c.from-self.ensures i) (c.new.ensures i)))))
    c.go_to_rows.ensures.ok
