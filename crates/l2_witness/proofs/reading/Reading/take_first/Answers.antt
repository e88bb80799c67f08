use Rattle.std.proofs.Common.{◌≡◌, ◌++◌, Err, ap}
use Rattle.l2_lines.specs.Lines.{IsLine, ended}
use Rattle.l2_witness.specs.declared.reading.LineError.TheVariants.{Bad}
use Rattle.l2_witness.proofs.Files.{bad_line, open_line}
use Rattle.l2_witness.specs.Read.{seen}
use Rattle.l2_witness.proofs.reading.Reading.take_first.Goals as goal

pub returns-in_default-clause-bad : goal.returns-in_default-clause-bad
returns-in_default-clause-bad c = λ _. open_line (seen c.args.self.now) c.args.text.now c.requires.some c.in_default.ensures

pub returns-in-Err-clause-bad : goal.returns-in-Err-clause-bad
returns-in-Err-clause-bad c = λ failed.
    let cut : IsLine c.in-Some.cut.line.now × (c.args.text.now ≡ ended c.in-Some.cut.line.now ++ c.in-Some.cut.rest.now) = c.in-Some.ensures in
    let error : c.in-Err.error ≡ Bad = cc in
    bad_line (seen c.args.self.now) c.args.text.now c.in-Some.cut.line.now c.in-Some.cut.rest.now cut.0 cut.1 (c.in-Err.ensures.bad (ap Err error))
