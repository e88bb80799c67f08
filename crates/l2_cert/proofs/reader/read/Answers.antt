use Rattle.std.proofs.Common.{◌≡◌, ◌≢◌, ◌<◌, ◌++◌, ◌∷◌, [], ◌∙◌, Err, List, ℕ, length, map, arith, ap, sym, subst, rules, append-nil}
use Rattle.std.proofs.lemmas.Bool.{eqb-false}
use Rattle.std.proofs.lemmas.List.{length-append, length-map}
use Rattle.std.specs.List.{concat}
use Rattle.l2_lines.specs.Lines.{IsFirstBad, ended, lines_of}
use Rattle.l2_lines.proofs.Cuts.{rest_shorter}
use Rattle.l2_cert.specs.declared.cert.CertError.TheVariants.{BadLine}
use Rattle.l2_cert.specs.declared.reading.Stage.TheVariants.{Over}
use Rattle.l2_cert.specs.Words.{line_of}
use Rattle.l2_cert.specs.Certificate.{IsFile, file_lines}
use Rattle.l2_cert.specs.Kept.{seen, seen_at}
use Rattle.l2_cert.specs.Machine.{at, Done}
use Rattle.l2_cert.specs.Reading.{ReadsLine, StopsAt, cert_of, place_at, state_of}
use Rattle.l2_cert.proofs.Bytes.{WasRead, bad_is_no_file, bytes_more, empty, first_bad, lines_more, not_whole, only_one, read_more, stops_there, too_early}
use Rattle.l2_cert.proofs.reader.read.Goals as goal
use Rattle.l2_cert.proofs.reader.read.Goals.{In-Err-Bad, After-loop-rest}

-- the line that the loop stops at is the first bad one
bad_there : (c : In-Err-Bad) → IsFirstBad IsFile (lines_of c.args.bytes.now) c.loop-rest.line
bad_there c =
    let s = state_of c.loop-rest.reading in
    let full = eqb-false (length c.loop-rest.rest.now) 0 (sym c.loop-rest-test.ensures) in
    let some : 0 < length c.loop-rest.rest.now = omega (arith, full) in
    let stops : StopsAt s c.loop-rest.rest.now = c.in-Err-Bad.ensures.bad (ap Err c.in-Err-Bad.field-0-is) in
    first_bad c.args.bytes.now s c.loop-rest.line (lines_of c.loop-rest.rest.now) c.loop-rest.invariant.lines c.loop-rest.invariant.counted c.loop-rest.invariant.read (stops_there s c.loop-rest.rest.now some c.loop-rest.invariant.read stops)

-- a line that is named twice is one line
named : (bytes : List ℕ) (line other : ℕ) → BadLine line ≡ BadLine other → IsFirstBad IsFile (lines_of bytes) line → IsFirstBad IsFile (lines_of bytes) other
named bytes line other is first = let same : line ≡ other = cc in subst (IsFirstBad IsFile (lines_of bytes)) same first

pub returns-in-Err-Bad-clause-bad_line : goal.returns-in-Err-Bad-clause-bad_line
returns-in-Err-Bad-clause-bad_line c = λ line is.
    let same : BadLine c.loop-rest.line ≡ BadLine line = cc in
    named c.args.bytes.now c.loop-rest.line line same (bad_there (goal.at.returns-in-Err-Bad-clause-bad_line c).In-Err-Bad)

pub returns-in-Err-Bad-clause-exactly : goal.returns-in-Err-Bad-clause-exactly
returns-in-Err-Bad-clause-exactly c = λ d fits is. absurd (bad_is_no_file c.args.bytes.now c.loop-rest.line d (bad_there (goal.at.returns-in-Err-Bad-clause-exactly c).In-Err-Bad) fits is)

pub loop-rest-preserved : goal.loop-rest-preserved
loop-rest-preserved c =
    let read : ReadsLine (state_of c.loop-rest.reading) (state_of c.take_line.new.self) c.loop-rest.rest.now c.in-Ok.more.now = c.in-Ok.ensures.ok in
    let old = c.loop-rest.invariant in
    let more = read_more (state_of c.loop-rest.reading) (state_of c.take_line.new.self) read.0 old.read read.3 in
    let lines = map line_of (seen (state_of c.loop-rest.reading)) in
    record {
      bytes = bytes_more c.args.bytes.now c.loop-rest.rest.now read.0 c.in-Ok.more.now lines old.bytes read.2 ∙ ap (λ ls. concat ls ++ c.in-Ok.more.now) (sym more.1);
      lines = lines_more c.args.bytes.now c.loop-rest.rest.now read.0 c.in-Ok.more.now lines old.lines read.1 read.2 ∙ ap (λ ls. ls ++ lines_of c.in-Ok.more.now) (sym more.1);
      counted = omega (arith, old.counted, ap length more.1, length-append lines (ended read.0 ∷ []), length-map (seen (state_of c.loop-rest.reading)) line_of, length-map (seen (state_of c.take_line.new.self)) line_of);
      read = more.0;
      within = omega (arith, old.within, rest_shorter c.loop-rest.rest.now read.0 c.in-Ok.more.now read.2);
    }

-- behind the loop nothing is left
all_read : (c : After-loop-rest) → lines_of c.args.bytes.now ≡ map line_of (seen (state_of c.loop-rest.reading)) ++ []
all_read c =
    let none : length c.loop-rest.rest.now ≡ 0 = search rules in
    c.loop-rest.invariant.lines ∙ ap (λ rest. map line_of (seen (state_of c.loop-rest.reading)) ++ lines_of rest) (empty c.loop-rest.rest.now none)

pub returns-in-Over-clause-exactly : goal.returns-in-Over-clause-exactly
returns-in-Over-clause-exactly c = λ d fits is.
    let r = c.loop-rest.reading in
    let read : WasRead (at Done (cert_of r)) = subst (λ stage. WasRead (at (place_at stage r) (cert_of r))) c.in-Over.is c.loop-rest.invariant.read in
    let lines : lines_of c.args.bytes.now ≡ map line_of (file_lines (cert_of r)) =
    all_read (goal.at.returns-in-Over-clause-exactly c).After-loop-rest ∙ append-nil (map line_of (seen (state_of r))) ∙ ap (λ stage. map line_of (seen_at (place_at stage r) (cert_of r))) c.in-Over.is in
    c.into_cert.ensures ∙ only_one c.args.bytes.now (cert_of r) d read lines fits is

-- the text ends before its last line
early : (c : After-loop-rest) → c.loop-rest.reading.stage ≢ Over → IsFirstBad IsFile (lines_of c.args.bytes.now) c.loop-rest.line
early c before = first_bad c.args.bytes.now (state_of c.loop-rest.reading) c.loop-rest.line [] (all_read c) c.loop-rest.invariant.counted c.loop-rest.invariant.read (not_whole (state_of c.loop-rest.reading) c.loop-rest.invariant.read (too_early c.loop-rest.reading before))

pub returns-in_default : goal.returns-in_default
returns-in_default c =
    let first = early (goal.at.returns-in_default c).After-loop-rest c.in_default.not-Over in
    record {
      ok = tt;
      bad_line = λ line is. let same : BadLine c.loop-rest.line ≡ BadLine line = cc in named c.args.bytes.now c.loop-rest.line line same first;
      exactly = λ d fits is. absurd (bad_is_no_file c.args.bytes.now c.loop-rest.line d first fits is);
    }
