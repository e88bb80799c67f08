use Rattle.std.proofs.Common.{◌≡◌, ◌≢◌, ◌++◌, ◌∷◌, [], ◌∙◌, Err, List, ℕ, length, arith, ap, sym, subst, rules}
use Rattle.std.proofs.lemmas.List.{length-append}
use Rattle.std.specs.List.{concat}
use Rattle.l2_lines.specs.Lines.{IsFirstBad, ended, lines_of}
use Rattle.l2_lines.proofs.Cuts.{rest_shorter}
use Rattle.l2_witness.specs.declared.reading.Stage.TheVariants.{Over}
use Rattle.l2_witness.specs.declared.values.ValuesError.TheVariants.{BadLine}
use Rattle.l2_witness.specs.ValuesFile.{IsFile}
use Rattle.l2_witness.specs.Read.{ReadsLine, seen}
use Rattle.l2_witness.proofs.Files.{bad_is_no_file, bytes_more, empty, first_bad, lines_more, only_values, unfinished}
use Rattle.l2_witness.proofs.read.read_values.Goals as goal
use Rattle.l2_witness.proofs.read.read_values.Goals.{In-Err-Bad, After-loop-rest}

-- the line that the loop stops at is the first bad one
stops_there : (c : In-Err-Bad) → IsFirstBad IsFile (lines_of c.args.bytes.now) c.loop-rest.line
stops_there c = first_bad c.args.bytes.now c.loop-rest.reading c.loop-rest.line (lines_of c.loop-rest.rest.now) c.loop-rest.invariant.lines c.loop-rest.invariant.counted c.loop-rest.invariant.keeps (c.in-Err-Bad.ensures.bad (ap Err c.in-Err-Bad.field-0-is))

-- a line that is named twice is one line
named : (bytes : List ℕ) (line other : ℕ) → BadLine line ≡ BadLine other → IsFirstBad IsFile (lines_of bytes) line → IsFirstBad IsFile (lines_of bytes) other
named bytes line other is first = let same : line ≡ other = cc in subst (IsFirstBad IsFile (lines_of bytes)) same first

pub returns-in-Err-Bad-clause-bad_line : goal.returns-in-Err-Bad-clause-bad_line
returns-in-Err-Bad-clause-bad_line c = λ line is.
    let same : BadLine c.loop-rest.line ≡ BadLine line = cc in
    named c.args.bytes.now c.loop-rest.line line same (stops_there (goal.at.returns-in-Err-Bad-clause-bad_line c).In-Err-Bad)

pub returns-in-Err-Bad-clause-exactly : goal.returns-in-Err-Bad-clause-exactly
returns-in-Err-Bad-clause-exactly c = λ turns choices range is. absurd (bad_is_no_file c.args.bytes.now c.loop-rest.line turns choices (stops_there (goal.at.returns-in-Err-Bad-clause-exactly c).In-Err-Bad) range is)

pub loop-rest-preserved : goal.loop-rest-preserved
loop-rest-preserved c =
    let read : ReadsLine c.loop-rest.reading c.take_first.new.self c.loop-rest.rest.now c.in-Ok.more.now = c.in-Ok.ensures.ok in
    let old = c.loop-rest.invariant in
    record {
      bytes = bytes_more c.args.bytes.now c.loop-rest.rest.now read.0 c.in-Ok.more.now (seen c.loop-rest.reading) old.bytes read.2 ∙ ap (λ lines. concat lines ++ c.in-Ok.more.now) (sym read.3);
      lines = lines_more c.args.bytes.now c.loop-rest.rest.now read.0 c.in-Ok.more.now (seen c.loop-rest.reading) old.lines read.1 read.2 ∙ ap (λ lines. lines ++ lines_of c.in-Ok.more.now) (sym read.3);
      counted = omega (arith, old.counted, ap length read.3, length-append (seen c.loop-rest.reading) (ended read.0 ∷ []));
      keeps = c.in-Ok.ensures.keeps;
      within = omega (arith, old.within, rest_shorter c.loop-rest.rest.now read.0 c.in-Ok.more.now read.2);
    }

-- behind the loop nothing is left
all_read : (c : After-loop-rest) → lines_of c.args.bytes.now ≡ seen c.loop-rest.reading ++ []
all_read c =
    let none : length c.loop-rest.rest.now ≡ 0 = search rules in
    c.loop-rest.invariant.lines ∙ ap (λ rest. seen c.loop-rest.reading ++ lines_of rest) (empty c.loop-rest.rest.now none)

pub returns-in-Over-clause-exactly : goal.returns-in-Over-clause-exactly
returns-in-Over-clause-exactly c = λ turns choices range is.
    let reading = c.loop-rest.reading in
    let whole = all_read (goal.at.returns-in-Over-clause-exactly c).After-loop-rest in
    let same = only_values c.args.bytes.now reading.stage reading.turns turns reading.choices.items choices c.in-Over.is whole c.loop-rest.invariant.keeps.in_range range is in
    let listed : c.new.result ≡ reading.choices.items = c.new.ensures in
    (same.0, listed ∙ same.1)

-- the text ends before its last line
too_early : (c : After-loop-rest) → c.loop-rest.reading.stage ≢ Over → IsFirstBad IsFile (lines_of c.args.bytes.now) c.loop-rest.line
too_early c early = first_bad c.args.bytes.now c.loop-rest.reading c.loop-rest.line [] (all_read c) c.loop-rest.invariant.counted c.loop-rest.invariant.keeps (unfinished c.loop-rest.reading.stage c.loop-rest.reading.turns c.loop-rest.reading.choices.items early)

pub returns-in_default : goal.returns-in_default
returns-in_default c =
    let first = too_early (goal.at.returns-in_default c).After-loop-rest c.in_default.not-Over in
    record {
      ok = tt;
      bad_line = λ line is. let same : BadLine c.loop-rest.line ≡ BadLine line = cc in named c.args.bytes.now c.loop-rest.line line same first;
      exactly = λ turns choices range is. absurd (bad_is_no_file c.args.bytes.now c.loop-rest.line turns choices first range is);
    }
