use Rattle.std.proofs.Common.{rules, ◌≡◌, ◌<◌, ◌∙◌, Err, List, ℕ, length, arith, ap, sym, subst}
use Rattle.std.proofs.lemmas.Bool.{eqb-false}
use Rattle.l2_lines.specs.Lines.{IsFirstBad, lines_of}
use Rattle.l2_lines.proofs.Cuts.{rest_shorter}
use Rattle.l2_cert.specs.Certificate.{IsGoal}
use Rattle.l2_derivation_file.specs.declared.reader.FileError.TheVariants.{BadLine}
use Rattle.l2_derivation_file.specs.File.{IsFile, spelling}
use Rattle.l2_derivation_file.specs.Reading.{ReadsLine}
use Rattle.l2_derivation_file.proofs.Files.{bad_is_no_file, ended_early, is_spelt, only_steps, read_more, stopped}
use Rattle.l2_derivation_file.proofs.reader.read.Goals as goal
use Rattle.l2_derivation_file.proofs.reader.read.Goals.{In-Err-Bad, After-loop-rest}

-- the line that the loop stops at is the first bad one
bad_there : (c : In-Err-Bad) → IsFirstBad IsFile (lines_of c.args.bytes.now) c.loop-rest.line
bad_there c =
    let full = eqb-false (length c.loop-rest.rest.now) 0 (sym c.loop-rest-test.ensures) in
    let some : 0 < length c.loop-rest.rest.now = omega (arith, full) in
    stopped c.args.bytes.now c.loop-rest.rest.now c.loop-rest.line c.loop-rest.reading c.loop-rest.invariant.read some (c.in-Err-Bad.ensures.bad (ap Err c.in-Err-Bad.field-0-is))

-- a line that is named twice is one line
named : (bytes : List ℕ) (line other : ℕ) → BadLine line ≡ BadLine other → IsFirstBad IsFile (lines_of bytes) line → IsFirstBad IsFile (lines_of bytes) other
named bytes line other is first = let same : line ≡ other = cc in subst (IsFirstBad IsFile (lines_of bytes)) same first

pub returns-in-Err-Bad-clause-bad_line : goal.returns-in-Err-Bad-clause-bad_line
returns-in-Err-Bad-clause-bad_line c = λ line is.
    let same : BadLine c.loop-rest.line ≡ BadLine line = cc in
    named c.args.bytes.now c.loop-rest.line line same (bad_there (goal.at.returns-in-Err-Bad-clause-bad_line c).In-Err-Bad)

pub returns-in-Err-Bad-clause-exactly : goal.returns-in-Err-Bad-clause-exactly
returns-in-Err-Bad-clause-exactly c = λ steps fits is. absurd (bad_is_no_file c.args.bytes.now c.loop-rest.line steps (bad_there (goal.at.returns-in-Err-Bad-clause-exactly c).In-Err-Bad) fits is)

pub loop-rest-preserved : goal.loop-rest-preserved
loop-rest-preserved c =
    let read : ReadsLine c.loop-rest.reading c.take_line.new.self c.loop-rest.rest.now c.in-Ok.more.now = c.in-Ok.ensures.ok in
    let old = c.loop-rest.invariant in
    record {
      read = read_more c.args.bytes.now c.loop-rest.rest.now c.in-Ok.more.now c.loop-rest.line c.loop-rest.reading c.take_line.new.self old.read read c.in-Ok.ensures.kept;
      within = omega (arith, old.within, rest_shorter c.loop-rest.rest.now read.0 c.in-Ok.more.now read.2);
    }

-- behind the loop nothing is left
nothing : (c : After-loop-rest) → length c.loop-rest.rest.now ≡ 0
nothing c = search rules

pub returns-then-is_whole-clause-ok : goal.returns-then-is_whole-clause-ok
returns-then-is_whole-clause-ok c =
    let none = nothing (goal.at.returns-then-is_whole-clause-ok c).After-loop-rest in
    subst (λ s. IsGoal s × (c.args.bytes.now ≡ spelling s)) (sym c.into_steps.ensures)
    (is_spelt c.args.bytes.now c.loop-rest.rest.now c.loop-rest.line c.loop-rest.reading c.loop-rest.invariant.read none c.if-is_whole.ensures)

pub returns-then-is_whole-clause-exactly : goal.returns-then-is_whole-clause-exactly
returns-then-is_whole-clause-exactly c = λ steps fits is.
    let none = nothing (goal.at.returns-then-is_whole-clause-exactly c).After-loop-rest in
    c.into_steps.ensures ∙ only_steps c.args.bytes.now c.loop-rest.rest.now c.loop-rest.line c.loop-rest.reading c.loop-rest.invariant.read none c.if-is_whole.ensures steps fits is

pub returns-else-is_whole-clause-bad_line : goal.returns-else-is_whole-clause-bad_line
returns-else-is_whole-clause-bad_line c = λ line is.
    let none = nothing (goal.at.returns-else-is_whole-clause-bad_line c).After-loop-rest in
    let same : BadLine c.loop-rest.line ≡ BadLine line = cc in
    named c.args.bytes.now c.loop-rest.line line same (ended_early c.args.bytes.now c.loop-rest.rest.now c.loop-rest.line c.loop-rest.reading c.loop-rest.invariant.read none c.if-is_whole.ensures)

pub returns-else-is_whole-clause-exactly : goal.returns-else-is_whole-clause-exactly
returns-else-is_whole-clause-exactly c = λ steps fits is.
    let none = nothing (goal.at.returns-else-is_whole-clause-exactly c).After-loop-rest in
    absurd (bad_is_no_file c.args.bytes.now c.loop-rest.line steps (ended_early c.args.bytes.now c.loop-rest.rest.now c.loop-rest.line c.loop-rest.reading c.loop-rest.invariant.read none c.if-is_whole.ensures) fits is)
