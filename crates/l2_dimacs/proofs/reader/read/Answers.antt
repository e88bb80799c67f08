use Rattle.std.proofs.Common.{◌≡◌, ℕ, List, Err, length, sym, ap, subst, arith}
use Rattle.l2_cnf.specs.Logic.{AllWithin}
use Rattle.l2_dimacs.specs.declared.reader.DimacsError.TheVariants.{BadLine}
use Rattle.l2_dimacs.specs.Tokens.{token, tokens}
use Rattle.l2_dimacs.specs.Profile.{IsFile, IsRefused}
use Rattle.l2_dimacs.specs.Reading.{left}
use Rattle.l2_dimacs.proofs.Whole.{few_clauses, file_within, read_more, refused_at, refused_end, whole_file}
use Rattle.l2_dimacs.proofs.reader.read.Goals as goal
use Rattle.l2_dimacs.proofs.reader.read.Goals.{After-into_formula}

-- a line that is named twice is one line
named : (text : List ℕ) (line other : ℕ) → BadLine line ≡ BadLine other → IsRefused text line → IsRefused text other
named text line other is refused = let same : line ≡ other = cc in subst (IsRefused text) same refused

pub loop-first-preserved : goal.loop-first-preserved
loop-first-preserved c =
    let first = c.in-Some.first in
    read_more c.args.text.now (left c.loop-first.tokens) (left first.rest) (token first.line first.word.now) c.loop-first.reading c.take.new.self c.loop-first.invariant c.in-Some.ensures c.in-Ok.ensures.ok c.in-Ok.ensures.kept

pub returns-in-Err-Bad-clause-bad_line : goal.returns-in-Err-Bad-clause-bad_line
returns-in-Err-Bad-clause-bad_line c = λ line is.
    let first = c.in-Some.first in
    let same : BadLine first.line ≡ BadLine line = cc in
    named c.args.text.now first.line line same
    (refused_at c.args.text.now (left c.loop-first.tokens) (left first.rest) (token first.line first.word.now) c.loop-first.reading c.loop-first.invariant c.in-Some.ensures (c.in-Err-Bad.ensures.bad (ap Err c.in-Err-Bad.field-0-is)))

-- what was read is the formula of the whole text
formula_is : (c : After-into_formula) → IsFile c.args.text.now c.loop-first.reading.variables c.loop-first.reading.clauses
formula_is c = whole_file c.args.text.now (left c.loop-first.tokens) c.loop-first.reading c.in_default.ensures c.loop-first.invariant c.if-is_whole.ensures

pub returns-then-is_whole-clause-within : goal.returns-then-is_whole-clause-within
returns-then-is_whole-clause-within c =
    let r = c.loop-first.reading in
    let within : AllWithin r.variables r.clauses = file_within (tokens c.args.text.now) r.variables r.clauses (formula_is (goal.at.returns-then-is_whole-clause-within c).After-into_formula) in
    subst (λ v. AllWithin v c.into_formula.result.clauses) (sym c.into_formula.ensures.variables) (subst (AllWithin r.variables) (sym c.into_formula.ensures.clauses) within)

pub returns-then-is_whole-clause-few : goal.returns-then-is_whole-clause-few
returns-then-is_whole-clause-few c =
    let r = c.loop-first.reading in
    let few = few_clauses (tokens c.args.text.now) r.variables r.clauses (formula_is (goal.at.returns-then-is_whole-clause-few c).After-into_formula) in
    (omega (arith, few.0, ap length c.into_formula.ensures.clauses), omega (arith, few.1, c.into_formula.ensures.variables))

pub returns-else-is_whole-clause-bad_line : goal.returns-else-is_whole-clause-bad_line
returns-else-is_whole-clause-bad_line c = λ line is.
    let same : BadLine c.line_count.result ≡ BadLine line = cc in
    named c.args.text.now c.line_count.result line same
    (refused_end c.args.text.now (left c.loop-first.tokens) c.loop-first.reading c.line_count.result c.in_default.ensures c.loop-first.invariant c.if-is_whole.ensures c.line_count.ensures)
