use Rattle.std.proofs.Common.{◌≡◌, ◌++◌, ◌∷◌, [], ◌∙◌, Err, List, ℤ, false, true, sym, ap, drop, map}
use Rattle.std.specs.List.{All}
use Rattle.std.specs.Fmt.{decimal, signed_decimal}
use Rattle.l2_cnf.specs.Steps.{Step}
use Rattle.l2_derivation_file.specs.Cursor.{left}
use Rattle.l2_cert.specs.Words.{Word}
use Rattle.l2_derivation_file.specs.declared.steps.LineError.TheVariants.{Bad}
use Rattle.l2_cert.specs.Certificate.{IsLiteral, IsNumber, IsStep, step_line}
use Rattle.l2_cert.proofs.Numerals.{literal_is_not_zero, number_is_not_zero, same_literal, same_number}
use Rattle.l2_cert.proofs.Repeats.{same_items}
use Rattle.l2_derivation_file.proofs.steps.read_step.Goals as goal

-- what stands behind the clause of a step
behind_clause : (line behind rest : List Word) (number : Word) (clause : List ℤ) (s : Step) → line ≡ number ∷ behind → All IsLiteral clause → behind ≡ map signed_decimal clause ++ decimal 0 ∷ rest → IsStep s → line ≡ step_line s → rest ≡ map decimal s.hints ++ decimal 0 ∷ []
behind_clause line behind rest number clause s read all so fits is =
    (same_items IsLiteral signed_decimal (decimal 0) literal_is_not_zero same_literal clause s.clause rest (map decimal s.hints ++ decimal 0 ∷ []) all fits.clause (sym so ∙ ap (drop 1) (sym read ∙ is))).1

pub returns-in-Err-read_hints-clause-bad : goal.returns-in-Err-read_hints-clause-bad
returns-in-Err-read_hints-clause-bad c = λ failed s fits is.
    let error : c.in-Err-read_hints.error ≡ Bad = cc in
    let number = c.in-Some.number in
    let clause = c.in-Ok.ensures.ok in
    let hints = behind_clause (left c.args.words) (left number.rest) (left c.in-Ok.behind) (decimal number.value) c.read_clause.new.clause.items s c.in-Some.ensures.2 clause.0 clause.1 fits is in
    c.in-Err-read_hints.ensures.bad (ap Err error) s.hints [] fits.hints hints

pub returns-else-over-clause-bad : goal.returns-else-over-clause-bad
returns-else-over-clause-bad c = λ failed s fits is.
    let number = c.in-Some.number in
    let clause = c.in-Ok.ensures.ok in
    let read = c.in-Ok-read_hints.ensures.ok in
    let hints = behind_clause (left c.args.words) (left number.rest) (left c.in-Ok.behind) (decimal number.value) c.read_clause.new.clause.items s c.in-Some.ensures.2 clause.0 clause.1 fits is in
    let none : left c.in-Ok-read_hints.behind ≡ [] = (same_items IsNumber decimal (decimal 0) number_is_not_zero same_number c.read_hints.new.hints.items s.hints (left c.in-Ok-read_hints.behind) [] read.0 fits.hints (sym read.1 ∙ hints)).1 in
    let over : true ≡ false = sym (c.over.ensures.1 none) ∙ c.if-over.false in
    cc
