use Rattle.std.proofs.Common.{◌≡◌, ◌++◌, ◌∙◌, true, false, codes, refl, sym}
use Rattle.std.specs.Fmt.{signed_decimal}
use Rattle.std.proofs.lemmas.Slice.Eq.{slice_eq-Decides}
use Rattle.std.proofs.lemmas.Bool.Decides.{Decides-eqb}
use Rattle.l2_lines.proofs.Cuts.{same_line}
use Rattle.l2_witness.proofs.reading.Reading.take_choice.Goals as goal

pub returns-in_default-clause-last : goal.returns-in_default-clause-last
returns-in_default-clause-last c = λ _ is.
    let same : c.args.line.now ≡ c.as_slice.result.now = same_line c.args.line.now (codes "end") is ∙ sym c.as_slice.ensures in
    let equal = (slice_eq-Decides Decides-eqb c.args.line.now c.as_slice.result.now _ refl).1 same in
    let no : false ≡ true = c.if-eq.ensures ∙ equal in
    cc

pub returns-in_default-clause-bad : goal.returns-in_default-clause-bad
returns-in_default-clause-bad c = λ _ choice fits is. c.in_default.ensures choice fits (same_line c.args.line.now (codes "choice " ++ signed_decimal choice) is)
