use Rattle.std.proofs.Common.{◌≡◌, ◌∙◌, true, false, not, codes, refl, sym, ap}
use Rattle.std.proofs.lemmas.Slice.Eq.{slice_eq-Decides}
use Rattle.std.proofs.lemmas.Bool.Decides.{Decides-eqb}
use Rattle.l2_lines.proofs.Cuts.{same_line}
use Rattle.l2_witness.proofs.reading.Reading.take_header.Goals as goal

pub returns-then-ne-clause-bad : goal.returns-then-ne-clause-bad
returns-then-ne-clause-bad c = λ is.
    let same : c.args.line.now ≡ c.as_slice.result.now = same_line c.args.line.now (codes "2ls values 1") is ∙ sym c.as_slice.ensures in
    let equal = (slice_eq-Decides Decides-eqb c.args.line.now c.as_slice.result.now _ refl).1 same in
    let no : true ≡ false = c.if-ne.ensures ∙ ap not equal in
    cc
