use Rattle.std.proofs.Common.{◌≡◌, ◌∙◌, true, false, not, refl, sym, ap}
use Rattle.std.proofs.lemmas.Slice.Eq.{slice_eq-Decides}
use Rattle.std.proofs.lemmas.Bool.Decides.{Decides-eqb}
use Rattle.l2_derivation_file.proofs.Files.{equal_lines, header_not_taken, header_taken}
use Rattle.l2_derivation_file.proofs.reading.Reading.take_header.Goals as goal

pub returns-then-ne-clause-bad : goal.returns-then-ne-clause-bad
returns-then-ne-clause-bad c = λ bad.
    header_not_taken c.args.self.now c.args.line.now c.requires.stage (λ same.
    let equal = (slice_eq-Decides Decides-eqb c.args.line.now c.as_slice.result.now _ refl).1 (same ∙ sym c.as_slice.ensures) in
    let no : true ≡ false = c.if-ne.ensures ∙ ap not equal in
    cc)

pub returns-clause-ok : goal.returns-clause-ok
returns-clause-ok c =
    let equal = (slice_eq-Decides Decides-eqb c.args.line.now c.as_slice.result.now _ refl).0 (equal_lines _ c.if-ne.ensures) in
    header_taken c.args.self.now c.args.line.now c.requires.stage (equal ∙ c.as_slice.ensures)
