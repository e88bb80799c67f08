use Rattle.std.proofs.Common.{◌≡◌, ◌∙◌, true, false, not, refl, sym, ap}
use Rattle.std.proofs.lemmas.Slice.Eq.{slice_eq-Decides}
use Rattle.std.proofs.lemmas.Bool.Decides.{Decides-eqb}
use Rattle.l2_derivation_file.proofs.Files.{end_kept, end_not_taken, end_taken, equal_lines}
use Rattle.l2_derivation_file.proofs.reading.Reading.take_end.Goals as goal

pub returns-then-ne-clause-bad : goal.returns-then-ne-clause-bad
returns-then-ne-clause-bad c = λ bad.
    end_not_taken c.args.self.now c.args.line.now c.requires.stage c.requires.none (λ same.
    let equal = (slice_eq-Decides Decides-eqb c.args.line.now c.as_slice.result.now _ refl).1 (same ∙ sym c.as_slice.ensures) in
    let no : true ≡ false = c.if-ne.ensures ∙ ap not equal in
    cc)

pub returns-clause-ok : goal.returns-clause-ok
returns-clause-ok c =
    let equal = (slice_eq-Decides Decides-eqb c.args.line.now c.as_slice.result.now _ refl).0 (equal_lines _ c.if-ne.ensures) in
    end_taken c.args.self.now c.args.line.now c.requires.stage c.requires.kept c.requires.none (equal ∙ c.as_slice.ensures)

pub returns-clause-kept : goal.returns-clause-kept
returns-clause-kept c = end_kept c.args.self.now c.requires.stage c.requires.kept c.requires.none
