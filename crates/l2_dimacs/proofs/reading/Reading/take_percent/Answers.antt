use Rattle.std.proofs.Common.{◌≡◌, ◌∙◌, true, false, not, Bool, refl, sym, ap}
use Rattle.std.proofs.lemmas.Slice.Eq.{slice_eq-Decides}
use Rattle.std.proofs.lemmas.Bool.Decides.{Decides-eqb}
use Rattle.l2_dimacs.specs.Tokens.{token}
use Rattle.l2_dimacs.proofs.Whole.{percent_goes_at, percent_stops_at}
use Rattle.l2_dimacs.proofs.reading.Reading.take_percent.Goals as goal

pub returns-then-ne-clause-bad : goal.returns-then-ne-clause-bad
returns-then-ne-clause-bad c = λ bad.
    percent_stops_at c.args.self.now (token c.args.line c.args.word.now) c.requires.stage c.requires.kept c.requires.none (λ same.
    let equal = (slice_eq-Decides Decides-eqb c.args.word.now c.as_slice.result.now _ refl).1 (same ∙ sym c.as_slice.ensures) in
    let no : true ≡ false = c.if-ne.ensures ∙ ap not equal in
    cc)

pub returns-clause-ok : goal.returns-clause-ok
returns-clause-ok c =
    let equal = (slice_eq-Decides Decides-eqb c.args.word.now c.as_slice.result.now _ refl).0 (is_equal _ c.if-ne.ensures) in
    percent_goes_at c.args.self.now (token c.args.line c.args.word.now) c.requires.stage c.requires.kept c.requires.none (equal ∙ c.as_slice.ensures)
  where
    is_equal : (x : Bool) → false ≡ not x → x ≡ true
    is_equal true is = refl
    is_equal false is = is
