use Rattle.std.proofs.Common.{◌≡◌, ◌++◌, ◌∷◌, [], ◌∙◌, ⊎_elim, true, false, sym, ap, map, refl}
use Rattle.std.specs.Fmt.{decimal}
use Rattle.std.proofs.lemmas.Slice.Eq.{slice_eq-Decides}
use Rattle.std.proofs.lemmas.Bool.Decides.{Decides-eqb}
use Rattle.l2_derivation_file.specs.Cursor.{left}
use Rattle.l2_cert.specs.Certificate.{IsNumber}
use Rattle.l2_cert.proofs.Numerals.{number_is_not_zero, zero_word}
use Rattle.l2_cert.proofs.Repeats.{next_item, not_over}
use Rattle.l2_derivation_file.proofs.steps.read_hints.Goals as goal

pub returns-then-eq-clause-ok : goal.returns-then-eq-clause-ok
returns-then-eq-clause-ok c =
    let same : c.in-Some.first.word.now ≡ c.as_slice.result.now = (slice_eq-Decides Decides-eqb c.in-Some.first.word.now c.as_slice.result.now _ refl).0 (sym c.if-eq.ensures) in
    let word : c.in-Some.first.word.now ≡ decimal 0 = same ∙ c.as_slice.ensures ∙ sym zero_word in
    (c.loop-first.invariant.all, c.loop-first.invariant.read ∙ ap (λ l. map decimal c.loop-first.hints.items ++ l) (c.in-Some.ensures ∙ ap (λ w. w ∷ left c.in-Some.first.rest) word))

pub returns-in_default-number_of-clause-bad : goal.returns-in_default-number_of-clause-bad
returns-in_default-number_of-clause-bad c = λ failed numbers rest all is.
    let word = c.in-Some.first.word.now in
    let items = c.loop-first.hints.items in
    let behind = left c.in-Some.first.rest in
    let read : left c.args.words ≡ map decimal items ++ word ∷ behind = c.loop-first.invariant.read ∙ ap (λ l. map decimal items ++ l) c.in-Some.ensures in
    ⊎_elim
    (λ over. let same : word ≡ c.as_slice.result.now = over ∙ zero_word ∙ sym c.as_slice.ensures in
    let equal = (slice_eq-Decides Decides-eqb word c.as_slice.result.now _ refl).1 same in
    let clash : false ≡ true = c.if-eq.ensures ∙ equal in cc)
    (λ (z, fits, spelt). c.in_default-number_of.ensures z fits spelt)
    (next_item IsNumber decimal (decimal 0) number_is_not_zero items numbers word behind rest c.loop-first.invariant.all all (sym read ∙ is))

pub returns-clause-bad : goal.returns-clause-bad
returns-clause-bad c = λ failed numbers rest all is.
    let items = c.loop-first.hints.items in
    let read : left c.args.words ≡ map decimal items ++ [] = c.loop-first.invariant.read ∙ ap (λ l. map decimal items ++ l) c.in_default.ensures in
    not_over IsNumber decimal (decimal 0) number_is_not_zero items numbers rest c.loop-first.invariant.all (sym read ∙ is)
