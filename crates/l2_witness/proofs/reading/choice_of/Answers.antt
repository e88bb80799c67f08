use Rattle.std.proofs.Common.{◌≡◌, ◌++◌, ◌∙◌, true, false, codes, FitsSigned, rules, sym, ap, subst, drop}
use Rattle.std.specs.Int.{w128}
use Rattle.std.specs.Fmt.{signed_decimal}
use Rattle.std.proofs.lemmas.Int.{to_z-of_z}
use Rattle.l2_lines.proofs.Decimals.{signed_decimal_injective_wide}
use Rattle.l2_witness.specs.ValuesFile.{IsChoice}
use Rattle.l2_witness.proofs.Files.{choice_fits}
use Rattle.l2_witness.proofs.reading.choice_of.Goals as goal

pub returns-in_default : goal.returns-in_default
returns-in_default c = λ choice fits is.
    let small : FitsSigned w128 c.in-Some.choice = search rules in
    let word : c.args.line.now ≡ codes "choice " ++ c.in_ok-word.word.now = c.in_ok-word.ensures in
    let read : c.in_ok-word.word.now ≡ signed_decimal c.in-Some.choice = c.in-Some.ensures in
    let wide : FitsSigned w128 choice = choice_fits choice fits in
    let same : c.in-Some.choice ≡ choice = signed_decimal_injective_wide c.in-Some.choice choice small wide (sym read ∙ ap (drop 7) (sym word ∙ is)) in
    let yes : c.is_choice.result ≡ true = c.is_choice.ensures.1 (subst IsChoice (sym (to_z-of_z w128 c.in-Some.choice small ∙ same)) fits) in
    let no : c.is_choice.result ≡ false = c.if-is_choice.false in
    cc
