use Rattle.std.proofs.Common.{◌≡◌, ◌++◌, ◌∙◌, ◌<◌, pos, ap, sym, take, map, get_or, length, arith, append_assoc, subst, to_z, of_z, FitsSigned}
use Rattle.std.specs.Int.{w128}
use Rattle.std.proofs.lemmas.Int.{to_z-of_z}
use Rattle.std.proofs.lemmas.List.Elements.{All-get_or}
use Rattle.std.specs.List.{concat}
use Rattle.std.proofs.lemmas.List.{take_all}
use Rattle.l2_witness.specs.ValuesFile.{IsChoice, choice_line, header, last_line, turns_line}
use Rattle.l2_witness.proofs.Files.{choice_fits, written_all, written_more}
use Rattle.l2_witness.proofs.write.write_values.Goals as goal

pub loop-choice-preserved : goal.loop-choice-preserved
loop-choice-preserved c =
    let front = header ++ turns_line c.args.values.now.turns in
    let choices = c.args.values.now.choices in
    let listed : c.as_slice-choice-items.result.now ≡ choices = c.as_slice-choice-items.ensures in
    let item = get_or choices c.loop-choice.choice-index (pos 0) in
    let inside : c.loop-choice.choice-index < length choices = omega (arith, ap length listed) in
    let read = get_or c.as_slice-choice-items.result.now c.loop-choice.choice-index (pos 0) in
    let same : read ≡ item = ap (λ cs. get_or cs c.loop-choice.choice-index (pos 0)) c.as_slice-choice-items.ensures in
    let fits : FitsSigned w128 read = subst (FitsSigned w128) (sym same) (choice_fits item (All-get_or IsChoice choices c.loop-choice.choice-index (pos 0) inside c.requires.choices_within)) in
    let pushed : c.push_choice.new.bytes.items ≡ c.loop-choice.bytes.items ++ choice_line (to_z w128 (of_z w128 read)) = c.in_ok-push_choice.ensures in
    pushed ∙ ap (λ v. c.loop-choice.bytes.items ++ choice_line v) (to_z-of_z w128 read fits ∙ same) ∙ ap (λ bytes. bytes ++ choice_line item) c.loop-choice.invariant
    ∙ append_assoc front (concat (map choice_line (take c.loop-choice.choice-index choices))) (choice_line item)
    ∙ ap (λ lines. front ++ lines) (sym (written_more choices c.loop-choice.choice-index (pos 0) inside))

pub returns : goal.returns
returns c =
    let front = header ++ turns_line c.args.values.now.turns in
    let choices = c.args.values.now.choices in
    let listed : c.as_slice-choice-items.result.now ≡ choices = c.as_slice-choice-items.ensures in
    let all : take c.loop-choice.choice-index choices ≡ choices = take_all c.loop-choice.choice-index choices (omega (arith, ap length listed)) in
    let pushed : c.extend_from_slice.new.self.items ≡ c.loop-choice.bytes.items ++ last_line = c.in_ok-extend_from_slice.ensures.items in
    pushed ∙ ap (λ bytes. bytes ++ last_line) (c.loop-choice.invariant ∙ ap (λ cs. front ++ concat (map choice_line cs)) all) ∙ written_all c.args.values.now.turns choices
