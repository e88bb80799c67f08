use Rattle.std.proofs.Common.{rules, ◌≡◌, ◌++◌, ◌∙◌, ◌+◌, ◌<◌, [], suc, drop, get_or, length, sym, ap, arith}
use Rattle.std.proofs.lemmas.List.{get_or_default}
use Rattle.l2_cert.specs.Words.{text_of}
use Rattle.l2_cert.specs.Certificate.{goal_lines, goals_lines}
use Rattle.l2_cert.proofs.Written.{goal_text}
use Rattle.l2_cert.proofs.writer.push_all_goals.Goals as goal

pub loop-i-preserved : goal.loop-i-preserved
loop-i-preserved c =
    let goals = c.args.goals.now in
    let i = c.loop-i.i in
    let within : i < length goals = search rules in
    let index : i + 1 ≡ suc i = omega arith in
    let pushed : c.push_goal.new.bytes.items ≡ c.loop-i.bytes.items ++ text_of (goal_lines (i + 1) (get_or goals i [])) = c.in_ok-push_goal.ensures ∙ ap (λ steps. c.loop-i.bytes.items ++ text_of (goal_lines (i + 1) steps)) (c.index-goals-i.is ∙ get_or_default goals i c.index-goals-i.result [] within) in
    c.loop-i.invariant ∙ goal_text c.loop-i.bytes.items i goals [] within ∙ ap (λ n. (c.loop-i.bytes.items ++ text_of (goal_lines n (get_or goals i []))) ++ text_of (goals_lines (suc (i + 1)) (drop (i + 1) goals))) (sym index) ∙ ap (λ b. b ++ text_of (goals_lines (suc (i + 1)) (drop (i + 1) goals))) (sym pushed)
