use Rattle.std.proofs.Common.{◌≡◌, ◌∙◌, ◌<◌, ◌+◌, ◌++◌, ◌∷◌, [], suc, ap, sym, drop, get_or, length, append_assoc, arith}
use Rattle.l2_templates.specs.declared.point.LoopPoint.TheVariants.{Bottom}
use Rattle.l2_templates.specs.Points.{meet, meet_loop}
use Rattle.l2_templates.proofs.Strength.{alike_length, meet_more}
use Rattle.l2_templates.proofs.meets.meet.Goals as goal

pub get-requires-in-loop-i : goal.get-requires-in-loop-i
get-requires-in-loop-i c = omega (arith, alike_length c.args.a.now c.args.b.now c.requires)

pub loop-i-preserved : goal.loop-i-preserved
loop-i-preserved c =
    let a = c.args.a.now in
    let b = c.args.b.now in
    let i = c.loop-i.i in
    let all = c.loop-i.all in
    let first : i < length a = omega arith in
    let second : i < length b = omega (arith, alike_length a b c.requires) in
    let next : c.in_ok-at.at ≡ meet_loop (get_or a i Bottom) (get_or b i Bottom) = c.in_ok-at.ensures ∙ (λ k. meet_loop (c.get.ensures k) (c.get-in-loop-i.ensures k)) in
    let pushed : c.push.new.self ≡ all ++ c.in_ok-at.at ∷ [] = c.in_ok-push.ensures.ok in
    let count : suc i ≡ i + 1 = omega arith in
    c.loop-i.invariant
    ∙ ap (λ rest. all ++ rest) (meet_more a b i Bottom first second)
    ∙ sym (append_assoc all (meet_loop (get_or a i Bottom) (get_or b i Bottom) ∷ []) (meet (drop (suc i) a) (drop (suc i) b)))
    ∙ ap (λ xs. xs ++ meet (drop (suc i) a) (drop (suc i) b)) (sym (pushed ∙ ap (λ at. all ++ at ∷ []) next))
    ∙ ap (λ n. c.push.new.self ++ meet (drop n a) (drop n b)) count
