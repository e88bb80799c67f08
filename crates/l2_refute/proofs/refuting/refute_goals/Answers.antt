use Rattle.std.proofs.Common.{◌≡◌, ◌<◌, ◌+◌, ◌++◌, ◌∷◌, ◌∙◌, [], sym, subst, length, MatchOption, slice_index_or, arith}
use Rattle.l2_refute.specs.Refuting.{HasModel, Refute}
use Rattle.l2_refute.proofs.All.{Before, all_refuted, one_more, listed, pushed}
use Rattle.l2_refute.proofs.refuting.refute_goals.Goals as goal

pub refute-requires : goal.refute-requires
refute-requires c =
    let last = c.args.last.now in
    let inside : c.loop-i.i < length last = omega (arith, c.loop-i-test.true, c.len-i-end.ensures.len) in
    one_more c.args.variables c.args.base.now c.clause.result.now c.requires.base (c.requires.last c.clause.result.now (listed last c.loop-i.i c.clause.result.now inside c.clause.ensures))

pub loop-i-preserved : goal.loop-i-preserved
loop-i-preserved c =
    let base = c.args.base.now in
    let last = c.args.last.now in
    let variables = c.args.variables in
    let i = c.loop-i.i in
    let steps = c.in-Some.steps in
    let found = subst (λ r. MatchOption r (HasModel (base ++ c.clause.result.now ∷ [])) (Refute variables (base ++ c.clause.result.now ∷ []))) c.in-Some.is c.in_ok-steps.ensures in
    let one : Refute variables (base ++ slice_index_or last i [] ∷ []) steps = subst (λ x. Refute variables (base ++ x ∷ []) steps) c.clause.ensures found in
    subst (λ all. (length all ≡ i + 1) × Before variables base last all (i + 1)) (sym c.in_ok-push.ensures.items)
    (pushed variables base last c.loop-i.all.items steps i c.loop-i.invariant.0 c.loop-i.invariant.1 one)

pub returns : goal.returns
returns c =
    let i = c.loop-i.i in
    let all = c.loop-i.all.items in
    let end : i ≡ length c.args.last.now = omega (arith, c.loop-i-test.false, c.loop-i.auto.i-end, c.len-i-end.ensures.len) in
    all_refuted c.args.variables c.args.base.now c.args.last.now all (c.loop-i.invariant.0 ∙ end) (subst (Before c.args.variables c.args.base.now c.args.last.now all) end c.loop-i.invariant.1)
