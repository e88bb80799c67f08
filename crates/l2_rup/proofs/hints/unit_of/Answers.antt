use Rattle.std.proofs.Common.{◌≡◌, ◌<◌, sym, ◌∙◌, subst, arith, true, length, inl, inr}
use Rattle.std.specs.Prelude.{pos, neg_ℤ, Contains}
use Rattle.std.proofs.lemmas.List.{get_or_default}
use Rattle.l2_rup.proofs.Looks.{none_if_false, none_if_live}
use Rattle.l2_rup.proofs.hints.unit_of.Goals as goal
use Rattle.l2_rup.proofs.hints.unit_of.Goals.{else-not-is_true-via-then-not-is_true+else-others_false, else-not-is_true-via-else-not-is_true}

pub returns-then-i-clause : goal.returns-then-i-clause
returns-then-i-clause c = none_if_false c.args.trail.now.literals c.args.clause.now (λ k h. c.first_live-i.ensures.before k (omega (arith, h, c.if-i-clause.true)))

pub returns-else-not-is_true : goal.returns-else-not-is_true
returns-else-not-is_true c =
    let within : c.first_live-i.result < length c.args.clause.now = omega (arith, c.first_live-i.ensures.within, c.if-i-clause.false) in
    let at = get_or_default c.args.clause.now c.first_live-i.result c.index-clause-i.result (pos 0) within in
    let live : ¬ Contains c.args.trail.now.literals (neg_ℤ c.index-clause-i.result) = subst (λ x. ¬ Contains c.args.trail.now.literals (neg_ℤ x)) (sym (c.index-clause-i.is ∙ at)) (c.first_live-i.ensures.live within) in
    none_if_live c.args.trail.now.literals c.args.clause.now c.index-clause-i.result (c.first_live-i.result, within, sym c.index-clause-i.is) live
    (elim c.else-not-is_true.branch [
      | else-not-is_true-via-then-not-is_true+else-others_false w ↦ inr (λ others. let yes_all : w.others_false.result ≡ true = w.others_false.ensures.1 others in cc)
      | else-not-is_true-via-else-not-is_true w ↦ inl (c.is_true.ensures.0 w.if-not-is_true.false)
    ])
