use Rattle.std.proofs.Common.{◌∙◌, refl, sym, option_map}
use Rattle.l2_code.specs.Trees.{code_of}
use Rattle.l2_code.specs.Sets.{family}
use Rattle.l2_labels.specs.Labels.{one_label}
use Rattle.l2_ssa_points.specs.Places.{vars_of}
use Rattle.l2_goals.specs.Fills.{fill_of}
use Rattle.l2_goals.proofs.Whole.{some_same, of_point}
use Rattle.l2_goals.proofs.making.goals_of.Goals as goal

pub returns-clause-ok : goal.returns-clause-ok
returns-clause-ok c =
    let ranks = option_map (λ r. r.now) c.args.ranks in
    of_point c.in_ok-formulas_with.field-0 (one_label (code_of c.args.code.now)) (family c.args.sets.now) c.args.copies c.args.point.now ranks
    c.deref-2.result.now c.is_some.result (fill_of (vars_of (code_of c.args.code.now)) c.args.point.now ranks)
    (c.deref-2.ensures.value ∙ c.in_ok-kinds.ensures) (c.is_some.ensures ∙ sym (some_same (λ r. r.now) c.args.ranks)) refl c.in_ok-formulas_with.ensures.ok
