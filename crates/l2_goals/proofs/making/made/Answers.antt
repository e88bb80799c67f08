use Rattle.std.proofs.Common.{◌∙◌, ap, length}
use Rattle.l2_code.specs.Trees.{code_of}
use Rattle.l2_code.specs.Sets.{family}
use Rattle.l2_ssa.specs.Views.{steps_of, events_of}
use Rattle.l2_blast.specs.Kept.{setting_of}
use Rattle.l2_goals.proofs.Whole.{made_is, moved, last_is}
use Rattle.l2_goals.proofs.making.made.Goals as goal

pub returns-clause-ok : goal.returns-clause-ok
returns-clause-ok t c =
    let fill = t.F.Fill.fill c.args.fill.now in
    let all = moved (setting_of (code_of c.args.code.now) fill) c.in_ok-ssa.ssa.sets.now c.args.sets.now c.in_ok-ssa.ssa.steps.items c.in_ok-gates.gates c.in_ok-ssa.ensures.sets c.in_ok-gates.ensures in
    made_is (code_of c.args.code.now) (family c.args.sets.now) c.args.copies c.args.kinds.now c.args.ranks fill
    (steps_of (family c.args.sets.now) c.in_ok-ssa.ssa.steps.items) (events_of c.in_ok-ssa.ssa.events.items)
    c.in_ok-words.words c.blast.new.gates (record { base = c.into_clauses-base.result; variables = c.variables-variables.result; last = c.in_ok-last.last })
    c.in_ok-ssa.ensures.steps c.in_ok-ssa.ensures.events
    (c.in_ok-words.ensures.env ∙ ap (λ b. b.env) all) (c.in_ok-words.ensures.made ∙ ap (λ b. b.made) all)
    c.into_clauses-base.ensures c.in_ok-check_list.ensures.same
    (c.in_ok-last.ensures ∙ last_is c.in_ok-words.words c.as_slice.result.now c.in_ok-ssa.ssa.events.items c.args.kinds.now c.args.ranks (length c.as_slice-checks.result.now) (length (code_of c.args.code.now).checks) c.as_slice.ensures.value (ap length c.as_slice-checks.ensures)) c.in_ok-check_list-2.ensures.same
    c.variables-variables.ensures
