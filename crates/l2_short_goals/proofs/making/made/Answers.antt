use Rattle.std.proofs.Common.{◌≡◌, ◌∙◌, ap, sym, subst, length, map, false}
use Rattle.l2_code.specs.Trees.{code_of}
use Rattle.l2_code.specs.Sets.{family}
use Rattle.l2_gates.specs.Gates.{literals_of}
use Rattle.l2_ssa.specs.Views.{steps_of, events_of}
use Rattle.l2_blast.specs.Kept.{setting_of}
use Rattle.l2_blast.specs.Words.{literal}
use Rattle.l2_goals.specs.Formulas.{literals, goals_of_kinds, walk_formulas_with}
use Rattle.l2_goals.specs.Numbers.{AreFormulas}
use Rattle.l2_goals.proofs.Whole.{made_is, moved}
use Rattle.l2_short_goals.specs.Shorts.{no_fill, plain_kinds}
use Rattle.l2_short_goals.specs.Taken.{choice_of, choices_of}
use Rattle.l2_short_goals.proofs.Whole.{taken_is, heads_are}
use Rattle.l2_short_goals.proofs.making.made.Goals as goal

kinds_are : (c : goal.After-drop-kinds-2) → c.deref.result.now ≡ plain_kinds (code_of c.args.code.now)
kinds_are c = c.deref.ensures.value ∙ c.in_ok-kinds.ensures ∙ ap (λ loops. plain_kinds (record (code_of c.args.code.now) { loops = loops })) c.as_slice.ensures

pub returns-clause-goals : goal.returns-clause-goals
returns-clause-goals c =
    let all = moved (setting_of (code_of c.args.code.now) no_fill) c.in_ok-ssa.ssa.sets.now c.args.sets.now c.in_ok-ssa.ssa.steps.items c.in_ok-gates.gates c.in_ok-ssa.ensures.sets c.in_ok-gates.ensures in
    subst (λ kinds. AreFormulas (record { base = c.into_clauses-base.result; variables = c.variables-variables.result; last = c.in_ok-last.last }) (walk_formulas_with (code_of c.args.code.now) (family c.args.sets.now) c.args.k kinds false no_fill)) (kinds_are c)
    (made_is (code_of c.args.code.now) (family c.args.sets.now) c.args.k c.deref.result.now false no_fill
    (steps_of (family c.args.sets.now) c.in_ok-ssa.ssa.steps.items) (events_of c.in_ok-ssa.ssa.events.items)
    c.in_ok-words.words c.blast.new.gates (record { base = c.into_clauses-base.result; variables = c.variables-variables.result; last = c.in_ok-last.last })
    c.in_ok-ssa.ensures.steps c.in_ok-ssa.ensures.events
    (c.in_ok-words.ensures.env ∙ ap (λ b. b.env) all) (c.in_ok-words.ensures.made ∙ ap (λ b. b.made) all)
    c.into_clauses-base.ensures c.in_ok-check_list.ensures.same
    (c.in_ok-last.ensures ∙ (λ i. map (λ g. literals c.in_ok-words.words g (events_of (c.as_slice-2.ensures.value i))) (goals_of_kinds (length (c.as_slice-checks.ensures i)) (c.deref-2.ensures.value i) false))
    ∙ ap (λ ks. map (λ g. literals c.in_ok-words.words g (events_of c.in_ok-ssa.ssa.events.items)) (goals_of_kinds (length (code_of c.args.code.now).checks) ks false)) (sym c.deref.ensures.value)) c.in_ok-check_list-2.ensures.same
    c.variables-variables.ensures)

pub returns-clause-taken : goal.returns-clause-taken
returns-clause-taken c =
    let all = moved (setting_of (code_of c.args.code.now) no_fill) c.in_ok-ssa.ssa.sets.now c.args.sets.now c.in_ok-ssa.ssa.steps.items c.in_ok-gates.gates c.in_ok-ssa.ensures.sets c.in_ok-gates.ensures in
    taken_is (code_of c.args.code.now) (family c.args.sets.now) c.args.k c.deref.result.now (steps_of (family c.args.sets.now) c.in_ok-ssa.ssa.steps.items) c.in_ok-words.words (map choice_of c.new-2.result)
    (kinds_are c) c.in_ok-ssa.ensures.steps (c.in_ok-words.ensures.env ∙ ap (λ b. b.env) all)
    (ap (map choice_of) c.new-2.ensures ∙ c.in_ok-taken.ensures ∙ ap (λ sets. choices_of c.in_ok-words.words 0 (steps_of (family sets) c.in_ok-ssa.ssa.steps.items)) c.in_ok-ssa.ensures.sets)

pub returns-clause-heads : goal.returns-clause-heads
returns-clause-heads c =
    let all = moved (setting_of (code_of c.args.code.now) no_fill) c.in_ok-ssa.ssa.sets.now c.args.sets.now c.in_ok-ssa.ssa.steps.items c.in_ok-gates.gates c.in_ok-ssa.ensures.sets c.in_ok-gates.ensures in
    heads_are (code_of c.args.code.now) (family c.args.sets.now) c.args.k c.deref.result.now (steps_of (family c.args.sets.now) c.in_ok-ssa.ssa.steps.items) c.in_ok-words.words c.in_ok-ssa.ssa.heads.items (literals_of c.new-3.result)
    (kinds_are c) c.in_ok-ssa.ensures.steps (c.in_ok-words.ensures.env ∙ ap (λ b. b.env) all) c.in_ok-ssa.ensures.heads
    (ap literals_of c.new-3.ensures ∙ c.in_ok-heads.ensures ∙ ap (λ hs. map (literal c.in_ok-words.words) hs) c.as_slice-3.ensures.value)
