use Rattle.std.proofs.Common.{◌≡◌, length, sym, subst}
use Rattle.std.specs.Prelude.{IfOk, OnOk}
use Rattle.l2_code.specs.Trees.{code_of}
use Rattle.l2_code.specs.Modes.{types_of}
use Rattle.l2_code.specs.Sets.{family}
use Rattle.l2_ssa.specs.declared.step.Step.{Step}
use Rattle.l2_ssa.specs.declared.step.AmongStep.{AmongStep}
use Rattle.l2_ssa.specs.Views.{step_of}
use Rattle.l2_gates.specs.Gates.{literals_of}
use Rattle.l2_pointer_circuits.specs.Tests.{among_bit}
use Rattle.l2_blast.specs.Words.{word, members, bit_word, made_word}
use Rattle.l2_blast.specs.Kept.{setting_of}
use Rattle.l2_blast.proofs.stepping.made_word.Goals as goal

pub returns-in-Half-clause-made : goal.returns-in-Half-clause-made
returns-in-Half-clause-made g c =
    subst
    (λ (x : Step). OnOk c.fresh_word-in-Half.result
    (c.fresh_word-in-Half.new.gates
    ≡ (made_word (setting_of (code_of c.args.place.now.code.now) (g.F.Fill.fill c.args.fill.now)) (step_of (family c.args.place.now.sets.now) x) c.args.place.now.words.now c.args.gates.now).made))
    (sym c.in-Half.is) c.fresh_word-in-Half.ensures.made

pub returns-in-Among-clause-bits : goal.returns-in-Among-clause-bits
returns-in-Among-clause-bits g c =
    let code = c.args.place.now.code.now in
    let sets = c.args.place.now.sets.now in
    let env = c.args.place.now.words.now in
    subst
    (λ (x : Step). IfOk c.among.result
    (λ w. literals_of w.items ≡ (made_word (setting_of (code_of code) (g.F.Fill.fill c.args.fill.now)) (step_of (family sets) x) env c.args.gates.now).bits))
    (sym c.in-Among.is)
    (subst
    (λ (a : AmongStep). IfOk c.among.result
    (λ w. literals_of w.items ≡ (bit_word (among_bit (types_of (code_of code)).objects (members (length code.objects) ((family sets).object a.object)) (word 17 env a.selector) (word 17 env a.offset) c.args.gates.now)).bits))
    c.deref-in-Among.ensures c.among.ensures.bits)
