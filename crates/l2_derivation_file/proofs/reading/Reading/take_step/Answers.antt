use Rattle.std.proofs.Common.{rules, ◌≡◌, ◌-◌, ◌++◌, ◌∷◌, [], ◌∙◌, Err, refl, sym, ap}
use Rattle.l2_cnf.specs.Lines.{step_of}
use Rattle.l2_derivation_file.specs.declared.steps.LineError.TheVariants.{Bad}
use Rattle.l2_derivation_file.proofs.Files.{step_kept, step_not_taken, step_taken}
use Rattle.l2_derivation_file.proofs.reading.Reading.take_step.Goals as goal

pub returns-in-Err-clause-bad : goal.returns-in-Err-clause-bad
returns-in-Err-clause-bad c = λ failed.
    let error : c.in-Err.error ≡ Bad = cc in
    step_not_taken c.args.self.now c.args.line.now c.requires.stage c.requires.some (λ x is words. c.in-Err.ensures.bad (ap Err error) x is (c.new.ensures ∙ words))

pub returns-clause-ok : goal.returns-clause-ok
returns-clause-ok c =
    let r = c.args.self.now in
    let x = step_of c.in-Ok.number c.read_step.new.clause.items c.read_step.new.hints.items in
    let pushed : c.push.new.self ≡ r.steps ++ step_of c.in-Ok.number c.as_slice.result.now c.as_slice-2.result.now ∷ [] = search rules in
    let steps : c.push.new.self ≡ r.steps ++ x ∷ [] = pushed ∙ (λ i. r.steps ++ step_of c.in-Ok.number (c.as_slice.ensures.value i) (c.as_slice-2.ensures.value i) ∷ []) in
    step_taken r (record r { to_come = r.to_come - 1; steps = c.push.new.self; clause = c.read_step.new.clause; hints = c.read_step.new.hints }) c.args.line.now x c.requires.stage refl c.requires.some c.in-Ok.ensures.ok.0 (sym c.new.ensures ∙ c.in-Ok.ensures.ok.1) steps refl

pub returns-clause-kept : goal.returns-clause-kept
returns-clause-kept c =
    let r = c.args.self.now in
    let x = step_of c.in-Ok.number c.read_step.new.clause.items c.read_step.new.hints.items in
    let pushed : c.push.new.self ≡ r.steps ++ step_of c.in-Ok.number c.as_slice.result.now c.as_slice-2.result.now ∷ [] = search rules in
    let steps : c.push.new.self ≡ r.steps ++ x ∷ [] = pushed ∙ (λ i. r.steps ++ step_of c.in-Ok.number (c.as_slice.ensures.value i) (c.as_slice-2.ensures.value i) ∷ []) in
    step_kept r (record r { to_come = r.to_come - 1; steps = c.push.new.self; clause = c.read_step.new.clause; hints = c.read_step.new.hints }) x c.requires.stage refl c.requires.kept c.requires.some c.in-Ok.ensures.ok.0 steps refl
