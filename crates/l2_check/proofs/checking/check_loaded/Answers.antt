use Rattle.std.proofs.Common.{◌≡◌, Some, ap, subst, option_map}
use Rattle.l2_program.specs.Programs.{program_tree}
use Rattle.l2_code.specs.Trees.{code_of}
use Rattle.l2_front.specs.Codes.{BelongTo, IsCodeOf}
use Rattle.l2_check.proofs.Made.{is_accepted, is_refused}
use Rattle.l2_check.proofs.checking.check_loaded.Goals as goal

pub returns-in-Some-clause-ok : goal.returns-in-Some-clause-ok
returns-in-Some-clause-ok g c =
    let p = program_tree c.args.loaded.now.program in
    let same : c.loaded.inside.program ≡ c.args.loaded.now.program = ap (λ k. k.program) c.loaded.view_is in
    let some : c.loaded.inside.code ≡ Some c.in-Some.code = c.in-Some.is in
    let here : IsCodeOf (program_tree c.loaded.inside.program) (code_of c.in-Some.code) c.loaded.inside.sets = subst (λ o. BelongTo (program_tree c.loaded.inside.program) (option_map code_of o) c.loaded.inside.sets) some c.loaded.invariant.belong in
    let there : IsCodeOf p (code_of c.in-Some.code) c.loaded.inside.sets = subst (λ x. IsCodeOf (program_tree x) (code_of c.in-Some.code) c.loaded.inside.sets) same here in
    is_accepted p c.args.cert.now c.requires (code_of c.in-Some.code) c.loaded.inside.sets there c.check_code.result c.check_code.ensures.ok

pub returns-in-Some-clause-bad : goal.returns-in-Some-clause-bad
returns-in-Some-clause-bad g c =
    let p = program_tree c.args.loaded.now.program in
    let same : c.loaded.inside.program ≡ c.args.loaded.now.program = ap (λ k. k.program) c.loaded.view_is in
    let some : c.loaded.inside.code ≡ Some c.in-Some.code = c.in-Some.is in
    let here : IsCodeOf (program_tree c.loaded.inside.program) (code_of c.in-Some.code) c.loaded.inside.sets = subst (λ o. BelongTo (program_tree c.loaded.inside.program) (option_map code_of o) c.loaded.inside.sets) some c.loaded.invariant.belong in
    let there : IsCodeOf p (code_of c.in-Some.code) c.loaded.inside.sets = subst (λ x. IsCodeOf (program_tree x) (code_of c.in-Some.code) c.loaded.inside.sets) same here in
    is_refused p c.args.cert.now c.requires (code_of c.in-Some.code) c.loaded.inside.sets there c.check_code.result c.check_code.ensures.bad
