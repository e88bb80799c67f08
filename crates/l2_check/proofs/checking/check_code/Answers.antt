use Rattle.std.proofs.Common.{rules, ◌≡◌, length}
use Rattle.l2_code.specs.Trees.{code_of}
use Rattle.l2_code.specs.Sets.{family}
use Rattle.l2_check.proofs.Made.{is_passed, is_failed}
use Rattle.l2_check.proofs.checking.check_code.Goals as goal

pub returns-clause-ok : goal.returns-clause-ok
returns-clause-ok g c =
    let counted : length c.args.cert.now.goals ≡ length c.in_ok-goals.goals.last = search rules in
    is_passed (code_of c.args.code.now) (family c.args.sets.now) c.args.cert.now c.in_ok-goals.goals c.in_ok-goals.ensures.ok counted c.check_steps.result c.check_steps.ensures.ok

pub returns-clause-bad : goal.returns-clause-bad
returns-clause-bad g c =
    let counted : length c.args.cert.now.goals ≡ length c.in_ok-goals.goals.last = search rules in
    is_failed (code_of c.args.code.now) (family c.args.sets.now) c.args.cert.now c.in_ok-goals.goals c.in_ok-goals.ensures.ok counted c.check_steps.result c.check_steps.ensures.bad
