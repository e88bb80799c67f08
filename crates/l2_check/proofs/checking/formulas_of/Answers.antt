use Rattle.std.proofs.Common.{Err, ap, option_map}
use Rattle.l2_code.specs.Trees.{code_of}
use Rattle.l2_code.specs.Sets.{family}
use Rattle.l2_check.proofs.Made.{is_made, is_large}
use Rattle.l2_check.proofs.checking.formulas_of.Goals as goal

pub returns-in-Ok-clause-ok : goal.returns-in-Ok-clause-ok
returns-in-Ok-clause-ok c =
    is_made (code_of c.args.code.now) (family c.args.sets.now) c.args.cert.now c.in-Ok.goals (option_map (λ r. r.now) c.ranks_of.result) c.ranks_of.ensures
    c.in-Ok.ensures.ok c.in-Ok.ensures.within c.in-Ok.ensures.small

pub returns-in-Err-TooLarge-clause-bad : goal.returns-in-Err-TooLarge-clause-bad
returns-in-Err-TooLarge-clause-bad c =
    is_large (code_of c.args.code.now) (family c.args.sets.now) c.args.cert.now (c.in-Err-TooLarge.ensures.too_large (ap Err c.in-Err-TooLarge.field-0-is))
