use Rattle.std.proofs.Common.{◌<◌, [], get_or, length, sym, subst, arith}
use Rattle.std.proofs.lemmas.List.Elements.{Contains-get_or}
use Rattle.l2_cnf.specs.Logic.{IsWithin}
use Rattle.l2_derivations.proofs.runs.check_run.Goals as goal

pub check_one-requires : goal.check_one-requires
check_one-requires g c =
    let last = c.args.all.last.now in
    let i = c.loop-i.i in
    let within : i < length last = omega (arith, c.requires.within, c.requires.fits.each, c.loop-i-test.true) in
    let clause : IsWithin c.args.all.variables (get_or last i []) = c.requires.fits.last (get_or last i []) (Contains-get_or last i [] within) in
    subst (λ n. IsWithin n c.clause.result.now) (sym c.loop-i.invariant.variables) (subst (IsWithin c.args.all.variables) (sym c.clause.ensures) clause)

pub returns-clause-ok : goal.returns-clause-ok
returns-clause-ok g c = λ i low high. c.loop-i.invariant.held i low (omega (arith, high, c.loop-i-test.false))
