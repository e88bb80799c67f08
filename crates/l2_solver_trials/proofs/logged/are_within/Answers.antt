use Rattle.std.proofs.Common.{get_or, [], ◌∙◌, subst, arith}
use Rattle.std.proofs.lemmas.List.{get_or_default}
use borrow.Author.Count.{below_more}
use Rattle.l2_cnf.specs.Logic.{IsWithin}
use Rattle.l2_solver_trials.proofs.logged.are_within.Goals as goal

pub loop-i-preserved : goal.loop-i-preserved
loop-i-preserved c = below_more (λ k. IsWithin c.args.variables (get_or c.args.list.now k [])) c.loop-i.i c.loop-i.invariant (subst (IsWithin c.args.variables) c.clause.ensures c.if-not-is_within.ensures)

pub returns : goal.returns
returns c = λ clause (k, h, e). subst (IsWithin c.args.variables) (get_or_default c.args.list.now k [] clause h ∙ e) (c.loop-i.invariant k (omega (arith, h)))
