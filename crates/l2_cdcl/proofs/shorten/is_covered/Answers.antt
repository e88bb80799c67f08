use Rattle.std.proofs.Common.{◌≢◌, ◌∙◌, sym, arith}
use Rattle.std.specs.Prelude.{neg_ℤ}
use Rattle.l2_cnf.proofs.Laws.{nat_abs-neg_ℤ}
use Rattle.l2_watch.proofs.Moves.{code_parts}
use Rattle.l2_cdcl.proofs.shorten.is_covered.Goals as goal

pub is_marked-requires : goal.is_marked-requires
is_marked-requires c =
    let ne : c.args.literal ≢ c.args.but = code_parts c.args.literal c.args.but (sym c.eq.ensures ∙ c.if-eq.false) in
    omega (arith, (c.facts.ensures.literals_over (neg_ℤ c.args.literal) (c.requires.false_one ne)).1, nat_abs-neg_ℤ c.args.literal, c.requires.room, c.var.ensures.var)
