use Rattle.std.proofs.Common.{◌≢◌, inr, sym, ◌∙◌, length, arith}
use Rattle.std.specs.Prelude.{pos, Contains}
use Rattle.std.proofs.lemmas.List.{get_or_default}
use Rattle.l2_watch.proofs.Moves.{no_length}
use Rattle.l2_watch.proofs.attach.first_pair.Goals as goal

pub returns-clause-pair : goal.returns-clause-pair
returns-clause-pair c =
    let some : length c.args.clause.now ≢ 0 = no_length (length c.args.clause.now) c.is_empty.result c.is_empty.ensures c.if-is_empty.false in
    let here : Contains c.args.clause.now c.index-clause-0.result = (0, omega arith, sym c.index-clause-0.is) in
    inr (record {
      first = here;
      second = here;
      one = λ e m (k, h, there). sym there ∙ get_or_default c.args.clause.now k m (pos 0) h ∙ c.loop-literal.invariant k (omega (arith, h));
    })
