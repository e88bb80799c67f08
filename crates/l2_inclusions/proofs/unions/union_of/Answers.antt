use Rattle.std.proofs.Common.{ℕ, List, subst, sym}
use Rattle.l2_inclusions.specs.Rows.{AllBring}
use Rattle.l2_inclusions.proofs.Sharing.{grows_on}
use Rattle.l2_inclusions.proofs.unions.union_of.Goals as goal

pub loop-preserved : goal.loop-preserved
loop-preserved c = record {
  grows = grows_on c.args.rows.now c.loop.rows c.halved.new.rows c.loop.invariant.grows c.in_ok-list.ensures.grows;
  numbers = c.in_ok-list.ensures.numbers;
  brings = λ m b h. c.in_ok-list.ensures.brings m b (subst (λ (zs : List ℕ). AllBring c.loop.rows zs m b) (sym c.as_slice.ensures.value) (c.loop.invariant.brings m b h));
}
