use Rattle.std.proofs.Common.{◌*◌, ◌+◌, ℕ, subst, sym}
use Rattle.l2_inclusions.specs.Rows.{members_at, Brings}
use Rattle.l2_inclusions.proofs.Sharing.{grows_on, numbers_push, all_bring_kept, all_bring_push}
use Rattle.l2_inclusions.proofs.unions.halved.Goals as goal

pub loop-i-preserved : goal.loop-i-preserved
loop-i-preserved c = record {
  grows = grows_on c.args.rows.now c.loop-i.rows c.unite.new.self c.loop-i.invariant.grows c.in_ok-number.ensures.grows;
  numbers = numbers_push c.loop-i.rows c.unite.new.self c.loop-i.half.items c.push.new.self.items c.in_ok-number.number c.in_ok-number.ensures.grows c.loop-i.invariant.numbers c.in_ok-number.ensures.bound c.in_ok-push.ensures.items;
  brings = λ m b h.
      let all = all_bring_kept c.args.rows.now c.loop-i.rows c.args.list.now m b c.loop-i.invariant.grows c.requires h in
      let first = subst (λ (k : ℕ). Brings (members_at c.loop-i.rows.sets k) m b) (sym c.at.ensures) (all (2 * c.loop-i.i)) in
      let second = subst (λ (k : ℕ). Brings (members_at c.loop-i.rows.sets k) m b) (sym c.at-in-loop-i.ensures) (all (2 * c.loop-i.i + 1)) in
      all_bring_push c.loop-i.rows c.unite.new.self c.loop-i.half.items c.push.new.self.items c.in_ok-number.number m b c.in_ok-number.ensures.grows c.loop-i.invariant.numbers (c.loop-i.invariant.brings m b h)
      (c.in_ok-number.ensures.brings m b first second) c.in_ok-push.ensures.items;
}
