use Rattle.std.proofs.Common.{◌+◌, refl}
use Rattle.l2_code.specs.Sets.{family}
use Rattle.l2_blast.specs.Kept.{set_at}
use Rattle.l2_blast.proofs.Lists.{objects_more}
use Rattle.l2_blast.proofs.member_lists.push_objects.Goals as goal

pub loop-index-preserved : goal.loop-index-preserved
loop-index-preserved c =
    objects_more (set_at (family c.args.sets.now) c.args.of) c.args.count c.loop-index.index (c.loop-index.index + 1) c.loop-index.list.items _ _ _ c.loop-index-test.true refl c.is_member.ensures c.in_ok-push_if.ensures c.loop-index.invariant
