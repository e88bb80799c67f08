use Rattle.std.proofs.Common.{arith, refl}
use Rattle.std.proofs.lemmas.List.Elements.{All-more}
use Rattle.l2_inclusions.proofs.Holding.{all_taken}
use Rattle.l2_points.specs.Entries.{IsThere}
use Rattle.l2_points.proofs.answer.are_there.Goals as goal

pub loop-member-preserved : goal.loop-member-preserved
loop-member-preserved c =
    All-more (IsThere c.args.objects.now) c.args.members.now c.loop-member.member-index _ (omega arith) c.loop-member.invariant (c.is_there.ensures c.if-not-is_there.false)

pub returns : goal.returns
returns c = λ e. all_taken (IsThere c.args.objects.now) c.args.members.now _ c.loop-member.member-index c.loop-member.invariant (omega arith) refl
