use Rattle.std.proofs.Common.{arith, refl, subst, List}
use Rattle.std.specs.List.{All}
use Rattle.std.proofs.lemmas.List.Elements.{All-more}
use Rattle.l2_runs.specs.declared.member.Member.{Member}
use Rattle.l2_code.specs.declared.sets.PointsTo.{PointsTo}
use Rattle.l2_inclusions.proofs.Holding.{all_taken}
use Rattle.l2_points.specs.Entries.{IsThere}
use Rattle.l2_points.proofs.answer.are_over.Goals as goal

pub loop-set-preserved : goal.loop-set-preserved
loop-set-preserved c =
    let here = subst (λ (ms : List Member). All (IsThere c.args.objects.now) ms) c.as_slice.ensures (c.are_there.ensures c.if-not-are_there.false) in
    All-more (λ (s : PointsTo). All (IsThere c.args.objects.now) s.members) c.args.sets.now c.loop-set.set-index c.set-item.result (omega arith) c.loop-set.invariant
    (subst (λ (s : PointsTo). All (IsThere c.args.objects.now) s.members) c.set-item.is here)

pub returns : goal.returns
returns c = λ e. all_taken (λ (s : PointsTo). All (IsThere c.args.objects.now) s.members) c.args.sets.now _ c.loop-set.set-index c.loop-set.invariant (omega arith) refl
