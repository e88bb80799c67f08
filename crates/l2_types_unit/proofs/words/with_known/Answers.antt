use Rattle.l2_types_unit.proofs.Known.{more_known}
use Rattle.l2_types_unit.proofs.words.with_known.Goals as goal

pub loop-w-preserved : goal.loop-w-preserved
loop-w-preserved c =
    more_known c.loop-w.number c.loop-w.w-index c.args.names.now c.w-item.result c.loop-w.table c.with_meaning.new.table c.meaning_in-meaning.result _ c.as_slice.result.now _
    c.loop-w-test.true c.w-item.is c.meaning_in-meaning.ensures c.known_names.ensures c.as_slice.ensures c.in_ok-with_meaning.ensures.ok c.loop-w.invariant
