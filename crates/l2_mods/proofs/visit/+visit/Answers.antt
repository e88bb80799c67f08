use Rattle.std.proofs.Common.{◌∙◌, ap, sym}
use Rattle.std.proofs.lemmas.Result.{IfOk-weaker}
use Rattle.l2_program.specs.Checked.{While, typed_tree, checked_tree}
use Rattle.l2_mods.specs.Walks.{cells_in, statics_in}
use Rattle.l2_mods.proofs.Sets.{while_done}
use Rattle.l2_mods.proofs.visit.+visit.Goals as goal

pub visit-returns-in_ok-visit-in-While : goal.visit-returns-in_ok-visit-in-While
visit-returns-in_ok-visit-in-While t c =
    IfOk-weaker c.close.result _ _ (λ u h. h ∙ while_done (cells_in c.args.objects.now) (statics_in c.args.objects.now) c.args.walk.now c.open.new.self c.evaluate-in-While.new.walk c.visit-in-While.new.walk
    c.in-While.number c.in-While.named c.as_slice.result.now (typed_tree c.in-While.e) (checked_tree c.deref-in-While.result.now) (checked_tree c.args.s.now) c.in_ok-index-in-While.index c.changes-from.result _
    (ap checked_tree c.in-While.is ∙ ap (λ x. While c.in-While.number c.in-While.named (typed_tree c.in-While.e) (checked_tree x)) (sym c.deref-in-While.ensures)) c.changes-from.ensures c.in_ok-index-in-While.ensures.index c.as_slice.ensures c.in_ok-index-in-While.ensures.ok c.in_ok-evaluate-in-While.ensures c.in_ok-visit-in-While.ensures)
    c.close.ensures
