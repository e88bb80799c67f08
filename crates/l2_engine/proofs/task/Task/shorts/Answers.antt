use Rattle.std.proofs.Common.{Err, ap, ◌∙◌, ◌<◌, [], subst}
use Rattle.l2_code.specs.Trees.{code_of}
use Rattle.l2_code.specs.Sets.{family}
use Rattle.l2_code.specs.Sizes.{size}
use Rattle.l2_unwind.specs.Refused.{most_weight}
use Rattle.l2_engine.proofs.Weighing.{too_much}
use Rattle.l2_engine.proofs.task.Task.shorts.Goals as goal

pub unreachable-requires : goal.unreachable-requires
unreachable-requires c =
    c.requires (too_much c.args.self.now c.args.k (subst (λ x. most_weight < size (code_of x.code) (family x.sets) c.args.k []) c.self.view_is (c.short.ensures.too_large (c.in-Err-TooLarge.is ∙ ap Err c.in-Err-TooLarge.field-0-is))))
