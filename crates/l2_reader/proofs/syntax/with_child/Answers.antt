use Rattle.std.proofs.Common.{◌∙◌, ◌++◌, ◌∷◌, [], ap}
use Rattle.std.specs.Prelude.{if◌then◌else◌, is_ok}
use Rattle.l2_grammar.specs.Trees.{begin}
use Rattle.l2_reader.specs.declared.syntax.Syntax as syntax
use Rattle.l2_reader.specs.Parts.{parts_onto, tree_of}
use Rattle.l2_reader.proofs.Parts.{parts_onto-end, with_part-Construct}
use Rattle.l2_reader.proofs.syntax.with_child.Goals as goal

pub returns-in-Ok-clause-tree : goal.returns-in-Ok-clause-tree
returns-in-Ok-clause-tree c =
    ap (λ x. parts_onto (begin c.args.run.sort) x) (c.push.ensures.items ∙ ap (λ z. if is_ok z then c.args.run.parts.items ++ (syntax.Construct c.args.inner.sort c.args.inner.parts ∷ []) else c.args.run.parts.items) c.in-Ok.is)
    ∙ parts_onto-end (begin c.args.run.sort) c.args.run.parts.items (syntax.Construct c.args.inner.sort c.args.inner.parts)
    ∙ with_part-Construct (tree_of c.args.run) c.args.inner.sort c.args.inner.parts
