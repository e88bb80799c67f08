use Rattle.std.proofs.Common.{◌≡◌, ◌∷◌, false, ap, ◌∙◌}
use Rattle.l2_syntax.specs.declared.token.Mark.TheVariants as mark
use Rattle.l2_grammar.specs.Marks.{is}
use Rattle.l2_tree.specs.Build.{node, built}
use Rattle.l2_tree.specs.Units.{specifiers_tree}
use Rattle.l2_build.specs.Parts.{parts_of}
use Rattle.l2_build_unit.proofs.Branching.{no_body}
use Rattle.l2_build_unit.proofs.Results.{passed_on}
use Rattle.l2_build_unit.proofs.units.defined_or.Goals as goal

pub returns-in_err-whole-in-Leaf-2-clause-err : goal.returns-in_err-whole-in-Leaf-2-clause-err
returns-in_err-whole-in-Leaf-2-clause-err c =
    let e : is mark.OpenBrace c.in-Leaf.brace.kind ≡ false = cc in
    passed_on c.from_residual-in_err-whole-in-Leaf-2.result c.in_err-whole-in-Leaf-2.field-0.0 _ c.from_residual-in_err-whole-in-Leaf-2.ensures.1
    (λ n. no_body (specifiers_tree c.args.specifiers) _ _ _ _ (parts_of c.args.parts.now) (c.requires ∙ ap (λ x. node (built (parts_of c.args.inner.now)) ∷ x) c.in-Leaf.ensures.parts) e ∙ c.in_err-whole-in-Leaf-2.ensures.err n)

pub returns-in_ok-whole-in-Leaf-2-clause-ok : goal.returns-in_ok-whole-in-Leaf-2-clause-ok
returns-in_ok-whole-in-Leaf-2-clause-ok c =
    let e : is mark.OpenBrace c.in-Leaf.brace.kind ≡ false = cc in
    no_body (specifiers_tree c.args.specifiers) _ _ _ _ (parts_of c.args.parts.now) (c.requires ∙ ap (λ x. node (built (parts_of c.args.inner.now)) ∷ x) c.in-Leaf.ensures.parts) e ∙ c.in_ok-whole-in-Leaf-2.ensures.ok
