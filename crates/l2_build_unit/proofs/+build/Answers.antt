use Rattle.std.proofs.Common.{◌≡◌, ◌∷◌, true, ap, ◌∙◌}
use Rattle.l2_syntax.specs.declared.token.Mark.TheVariants as mark
use Rattle.l2_grammar.specs.Marks.{is}
use Rattle.l2_tree.specs.Build.{leaf, built, branch}
use Rattle.l2_build.specs.Parts.{parts_of}
use Rattle.l2_build_unit.proofs.Branching.{branch_by}
use Rattle.l2_build_unit.proofs.Results.{passed_on}
use Rattle.l2_build_unit.proofs.+build.Goals as goal

pub branches::behind_test-returns-clause-branch : goal.branches::behind_test-returns-clause-branch
branches::behind_test-returns-clause-branch t c =
    let f : is mark.OpenParenthesis c.args.bracket.kind ≡ true = cc in
    let g : is mark.CloseParenthesis c.in-Leaf.close.kind ≡ true = cc in
    λ bs p. branch_by bs p c.args.bracket.kind c.args.bracket.place (built (parts_of c.args.inner.now)) c.in-Leaf.close.kind c.in-Leaf.close.place (built (parts_of c.in-Node.second.now)) (parts_of c.args.parts.now) (parts_of c.in-Node.rest.now) _ _
    (c.in-Leaf.ensures.parts ∙ ap (λ x. leaf c.in-Leaf.close.kind c.in-Leaf.close.place ∷ x) c.in-Node.ensures.parts) f g c.in_ok-test.ensures.ok c.in_ok-body.ensures.ok

pub branches::test_and_body-returns-in_err-whole-clause-no_branch :
    goal.branches::test_and_body-returns-in_err-whole-clause-no_branch
branches::test_and_body-returns-in_err-whole-clause-no_branch t c =
    passed_on c.from_residual.result c.in_err-whole.field-0.0 _ c.from_residual.ensures.1
    (λ n bs p. ap (branch bs p) (c.in-Leaf.ensures.parts ∙ ap (λ x. leaf c.in-Leaf.bracket.kind c.in-Leaf.bracket.place ∷ x) c.in-Node.ensures.parts) ∙ c.in_err-whole.ensures.no_branch n bs p)

pub branches::test_and_body-returns-clause-branch :
    goal.branches::test_and_body-returns-clause-branch
branches::test_and_body-returns-clause-branch t c =
    λ bs p. ap (branch bs p) (c.in-Leaf.ensures.parts ∙ ap (λ x. leaf c.in-Leaf.bracket.kind c.in-Leaf.bracket.place ∷ x) c.in-Node.ensures.parts) ∙ c.in_ok-whole.ensures.branch bs p
