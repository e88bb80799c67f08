-- A branch by its parts, and a declaration where no body stands.
use Rattle.std.proofs.Common.{◌≡◌, true, false, cond, List, ◌∷◌, Option, Some, None, ap, subst, sym, ◌∙◌}
use Rattle.l2_syntax.specs.declared.place.Place.{Place}
use Rattle.l2_syntax.specs.declared.token.Mark.TheVariants as mark
use Rattle.l2_syntax.specs.declared.token.TokenKind.{TokenKind}
use Rattle.l2_grammar.specs.Marks.{is}
use Rattle.l2_tree.specs.Trees.{ExprTree, StmtTree, BranchTrees, SpecifierTrees, Global}
use Rattle.l2_tree.specs.Build.{Part, Built, leaf, node, and_then, on_mark, controlled, branch, behind_branch, add_branch, declared, external_behind}

with_test : (k : TokenKind) (c : Built) (l : TokenKind) (d : Built) (e : ExprTree) (t : StmtTree) → is mark.OpenParenthesis k ≡ true → is mark.CloseParenthesis l ≡ true → c.expr ≡ Some e → d.stmt ≡ Some t → controlled k c l d ≡ Some (e, t)
with_test k c l d e t f g h i =
    ap (λ b. cond b (on_mark mark.CloseParenthesis l (and_then c.expr (λ x. and_then d.stmt (λ y. Some (x, y))))) None) f
    ∙ ap (λ b. cond b (and_then c.expr (λ x. and_then d.stmt (λ y. Some (x, y)))) None) g
    ∙ ap (λ o. and_then o (λ x. and_then d.stmt (λ y. Some (x, y)))) h
    ∙ ap (λ o. and_then o (λ y. Some (e, y))) i

pub branch_by : (bs : Option BranchTrees) (p : Place) (k : TokenKind) (q : Place) (c : Built) (l : TokenKind) (r : Place) (d : Built) (rest ps : List Part) (e : ExprTree) (t : StmtTree) → rest ≡ leaf l r ∷ (node d ∷ ps) → is mark.OpenParenthesis k ≡ true → is mark.CloseParenthesis l ≡ true → c.expr ≡ Some e → d.stmt ≡ Some t → branch bs p (leaf k q ∷ (node c ∷ rest)) ≡ behind_branch (add_branch bs p q e t) ps
branch_by bs p k q c l r d rest ps e t a f g h i =
    ap (λ z. branch bs p (leaf k q ∷ (node c ∷ z))) a
    ∙ ap (λ o. and_then o (λ x. behind_branch (add_branch bs p q x.0 x.1) ps)) (with_test k c l d e t f g h i)

pub no_body : (xs : SpecifierTrees) (c : Built) (k : TokenKind) (p : Place) (ps all : List Part) → all ≡ node c ∷ (leaf k p ∷ ps) → is mark.OpenBrace k ≡ false → external_behind xs all ≡ and_then (declared xs all) (λ d. Some (Global d))
no_body xs c k p ps all a n = subst (λ z. external_behind xs z ≡ and_then (declared xs z) (λ d. Some (Global d))) (sym a) (no_brace n)
  where
    no_brace : is mark.OpenBrace k ≡ false → external_behind xs (node c ∷ (leaf k p ∷ ps)) ≡ and_then (declared xs (node c ∷ (leaf k p ∷ ps))) (λ d. Some (Global d))
    no_brace h = rw h
