-- What is built of the run of a statement or of a unit is that statement or unit.
use Rattle.std.proofs.Common.{◌≡◌, refl, ◌∙◌, ap, sym, true, false, ℕ, List, [], ◌∷◌, ◌++◌, Option, None, Some}
use Rattle.std.proofs.lemmas.List.{append_assoc}
use Rattle.l2_syntax.specs.declared.place.Place.{Place}
use Rattle.l2_syntax.specs.declared.token.Mark.{Mark}
use Rattle.l2_syntax.specs.declared.token.Mark.TheVariants as mark
use Rattle.l2_syntax.specs.declared.token.TokenKind.{TokenKind}
use Rattle.l2_syntax.specs.declared.token.TokenKind.TheVariants as kind
use Rattle.l2_grammar.specs.declared.states.Sort.{Sort}
use Rattle.l2_grammar.specs.Marks.{is}
use Rattle.l2_grammar.specs.Trees.{Tree, begin, token, child}
use Rattle.l2_tree.specs.declared.starts.Opening.{Opening}
use Rattle.l2_tree.specs.Trees.{ExprTree, SpecifierTrees, DeclaratorTree, DeclarationTree, FirstTree, NoFirst, FirstExpression, FirstDeclaration, StmtTree, Declare, Block, Evaluate, Empty, If, IfElse, While, Switch, Do, For, Case, Default, Label, Break, Continue, Return, ReturnValue, StmtTrees, no_stmts, and_stmt, Branch, BranchTrees, first_branch, and_branch, ExternalTree, Nothing, Global, Typedef, Function}
use Rattle.l2_tree.specs.Spelling.{nowhere, mark_at, closed, behind, run_declaration, declaration_onto, perhaps, first_onto, run_stmt, stmts_onto, branches_onto, run_external, externals_onto, run_unit}
use Rattle.l2_tree.specs.Build.{Part, leaf, node, built, parts_of, parts_before, and_then, heads, opening_mark, opening_of, is_specifier_mark, is_specifier, specifies, leader_mark, leader_of, label_of, expr_of, opened, specifiers, declarator_of, declared, declaration_of, items, branch, behind_branch, add_branch, controlled, perhaps_until, first, for_body, before_semicolon, evaluated, stmt_of, external_behind, external_of, externals, unit_of}
use Rattle.l2_tree_laws.proofs.Runs.{Runs, by_begin, by_token, by_child, as_runs, if_child}
use Rattle.l2_tree_laws.proofs.Firsts.{some_of, not_some, untyped, typed}
use Rattle.l2_tree_laws.proofs.BackSteps.{Whole, whole_expr}
use Rattle.l2_tree_laws.proofs.BackDeclarators.{with}
use Rattle.l2_tree_laws.proofs.BackDeclarations.{Declares, behind_specifiers, itself, declares}
use Rattle.l2_tree_laws.proofs.BackExpressions.{of_expr, of_specifiers, of_declarator, of_declaration, declaration, external}

-- ---- an expression and a semicolon

pub parts_append : (r : Tree) (m : List Part) → parts_before r m ≡ parts_of r ++ m
parts_append (begin s) m = refl
parts_append (token a t) m = parts_append a (leaf t.kind t.at ∷ m) ∙ sym (ap (λ x. x ++ m) (parts_append a (leaf t.kind t.at ∷ [])) ∙ append_assoc (parts_of a) (leaf t.kind t.at ∷ []) m)
parts_append (child a b) m = parts_append a (node (built (parts_of b)) ∷ m) ∙ sym (ap (λ x. x ++ m) (parts_append a (node (built (parts_of b)) ∷ [])) ∙ append_assoc (parts_of a) (node (built (parts_of b)) ∷ []) m)

abbrev pub semicolon_at : Place → Part
semicolon_at p = leaf (kind.Mark mark.Semicolon) p

pub before_last : (qs : List Part) (p : Place) → before_semicolon (qs ++ (semicolon_at p ∷ [])) ≡ Some qs
unfolding is
before_last [] p = refl
before_last (leaf k q ∷ []) p = refl
before_last (node c ∷ []) p = refl
before_last (leaf k q ∷ x ∷ qs) p = ap (λ y. and_then y (λ zs. Some (leaf k q ∷ zs))) (before_last (x ∷ qs) p)
before_last (node c ∷ x ∷ qs) p = ap (λ y. and_then y (λ zs. Some (node c ∷ zs))) (before_last (x ∷ qs) p)

opens_no_leader_mark : (m : Mark) (o : Opening) → opening_mark m ≡ Some o → leader_mark m ≡ None
opens_no_leader_mark mark.Arrow o e = refl
opens_no_leader_mark m o e = cc

opens_no_leader : (k : TokenKind) (o : Opening) → opening_of k ≡ Some o → leader_of k ≡ None
opens_no_leader (kind.Mark m) o e = opens_no_leader_mark m o e
opens_no_leader k o e = refl

no_colon : (n : ℕ) (p : Place) (qs : List Part) (e : ExprTree) (q : Place) → expr_of (leaf (kind.Word n) p ∷ qs) ≡ Some e → heads mark.Colon (qs ++ (semicolon_at q ∷ [])) ≡ false
unfolding is
no_colon n p [] e q h = refl
no_colon n p (node c ∷ qs) e q h = refl
no_colon n p (leaf (kind.Mark mark.Colon) r ∷ qs) e q h = absurd (not_some h)
no_colon n p (leaf (kind.Mark m) r ∷ qs) e q h = refl
no_colon n p (leaf k r ∷ qs) e q h = refl

no_label : (k : TokenKind) (p : Place) (qs : List Part) (e : ExprTree) (q : Place) → expr_of (leaf k p ∷ qs) ≡ Some e → label_of k (qs ++ (semicolon_at q ∷ [])) ≡ None
no_label (kind.Word n) p qs e q h = rw (no_colon n p qs e q h) refl
no_label k p qs e q h = refl

evaluates : (qs : List Part) (e : ExprTree) (q : Place) → expr_of qs ≡ Some e → evaluated (qs ++ (semicolon_at q ∷ [])) ≡ Some (Evaluate e)
evaluates qs e q h = ap (λ x. and_then x (λ ys. and_then (expr_of ys) (λ a. Some (Evaluate a)))) (before_last qs q) ∙ ap (λ x. and_then x (λ a. Some (Evaluate a))) h

pub evaluate : (qs : List Part) (e : ExprTree) (q : Place) → expr_of qs ≡ Some e → stmt_of (qs ++ (semicolon_at q ∷ [])) ≡ Some (Evaluate e)
evaluate [] e q h = absurd (not_some h)
evaluate (node c ∷ qs) e q h = absurd (not_some h)
evaluate (leaf k p ∷ qs) e q h =
    let x = some_of (opening_of k) (λ o. opened o p qs) e h in
    let b : is_specifier k ≡ false = untyped (leaf k p ∷ qs) e h in
    rw (opens_no_leader k x.0 x.1) rw (no_label k p qs e q h) rw b (evaluates (leaf k p ∷ qs) e q h)

evaluate_whole : {r : Tree} {e : ExprTree} → Whole expr_of r e → Whole stmt_of (closed r mark.Semicolon) (Evaluate e)
evaluate_whole {r = r} {e = e} j = record { is_whole = ap stmt_of (parts_append r (semicolon_at nowhere ∷ [])) ∙ evaluate (parts_of r) e nowhere j.is_whole }

-- ---- a declaration

specifier_no_leader_mark : (m : Mark) → is_specifier_mark m ≡ true → leader_mark m ≡ None
specifier_no_leader_mark mark.Arrow e = refl
specifier_no_leader_mark m e = cc

specifier_no_leader : (k : TokenKind) → is_specifier k ≡ true → leader_of k ≡ None
specifier_no_leader (kind.Mark m) e = specifier_no_leader_mark m e
specifier_no_leader k e = refl

specifier_no_label : (k : TokenKind) (qs : List Part) → is_specifier k ≡ true → label_of k qs ≡ None
specifier_no_label (kind.Word n) qs e = absurd (cc)
specifier_no_label k qs e = refl

pub typed_declaration : (ps : List Part) (d : DeclarationTree) → declaration_of ps ≡ Some d → specifies ps ≡ true
typed_declaration ps d e = let x = some_of (specifiers None ps) (λ f. declared f.0 f.1) d e in typed ps x.0 x.1

pub declare : (ps : List Part) (d : DeclarationTree) → declaration_of ps ≡ Some d → stmt_of ps ≡ Some (Declare d)
declare [] d e = absurd (not_some e)
declare (node c ∷ ps) d e = absurd (not_some e)
declare (leaf k p ∷ ps) d e =
    let t : is_specifier k ≡ true = typed_declaration (leaf k p ∷ ps) d e in
    rw (specifier_no_leader k t) rw (specifier_no_label k ps t) rw t (ap (λ x. and_then x (λ d. Some (Declare d))) e)

pub whole_declaration : (s : Sort) (d : DeclarationTree) → Whole declaration_of (run_declaration s d) d
whole_declaration s d = record { is_whole = (of_declaration declaration declared itself declares by_begin d).goes [] }

declare_whole : (s : Sort) (d : DeclarationTree) → Whole stmt_of (run_declaration s d) (Declare d)
declare_whole s d = record { is_whole = declare (parts_of (run_declaration s d)) d ((whole_declaration s d).is_whole) }

-- ---- the parts of statements

item_goes : {r : Tree} {t : StmtTree} (ss : StmtTrees) → Whole stmt_of r t → (m : List Part) → items ss (node (built (parts_of r)) ∷ m) ≡ items (and_stmt ss t) m
item_goes ss j m = with (λ t. items (and_stmt ss t) m) j

-- `( e ) s`
controlled_is : {c d : Tree} {e : ExprTree} {t : StmtTree} → Whole expr_of c e → Whole stmt_of d t → controlled (kind.Mark mark.OpenParenthesis) (built (parts_of c)) (kind.Mark mark.CloseParenthesis) (built (parts_of d)) ≡ Some (e, t)
unfolding is
controlled_is i j = rw i.is_whole rw j.is_whole refl

branch_goes : {c d : Tree} {e : ExprTree} {t : StmtTree} (o : Option BranchTrees) (p q : Place) → Whole expr_of c e → Whole stmt_of d t → (m : List Part) →
    branch o p (leaf (kind.Mark mark.OpenParenthesis) q ∷ node (built (parts_of c)) ∷ leaf (kind.Mark mark.CloseParenthesis) nowhere ∷ node (built (parts_of d)) ∷ m) ≡ behind_branch (add_branch o p q e t) m
branch_goes o p q i j m = rw (controlled_is i j) refl

first_branch_runs : {s : Sort} {c d : Tree} {e : ExprTree} {t : StmtTree} (p q : Place) → Whole expr_of c e → Whole stmt_of d t →
    Runs stmt_of (child (closed (child (mark_at (mark_at (begin s) mark.If p) mark.OpenParenthesis q) c) mark.CloseParenthesis) d) (behind_branch (first_branch (Branch p q e t)))
first_branch_runs p q i j = as_runs (by_child (by_token (by_child (by_token (by_token by_begin))))) (branch_goes None p q i j)

next_branch_runs : {r c d : Tree} {e : ExprTree} {t : StmtTree} (bs : BranchTrees) (p q : Place) → Runs stmt_of r (behind_branch bs) → Whole expr_of c e → Whole stmt_of d t →
    Runs stmt_of (child (closed (child (mark_at (mark_at (closed r mark.Else) mark.If p) mark.OpenParenthesis q) c) mark.CloseParenthesis) d) (behind_branch (and_branch bs (Branch p q e t)))
unfolding is
next_branch_runs bs p q b i j = as_runs (by_child (by_token (by_child (by_token (by_token (by_token b)))))) (branch_goes (Some bs) p q i j)

else_whole : {r d : Tree} {t : StmtTree} (bs : BranchTrees) → Runs stmt_of r (behind_branch bs) → Whole stmt_of d t → Whole stmt_of (child (closed r mark.Else) d) (IfElse bs t)
unfolding is
else_whole {d = d} bs b j = record { is_whole = b.goes (leaf (kind.Mark mark.Else) nowhere ∷ node (built (parts_of d)) ∷ []) ∙ with (λ t. Some (IfElse bs t)) j }

while_whole : {s : Sort} {c d : Tree} {e : ExprTree} {t : StmtTree} (p q : Place) → Whole expr_of c e → Whole stmt_of d t →
    Whole stmt_of (child (closed (child (mark_at (mark_at (begin s) mark.While p) mark.OpenParenthesis q) c) mark.CloseParenthesis) d) (While p q e t)
while_whole p q i j = record { is_whole = rw (controlled_is i j) refl }

switch_whole : {s : Sort} {c d : Tree} {e : ExprTree} {t : StmtTree} (p q : Place) → Whole expr_of c e → Whole stmt_of d t →
    Whole stmt_of (child (closed (child (mark_at (mark_at (begin s) mark.Switch p) mark.OpenParenthesis q) c) mark.CloseParenthesis) d) (Switch p q e t)
switch_whole p q i j = record { is_whole = rw (controlled_is i j) refl }

do_whole : {s : Sort} {c d : Tree} {e : ExprTree} {t : StmtTree} (p w q : Place) → Whole expr_of c e → Whole stmt_of d t →
    Whole stmt_of (closed (closed (child (mark_at (mark_at (child (mark_at (begin s) mark.Do p) d) mark.While w) mark.OpenParenthesis q) c) mark.CloseParenthesis) mark.Semicolon) (Do p t w q e)
unfolding is
do_whole p w q i j = record { is_whole = rw j.is_whole rw i.is_whole refl }

case_whole : {s : Sort} {c d : Tree} {e : ExprTree} {t : StmtTree} (p : Place) → Whole expr_of c e → Whole stmt_of d t → Whole stmt_of (child (closed (child (mark_at (begin s) mark.Case p) c) mark.Colon) d) (Case p e t)
unfolding is
case_whole p i j = record { is_whole = rw i.is_whole rw j.is_whole refl }

default_whole : {s : Sort} {d : Tree} {t : StmtTree} (p : Place) → Whole stmt_of d t → Whole stmt_of (child (closed (mark_at (begin s) mark.Default p) mark.Colon) d) (Default p t)
unfolding is
default_whole p j = record { is_whole = rw j.is_whole refl }

label_whole : {s : Sort} {d : Tree} {t : StmtTree} (n : ℕ) (p : Place) → Whole stmt_of d t → Whole stmt_of (child (closed (behind (begin s) (kind.Word n) p) mark.Colon) d) (Label n p t)
unfolding is
label_whole n p j = record { is_whole = rw j.is_whole refl }

return_whole : {s : Sort} {c : Tree} {e : ExprTree} (p : Place) → Whole expr_of c e → Whole stmt_of (closed (child (mark_at (begin s) mark.Return p) c) mark.Semicolon) (ReturnValue p e)
unfolding is
return_whole p i = record { is_whole = rw i.is_whole refl }

-- ---- `for`

-- behind the bracket, behind the first part, and behind the second
abbrev at_third : Place → Place → FirstTree → Option ExprTree → List Part → Option StmtTree
at_third p q a c m = and_then (perhaps_until mark.CloseParenthesis m) (λ e. for_body p q a c e.0 e.1)

abbrev at_second : Place → Place → FirstTree → List Part → Option StmtTree
at_second p q a m = and_then (perhaps_until mark.Semicolon m) (λ c. at_third p q a c.0 c.1)

abbrev at_first : Place → Place → List Part → Option StmtTree
at_first p q m = and_then (first m) (λ a. at_second p q a.0 a.1)

for_begins : {s : Sort} (p q : Place) → Runs stmt_of (mark_at (mark_at (begin s) mark.For p) mark.OpenParenthesis q) (at_first p q)
unfolding is
for_begins p q = by_token (by_token by_begin)

first_expression_goes : {c : Tree} {e : ExprTree} (p q : Place) → Whole expr_of c e → (m : List Part) → at_first p q (node (built (parts_of c)) ∷ leaf (kind.Mark mark.Semicolon) nowhere ∷ m) ≡ at_second p q (FirstExpression e) m
unfolding is
first_expression_goes {c = c} {e = e} p q i m = rw (untyped (parts_of c) e i.is_whole) rw i.is_whole refl

first_declaration_goes : {c : Tree} {d : DeclarationTree} (p q : Place) → Whole declaration_of c d → (m : List Part) → at_first p q (node (built (parts_of c)) ∷ m) ≡ at_second p q (FirstDeclaration d) m
first_declaration_goes {c = c} {d = d} p q i m = rw (typed_declaration (parts_of c) d i.is_whole) rw i.is_whole refl

of_first : {r : Tree} (p q : Place) → Runs stmt_of r (at_first p q) → (a : FirstTree) → Runs stmt_of (first_onto r a) (at_second p q a)
unfolding is
of_first p q i NoFirst = by_token i
of_first p q i (FirstExpression e) = as_runs (by_token (by_child i)) (first_expression_goes p q (whole_expr (of_expr _ e)))
of_first p q i (FirstDeclaration d) = as_runs (by_child i) (first_declaration_goes p q (whole_declaration _ d))

second_goes : {c : Tree} {e : ExprTree} (p q : Place) (a : FirstTree) → Whole expr_of c e → (m : List Part) → at_second p q a (node (built (parts_of c)) ∷ leaf (kind.Mark mark.Semicolon) nowhere ∷ m) ≡ at_third p q a (Some e) m
unfolding is
second_goes p q a i m = rw i.is_whole refl

of_second : {r : Tree} (p q : Place) (a : FirstTree) → Runs stmt_of r (at_second p q a) → (c : Option ExprTree) → Runs stmt_of (closed (perhaps r c) mark.Semicolon) (at_third p q a c)
unfolding is
of_second p q a i None = by_token i
of_second p q a i (Some e) = as_runs (by_token (by_child i)) (second_goes p q a (whole_expr (of_expr _ e)))

third_goes : {c : Tree} {e : ExprTree} (p q : Place) (a : FirstTree) (b : Option ExprTree) → Whole expr_of c e → (m : List Part) → at_third p q a b (node (built (parts_of c)) ∷ leaf (kind.Mark mark.CloseParenthesis) nowhere ∷ m) ≡ for_body p q a b (Some e) m
unfolding is
third_goes p q a b i m = rw i.is_whole refl

of_third : {r : Tree} (p q : Place) (a : FirstTree) (b : Option ExprTree) → Runs stmt_of r (at_third p q a b) → (c : Option ExprTree) → Runs stmt_of (closed (perhaps r c) mark.CloseParenthesis) (for_body p q a b c)
unfolding is
of_third p q a b i None = by_token i
of_third p q a b i (Some e) = as_runs (by_token (by_child i)) (third_goes p q a b (whole_expr (of_expr _ e)))

for_whole : {r d : Tree} {t : StmtTree} (p q : Place) (a : FirstTree) (b c : Option ExprTree) → Runs stmt_of r (for_body p q a b c) → Whole stmt_of d t → Whole stmt_of (child r d) (For p q a b c t)
for_whole {d = d} p q a b c i j = record { is_whole = i.goes (node (built (parts_of d)) ∷ []) ∙ with (λ t. Some (For p q a b c t)) j }

-- ---- statements

block_whole : {r : Tree} (p : Place) (ss : StmtTrees) → Runs stmt_of r (λ m. and_then (items ss m) (λ ts. Some (Block p ts))) → Whole stmt_of (closed r mark.CloseBrace) (Block p ss)
unfolding is
block_whole p ss i = record { is_whole = i.goes (leaf (kind.Mark mark.CloseBrace) nowhere ∷ []) }

and_item : {R : Type 0} {g : List Part → R} {r v : Tree} {t : StmtTree} (h : Option StmtTrees → R) (ss : StmtTrees) → Runs g r (λ m. h (items ss m)) → Whole stmt_of v t → Runs g (child r v) (λ m. h (items (and_stmt ss t) m))
and_item h ss i j = as_runs (by_child i) (λ m. ap h (item_goes ss j m))

mutual
  unfolding is

  pub of_stmt : (s : Sort) (t : StmtTree) → Whole stmt_of (run_stmt s t) t
  of_stmt s (Declare d) = declare_whole s d
  of_stmt s (Block p ss) = block_whole p ss (of_items p (by_token by_begin) ss)
  of_stmt s (Evaluate e) = evaluate_whole (whole_expr (of_expr s e))
  of_stmt s Empty = record { is_whole = refl }
  of_stmt s (If bs) = record { is_whole = (of_branches s bs).goes [] }
  of_stmt s (IfElse bs t) = else_whole bs (of_branches s bs) (of_stmt _ t)
  of_stmt s (While p q e t) = while_whole p q (whole_expr (of_expr _ e)) (of_stmt _ t)
  of_stmt s (Switch p q e t) = switch_whole p q (whole_expr (of_expr _ e)) (of_stmt _ t)
  of_stmt s (Do p t w q e) = do_whole p w q (whole_expr (of_expr _ e)) (of_stmt _ t)
  of_stmt s (For p q a b c t) = for_whole p q a b c (of_third p q a b (of_second p q a (of_first p q (for_begins p q) a) b) c) (of_stmt _ t)
  of_stmt s (Case p e t) = case_whole p (whole_expr (of_expr _ e)) (of_stmt _ t)
  of_stmt s (Default p t) = default_whole p (of_stmt _ t)
  of_stmt s (Label n p t) = label_whole n p (of_stmt _ t)
  of_stmt s (Break p) = record { is_whole = refl }
  of_stmt s (Continue p) = record { is_whole = refl }
  of_stmt s (Return p) = record { is_whole = refl }
  of_stmt s (ReturnValue p e) = return_whole p (whole_expr (of_expr _ e))

  of_items : {r : Tree} (p : Place) → Runs stmt_of r (λ m. and_then (items no_stmts m) (λ ts. Some (Block p ts))) → (ss : StmtTrees) → Runs stmt_of (stmts_onto r ss) (λ m. and_then (items ss m) (λ ts. Some (Block p ts)))
  of_items p i no_stmts = i
  of_items p i (and_stmt ss t) = and_item (λ x. and_then x (λ ts. Some (Block p ts))) ss (of_items p i ss) (of_stmt _ t)

  of_branches : (s : Sort) (bs : BranchTrees) → Runs stmt_of (branches_onto (begin s) bs) (behind_branch bs)
  of_branches s (first_branch (Branch p q e t)) = first_branch_runs p q (whole_expr (of_expr _ e)) (of_stmt _ t)
  of_branches s (and_branch bs (Branch p q e t)) = next_branch_runs bs p q (of_branches s bs) (whole_expr (of_expr _ e)) (of_stmt _ t)

-- ---- units

of_body : {R : Type 0} {g : List Part → R} {r : Tree} (h : Option StmtTrees → R) → Runs g r (λ m. h (items no_stmts m)) → (ss : StmtTrees) → Runs g (stmts_onto r ss) (λ m. h (items ss m))
of_body h i no_stmts = i
of_body h i (and_stmt ss t) = and_item h ss (of_body h i ss) (of_stmt _ t)

-- a function or a declaration, from its specifiers on
abbrev specified : List Part → Option ExternalTree
specified ps = behind_specifiers external_behind (specifiers None ps)

specifier_no_semicolon_mark : (m : Mark) → is_specifier_mark m ≡ true → is mark.Semicolon (kind.Mark m) ≡ false
unfolding is
specifier_no_semicolon_mark mark.Arrow e = refl
specifier_no_semicolon_mark m e = cc

specifier_no_semicolon : (k : TokenKind) → is_specifier k ≡ true → is mark.Semicolon k ≡ false
unfolding is
specifier_no_semicolon (kind.Mark m) e = specifier_no_semicolon_mark m e
specifier_no_semicolon k e = refl

specifier_no_typedef_mark : (m : Mark) → is_specifier_mark m ≡ true → is mark.Typedef (kind.Mark m) ≡ false
unfolding is
specifier_no_typedef_mark mark.Arrow e = refl
specifier_no_typedef_mark m e = cc

specifier_no_typedef : (k : TokenKind) → is_specifier k ≡ true → is mark.Typedef k ≡ false
unfolding is
specifier_no_typedef (kind.Mark m) e = specifier_no_typedef_mark m e
specifier_no_typedef k e = refl

pub specified_external : (ps : List Part) (x : ExternalTree) → specified ps ≡ Some x → external_of ps ≡ Some x
specified_external [] x e = absurd (not_some e)
specified_external (node c ∷ ps) x e = absurd (not_some e)
specified_external (leaf k p ∷ ps) x e =
    let y = some_of (specifiers None (leaf k p ∷ ps)) (λ f. external_behind f.0 f.1) x e in
    let t : is_specifier k ≡ true = typed (leaf k p ∷ ps) y.0 y.1 in
    rw (specifier_no_semicolon k t) rw (specifier_no_typedef k t) e

abbrev global : Option DeclarationTree → Option ExternalTree
global x = and_then x (λ d. Some (Global d))

declares_global : Declares external_behind global
unfolding is
declares_global = record { opens = λ xs c k p m d. rw d refl; ends = λ xs m. refl }

global_whole : (s : Sort) (d : DeclarationTree) → Whole external_of (run_declaration s d) (Global d)
global_whole s d = record { is_whole = specified_external (parts_of (run_declaration s d)) (Global d) ((of_declaration external {g = specified} external_behind global declares_global by_begin d).goes []) }

abbrev typedefs : Place → Option DeclarationTree → Option ExternalTree
typedefs p x = and_then x (λ d. Some (Typedef p d))

abbrev typedef_behind : Place → SpecifierTrees → List Part → Option ExternalTree
typedef_behind p xs m = typedefs p (declared xs m)

declares_typedef : (p : Place) → Declares (typedef_behind p) (typedefs p)
unfolding is
declares_typedef p = record { opens = λ xs c k q m d. refl; ends = λ xs m. refl }

and_then_twice : {A B C : Type 0} (o : Option A) (f : A → Option B) (g : B → Option C) → and_then (and_then o f) g ≡ and_then o (λ x. and_then (f x) g)
and_then_twice None f g = refl
and_then_twice (Some x) f g = refl

typedef_begins : {s : Sort} (p : Place) → Runs external_of (mark_at (begin s) mark.Typedef p) (λ m. behind_specifiers (typedef_behind p) (specifiers None m))
unfolding is
typedef_begins p = record { goes = λ m. and_then_twice (specifiers None m) (λ f. declared f.0 f.1) (λ d. Some (Typedef p d)) }

typedef_whole : (s : Sort) (p : Place) (d : DeclarationTree) → Whole external_of (declaration_onto (mark_at (begin s) mark.Typedef p) d) (Typedef p d)
typedef_whole s p d = record { is_whole = (of_declaration external (typedef_behind p) (typedefs p) (declares_typedef p) (typedef_begins p) d).goes [] }

abbrev function_behind : SpecifierTrees → DeclaratorTree → Place → Option StmtTrees → Option ExternalTree
function_behind xs d p x = and_then x (λ ss. Some (Function xs d p ss))

function_goes : {r : Tree} {d : DeclaratorTree} (xs : SpecifierTrees) (p : Place) → Whole declarator_of r d → (m : List Part) →
    external_behind xs (node (built (parts_of r)) ∷ leaf (kind.Mark mark.OpenBrace) p ∷ m) ≡ function_behind xs d p (items no_stmts m)
unfolding is
function_goes xs p j m = rw j.is_whole refl

function_whole : (s : Sort) (xs : SpecifierTrees) (d : DeclaratorTree) (p : Place) (ss : StmtTrees) → Whole external_of (run_external s (Function xs d p ss)) (Function xs d p ss)
unfolding is
function_whole s xs d p ss =
    let front = as_runs (by_token (if_child (of_specifiers external {g = specified} (behind_specifiers external_behind) by_begin xs) (λ m. refl))) (function_goes xs p (of_declarator _ d)) in
    record { is_whole = specified_external (parts_of (run_external s (Function xs d p ss))) (Function xs d p ss) ((by_token (of_body (function_behind xs d p) front ss)).goes []) }

pub of_external : (s : Sort) (x : ExternalTree) → Whole external_of (run_external s x) x
unfolding is
of_external s Nothing = record { is_whole = refl }
of_external s (Global d) = global_whole s d
of_external s (Typedef p d) = typedef_whole s p d
of_external s (Function xs d p ss) = function_whole s xs d p ss

nil_right : (ys : List ExternalTree) → ys ++ [] ≡ ys
nil_right [] = refl
nil_right (y ∷ ys) = ap (λ z. y ∷ z) (nil_right ys)

and_external : {r v : Tree} {x : ExternalTree} (front : List ExternalTree) → Runs unit_of r (externals front) → Whole external_of v x → Runs unit_of (child r v) (externals (front ++ (x ∷ [])))
and_external front i j = as_runs (by_child i) (λ m. with (λ y. externals (front ++ (y ∷ [])) m) j)

of_externals : (xs front : List ExternalTree) {r : Tree} → Runs unit_of r (externals front) → Runs unit_of (externals_onto r xs) (externals (front ++ xs))
of_externals [] front i = as_runs i (λ m. ap (λ y. externals y m) (sym (nil_right front)))
of_externals (x ∷ xs) front i = as_runs (of_externals xs (front ++ (x ∷ [])) (and_external front i (of_external _ x))) (λ m. ap (λ y. externals y m) (append_assoc front (x ∷ []) xs))

pub of_unit : (xs : List ExternalTree) → unit_of (parts_of (run_unit xs)) ≡ Some xs
of_unit xs = (of_externals xs [] by_begin).goes (leaf kind.End nowhere ∷ [])
