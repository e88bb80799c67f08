-- How reading goes on behind each part of an expression, of specifiers, of a declarator and of a declaration.
use Rattle.std.proofs.Common.{◌≡◌, refl, ◌∙◌, ap, ℕ, cond, List, [], ◌∷◌, Option, Some}
use Rattle.l2_syntax.specs.declared.place.Place.{Place}
use Rattle.l2_syntax.specs.declared.token.Mark.TheVariants as mark
use Rattle.l2_syntax.specs.declared.token.TokenKind.TheVariants as kind
use Rattle.l2_grammar.specs.Marks.{is}
use Rattle.l2_grammar.specs.Trees.{Tree}
use Rattle.l2_tree.specs.declared.operators.UnaryOperator.{UnaryOperator}
use Rattle.l2_tree.specs.declared.operators.UpdateOperator.{UpdateOperator}
use Rattle.l2_tree.specs.declared.operators.MemberOperator.{MemberOperator}
use Rattle.l2_tree.specs.declared.operators.BinaryOperator.{BinaryOperator}
use Rattle.l2_tree.specs.declared.operators.AssignmentOperator.{AssignmentOperator}
use Rattle.l2_tree.specs.declared.starts.Continuation.TheVariants as continuation
use Rattle.l2_tree.specs.Trees.{ExprTree, Parenthesised, Index, Call, Member, PostUpdate, Update, Unary, Sizeof, SizeofType, Cast, Binary, Conditional, Assign, Comma, ExprTrees, no_exprs, and_expr, ParameterTree}
use Rattle.l2_tree.specs.Spelling.{nowhere, unary_mark, update_mark, member_mark, binary_mark, assignment_mark}
use Rattle.l2_tree.specs.Build.{Part, leaf, node, built, parts_of, and_then, tail, continued, arguments, opened, cast, expr_of, parameter_of, type_name_of}
use Rattle.l2_tree_laws.proofs.Runs.{Runs}
use Rattle.l2_tree_laws.proofs.Firsts.{untyped, unbracketed, typed_parameter}
use Rattle.l2_tree_laws.proofs.BackMarks.{opens_unary, opens_update, goes_on_update, goes_on_member, goes_on_binary, goes_on_assignment}

-- what a whole tree is read as
pub record Whole {A : Type 0} (g : List Part → Option A) (r : Tree) (x : A) : Type 0 where
  pub is_whole : g (parts_of r) ≡ Some x

pub whole_expr : {r : Tree} {a : ExprTree} → Runs expr_of r (tail a) → Whole expr_of r a
whole_expr i = record { is_whole = i.goes [] }

-- with the expression that stands there
with : {r : Tree} {a : ExprTree} {A : Type 0} (f : ExprTree → Option A) → Whole expr_of r a → and_then (expr_of (parts_of r)) f ≡ f a
with f j = ap (λ x. and_then x f) j.is_whole

-- ---- behind an operand

pub binary_goes : {r : Tree} {b : ExprTree} (a : ExprTree) (o : BinaryOperator) (p : Place) → Whole expr_of r b → (m : List Part) → tail a (leaf (kind.Mark (binary_mark o)) p ∷ node (built (parts_of r)) ∷ m) ≡ tail (Binary a o p b) m
binary_goes {r = r} a o p j m = ap (λ c. continued c a p (node (built (parts_of r)) ∷ m)) (goes_on_binary o) ∙ with (λ b. tail (Binary a o p b) m) j

pub assign_goes : {r : Tree} {b : ExprTree} (a : ExprTree) (o : AssignmentOperator) (p : Place) → Whole expr_of r b → (m : List Part) → tail a (leaf (kind.Mark (assignment_mark o)) p ∷ node (built (parts_of r)) ∷ m) ≡ tail (Assign a o p b) m
assign_goes {r = r} a o p j m = ap (λ c. continued c a p (node (built (parts_of r)) ∷ m)) (goes_on_assignment o) ∙ with (λ b. tail (Assign a o p b) m) j

pub comma_goes : {r : Tree} {b : ExprTree} (a : ExprTree) → Whole expr_of r b → (m : List Part) → tail a (leaf (kind.Mark mark.Comma) nowhere ∷ node (built (parts_of r)) ∷ m) ≡ tail (Comma a b) m
comma_goes a j m = with (λ b. tail (Comma a b) m) j

pub index_goes : {r : Tree} {b : ExprTree} (a : ExprTree) (p : Place) → Whole expr_of r b → (m : List Part) →
    tail a (leaf (kind.Mark mark.OpenBracket) p ∷ node (built (parts_of r)) ∷ leaf (kind.Mark mark.CloseBracket) nowhere ∷ m) ≡ tail (Index a p b) m
unfolding is
index_goes a p j m = with (λ b. tail (Index a p b) m) j

pub conditional_goes : {r v : Tree} {b c : ExprTree} (a : ExprTree) (p : Place) → Whole expr_of r b → Whole expr_of v c → (m : List Part) →
    tail a (leaf (kind.Mark mark.Question) p ∷ node (built (parts_of r)) ∷ leaf (kind.Mark mark.Colon) nowhere ∷ node (built (parts_of v)) ∷ m) ≡ tail (Conditional a p b c) m
unfolding is
conditional_goes {v = v} {b = b} a p j k m = with (λ b. and_then (expr_of (parts_of v)) (λ e. tail (Conditional a p b e) m)) j ∙ with (λ c. tail (Conditional a p b c) m) k

pub member_goes : (a : ExprTree) (o : MemberOperator) (p : Place) (n : ℕ) (q : Place) (m : List Part) → tail a (leaf (kind.Mark (member_mark o)) p ∷ leaf (kind.Word n) q ∷ m) ≡ tail (Member a o p n q) m
member_goes a o p n q m = ap (λ c. continued c a p (leaf (kind.Word n) q ∷ m)) (goes_on_member o)

updated : (a : ExprTree) (o : UpdateOperator) (p : Place) (m : List Part) → continued (Some (continuation.Update o)) a p m ≡ tail (PostUpdate a o p) m
updated a o p [] = refl
updated a o p (leaf k q ∷ m) = refl
updated a o p (node c ∷ m) = refl

pub update_goes : (a : ExprTree) (o : UpdateOperator) (p : Place) (m : List Part) → tail a (leaf (kind.Mark (update_mark o)) p ∷ m) ≡ tail (PostUpdate a o p) m
update_goes a o p m = ap (λ c. continued c a p m) (goes_on_update o) ∙ updated a o p m

-- behind the `(` of a call and these arguments
abbrev pub called : ExprTree → Place → ExprTrees → List Part → Option ExprTree
called a p no_exprs m = continued (Some continuation.Call) a p m
called a p (and_expr es e) m = arguments a p (and_expr es e) m

pub first_argument_goes : {r : Tree} {e : ExprTree} (a : ExprTree) (p : Place) → Whole expr_of r e → (m : List Part) → called a p no_exprs (node (built (parts_of r)) ∷ m) ≡ called a p (and_expr no_exprs e) m
first_argument_goes a p j m = with (λ e. arguments a p (and_expr no_exprs e) m) j

pub argument_goes : {r : Tree} {e : ExprTree} (a : ExprTree) (p : Place) (es : ExprTrees) (d : ExprTree) → Whole expr_of r e → (m : List Part) →
    called a p (and_expr es d) (leaf (kind.Mark mark.Comma) nowhere ∷ node (built (parts_of r)) ∷ m) ≡ called a p (and_expr (and_expr es d) e) m
unfolding is
argument_goes a p es d j m = with (λ e. arguments a p (and_expr (and_expr es d) e) m) j

pub call_goes : (a : ExprTree) (p : Place) (es : ExprTrees) (m : List Part) → called a p es (leaf (kind.Mark mark.CloseParenthesis) nowhere ∷ m) ≡ tail (Call a p es) m
unfolding is
call_goes a p no_exprs m = refl
call_goes a p (and_expr es e) m = refl

-- ---- at the beginning

pub unary_begins : {r : Tree} {a : ExprTree} (o : UnaryOperator) (p : Place) → Whole expr_of r a → (m : List Part) → expr_of (leaf (kind.Mark (unary_mark o)) p ∷ node (built (parts_of r)) ∷ m) ≡ tail (Unary o p a) m
unary_begins {r = r} o p j m = ap (λ x. and_then x (λ c. opened c p (node (built (parts_of r)) ∷ m))) (opens_unary o) ∙ with (λ a. tail (Unary o p a) m) j

pub update_begins : {r : Tree} {a : ExprTree} (o : UpdateOperator) (p : Place) → Whole expr_of r a → (m : List Part) → expr_of (leaf (kind.Mark (update_mark o)) p ∷ node (built (parts_of r)) ∷ m) ≡ tail (Update o p a) m
update_begins {r = r} o p j m = ap (λ x. and_then x (λ c. opened c p (node (built (parts_of r)) ∷ m))) (opens_update o) ∙ with (λ a. tail (Update o p a) m) j

pub sizeof_begins : {r : Tree} {a : ExprTree} (p : Place) → Whole expr_of r a → (m : List Part) → expr_of (leaf (kind.Mark mark.Sizeof) p ∷ node (built (parts_of r)) ∷ m) ≡ tail (Sizeof p a) m
sizeof_begins {r = r} {a = a} p j m =
    ap (λ b. cond b (and_then (type_name_of (parts_of r)) (λ t. tail (SizeofType p t.0 t.1) m)) (and_then (expr_of (parts_of r)) (λ a. tail (Sizeof p a) m))) (unbracketed (parts_of r) a j.is_whole)
    ∙ with (λ a. tail (Sizeof p a) m) j

pub parenthesis_begins : {r : Tree} {a : ExprTree} (p : Place) → Whole expr_of r a → (m : List Part) →
    expr_of (leaf (kind.Mark mark.OpenParenthesis) p ∷ node (built (parts_of r)) ∷ leaf (kind.Mark mark.CloseParenthesis) nowhere ∷ m) ≡ tail (Parenthesised p a) m
unfolding is
parenthesis_begins {r = r} {a = a} p j m =
    ap (λ b. cond b (cast p (parameter_of (parts_of r)) m) (and_then (expr_of (parts_of r)) (λ e. tail (Parenthesised p e) m))) (untyped (parts_of r) a j.is_whole)
    ∙ with (λ a. tail (Parenthesised p a) m) j

pub cast_begins : {r v : Tree} {t : ParameterTree} {a : ExprTree} (p : Place) → Whole parameter_of r t → Whole expr_of v a → (m : List Part) →
    expr_of (leaf (kind.Mark mark.OpenParenthesis) p ∷ node (built (parts_of r)) ∷ leaf (kind.Mark mark.CloseParenthesis) nowhere ∷ node (built (parts_of v)) ∷ m) ≡ tail (Cast p t a) m
unfolding is
cast_begins {r = r} {v = v} {t = t} p i j m =
    ap (λ b. cond b (cast p (parameter_of (parts_of r)) (node (built (parts_of v)) ∷ m)) (and_then (expr_of (parts_of r)) (λ e. tail (Parenthesised p e) (node (built (parts_of v)) ∷ m)))) (typed_parameter (parts_of r) t i.is_whole)
    ∙ ap (λ x. and_then x (λ x. and_then (expr_of (parts_of v)) (λ a. tail (Cast p x a) m))) i.is_whole
    ∙ with (λ a. tail (Cast p t a) m) j

abbrev at_place : Place → ParameterTree → Option (Place × ParameterTree)
at_place q t = Some (q, t)

pub sizeof_type_begins : {r : Tree} {t : ParameterTree} (p q : Place) → Whole parameter_of r t → (m : List Part) →
    expr_of (leaf (kind.Mark mark.Sizeof) p ∷ node (built (leaf (kind.Mark mark.OpenParenthesis) q ∷ node (built (parts_of r)) ∷ leaf (kind.Mark mark.CloseParenthesis) nowhere ∷ [])) ∷ m) ≡ tail (SizeofType p q t) m
unfolding is
sizeof_type_begins {r = r} {t = t} p q i m =
    ap (λ b. cond b (and_then (and_then (parameter_of (parts_of r)) (at_place q)) (λ t. tail (SizeofType p t.0 t.1) m)) (and_then (expr_of (leaf (kind.Mark mark.OpenParenthesis) q ∷ node (built (parts_of r)) ∷ leaf (kind.Mark mark.CloseParenthesis) nowhere ∷ [])) (λ a. tail (Sizeof p a) m)))
    (typed_parameter (parts_of r) t i.is_whole)
    ∙ ap (λ x. and_then (and_then x (at_place q)) (λ t. tail (SizeofType p t.0 t.1) m)) i.is_whole
