-- Each run that fits the grammar is the run of a typed tree. So a unit that was read is built, and what is built has its run.
use Rattle.std.proofs.Common.{◌≡◌, ◌⊎◌, inl, inr, refl, ◌∙◌, ap, sym, subst, true, List, [], Option, None, Some}
use Rattle.l2_grammar.specs.declared.states.Sort.{Sort}
use Rattle.l2_grammar.specs.declared.states.Sort.TheVariants as sort
use Rattle.l2_grammar.specs.declared.states.Level.{Level}
use Rattle.l2_grammar.specs.declared.states.Level.TheVariants as level
use Rattle.l2_grammar.specs.declared.states.State.TheVariants as st
use Rattle.l2_grammar.specs.declared.states.Outcome.TheVariants as outcome
use Rattle.l2_grammar.specs.Nesting.{outcome as outcome_of, on_child, stands}
use Rattle.l2_grammar.specs.Trees.{Tree, begin, token, child, sort as sort_of, state as state_of, Fits}
use Rattle.l2_grammar.specs.Law.{IsUnit}
use Rattle.l2_grammar.specs.Expressions.{IsExpression, sort_at}
use Rattle.l2_grammar.proofs.Nests.{child_begun}
use Rattle.l2_tree.specs.Trees.{ExprTree, ExternalTree}
use Rattle.l2_tree.specs.Spelling.{Keeps, run_expr, run_unit}
use Rattle.l2_tree.specs.Build.{parts_of, expr_of, unit_of}
use Rattle.l2_tree_laws.proofs.BackExpressions.{of_expr}
use Rattle.l2_tree_laws.proofs.BackStatements.{of_unit}
use Rattle.l2_tree_laws.proofs.Forms.{Fresh, Form, Value, Made}
use Rattle.l2_tree_laws.proofs.FormTokens.{token_goes}
use Rattle.l2_tree_laws.proofs.FormChildren.{child_goes, whole_form}

begins : (s : Sort) → Fresh s (begin s)
begins sort.Unit = ([], refl)
begins s = refl

-- each construct may stand in its state, but where nothing has been read
stood : (r : Tree) → Fits r → (state_of r ≡ st.Fresh) ⊎ (stands (sort_of r) (state_of r) ≡ true)
stood (begin s) f = inl refl
stood (token a t) f = inr f.1
stood (child a b) f = inr f.3

stood_within : (a b : Tree) → Fits (child a b) → stands (sort_of b) (state_of b) ≡ true
stood_within a b f = go (stood b f.1)
  where
    go : (state_of b ≡ st.Fresh) ⊎ (stands (sort_of b) (state_of b) ≡ true) → stands (sort_of b) (state_of b) ≡ true
    go (inr h) = h
    go (inl e) = absurd (child_begun (sort_of a) (state_of a) (subst (λ z. stands (sort_of a) (on_child (sort_of a) (state_of a) (outcome_of z)) ≡ true) e f.3))

pub form_of : (r : Tree) → Fits r → Keeps r → Form (sort_of r) (state_of r) r
form_of (begin s) f k = begins s
form_of (token a t) f k = token_goes (sort_of a) (state_of a) a t.at t.kind (form_of a f.0 k.0) f.1 (ap (λ z. z.at) k.1)
form_of (child a b) f k = child_goes (sort_of a) (state_of a) a b (outcome_of (state_of b)) refl refl (stood a f.0) (form_of a f.0 k.0)
    (subst (λ z. Made z (outcome_of (state_of b)) b) (sym f.2) (whole_form (sort_of b) (state_of b) b (form_of b f.1 k.1) (stood_within a b f))) f.3

-- ---- a unit

pub unit_run : (u : Tree) → IsUnit u → Keeps u → (xs : List ExternalTree) × (run_unit xs ≡ u)
unit_run u i k = subst (λ z. Form sort.Unit z u) i.ended (subst (λ z. Form z (state_of u) u) i.sorted (form_of u i.fits k))

pub unit_built : (u : Tree) → IsUnit u → Keeps u → (xs : List ExternalTree) × (unit_of (parts_of u) ≡ Some xs) × (run_unit xs ≡ u)
unit_built u i k = let x = unit_run u i k in (x.0, sym (ap (λ r. unit_of (parts_of r)) x.1) ∙ of_unit x.0, x.1)

some_none : {A : Type 0} (x : A) (o : Option A) → o ≡ Some x → o ≡ None → ⊥
some_none x o e f = cc

some_some : {A : Type 0} (x y : A) (o : Option A) → o ≡ Some x → o ≡ Some y → x ≡ y
some_some x y o e f = cc

pub unit_is_built : (u : Tree) → IsUnit u → Keeps u → unit_of (parts_of u) ≡ None → ⊥
unit_is_built u i k e = let x = unit_built u i k in some_none x.0 (unit_of (parts_of u)) x.1 e

pub unit_has_run : (u : Tree) (xs : List ExternalTree) → IsUnit u → Keeps u → unit_of (parts_of u) ≡ Some xs → run_unit xs ≡ u
unit_has_run u xs i k e = let x = unit_built u i k in ap run_unit (some_some xs x.0 (unit_of (parts_of u)) e x.1) ∙ x.2

-- ---- an expression

value_run : (l : Level) (r : Tree) → Value (sort_at l) r → (e : ExprTree) × (run_expr (sort_at l) e ≡ r)
value_run level.Comma r v = v
value_run level.Assignment r v = v
value_run level.Conditional r v = v

stood_whole : (l : Level) (r : Tree) → IsExpression l r → stands (sort_of r) (state_of r) ≡ true
unfolding outcome_of
stood_whole l r i = go (stood r i.fits)
  where
    go : (state_of r ≡ st.Fresh) ⊎ (stands (sort_of r) (state_of r) ≡ true) → stands (sort_of r) (state_of r) ≡ true
    go (inr h) = h
    go (inl e) = let c : outcome_of st.Fresh ≡ outcome.Value = sym (ap outcome_of e) ∙ i.whole in absurd (cc)

pub expression_run : (l : Level) (r : Tree) → IsExpression l r → Keeps r → (e : ExprTree) × (run_expr (sort_at l) e ≡ r)
expression_run l r i k = value_run l r (subst (λ z. Made (sort_at l) z r) i.whole (subst (λ z. Made z (outcome_of (state_of r)) r) i.sorted
    (whole_form (sort_of r) (state_of r) r (form_of r i.fits k) (stood_whole l r i))))

pub expression_built : (l : Level) (r : Tree) → IsExpression l r → Keeps r → (e : ExprTree) × (expr_of (parts_of r) ≡ Some e) × (run_expr (sort_at l) e ≡ r)
expression_built l r i k = let x = expression_run l r i k in (x.0, sym (ap (λ z. expr_of (parts_of z)) x.1) ∙ (of_expr (sort_at l) x.0).goes [], x.1)

pub expression_is_built : (l : Level) (r : Tree) → IsExpression l r → Keeps r → expr_of (parts_of r) ≡ None → ⊥
expression_is_built l r i k e = let x = expression_built l r i k in some_none x.0 (expr_of (parts_of r)) x.1 e

pub expression_has_run : (l : Level) (r : Tree) (a : ExprTree) → IsExpression l r → Keeps r → expr_of (parts_of r) ≡ Some a → run_expr (sort_at l) a ≡ r
expression_has_run l r a i k e = let x = expression_built l r i k in ap (run_expr (sort_at l)) (some_some a x.0 (expr_of (parts_of r)) e x.1) ∙ x.2
