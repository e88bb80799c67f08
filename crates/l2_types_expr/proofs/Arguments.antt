-- Arguments, as the lists that code goes over.
use Rattle.std.proofs.Common.{◌≡◌, ℕ, ◌+◌, ◌<◌, List, [], ◌∷◌, ◌++◌, length, get_or, drop, Option, Result, Ok, Err, refl, ap, sym, ◌∙◌, arith}
use Rattle.std.proofs.lemmas.List.{drop_more}
use Rattle.std.specs.Prelude.{IfOk}
use Rattle.std.specs.declared.vec.Vec.{Vec}
use Rattle.std.specs.declared.boxed.Box.{Box}
use Rattle.std.specs.declared.alloc.Global.{Global}
use Rattle.l2_syntax.specs.declared.place.Place.{Place}
use Rattle.l2_tree.specs.declared.expression.Expr as expr
use Rattle.l2_tree.specs.declared.expression.Expr.{Expr}
use Rattle.l2_tree.specs.Trees.{ExprTree, ExprTrees, no_exprs, and_expr}
use Rattle.l2_tree.specs.Units.{expr_tree, exprs_onto}
use Rattle.l2_tree.proofs.Expressions.{expr_tree-Call}
use Rattle.l2_types.specs.declared.state.Meaning.{Meaning}
use Rattle.l2_types.specs.declared.state.Want.{Want}
use Rattle.l2_types.specs.declared.error.CheckError.{CheckError}
use Rattle.l2_types.specs.declared.meant.Meant.{Meant}
use Rattle.l2_types.specs.declared.typed.Typed.{Typed}
use Rattle.l2_types.specs.Trees.{TypedTrees, no_trees, and_tree, typed_tree, typed_onto}
use Rattle.l2_types.specs.States.{State, Seen, saw, next}
use Rattle.l2_types.specs.Meant.{MeantTree, meant_tree}
use Rattle.l2_tree_laws.specs.Places.{first_place}
use Rattle.l2_types.specs.Wants.{wanted}
use Rattle.l2_types_expr.specs.Expressions.{count, is_skipped, call, judge, arguments, argument}
use Rattle.l2_types.proofs.Rows.{typed_onto-end}
use Rattle.l2_types_expr.proofs.Weights.{weight, weights}

-- one argument more, the i-th
abbrev pub and_argument : Option Meaning → ℕ → ℕ → ExprTree → Seen TypedTrees → Seen TypedTrees
and_argument m k i e r =
    next r (λ xs t. next (argument (is_skipped (wanted t m k i) e) (wanted t m k i) (first_place e) (judge e t) t) (λ x u. saw (and_tree xs x) u))

-- these arguments more
abbrev pub arguments_from : Option Meaning → ℕ → ℕ → List Expr → Seen TypedTrees → Seen TypedTrees
arguments_from m k i [] r = r
arguments_from m k i (e ∷ rest) r = arguments_from m k (i + 1) rest (and_argument m k i (expr_tree e) r)

onto : (m : Option Meaning) (k : ℕ) (es : ExprTrees) (all : List Expr) (s : State) → arguments m k (exprs_onto es all) s ≡ arguments_from m k (count es) all (arguments m k es s)
onto m k es [] s = refl
onto m k es (e ∷ rest) s = onto m k (and_expr es (expr_tree e)) rest s

pub all_arguments : (m : Option Meaning) (k : ℕ) (all : List Expr) (s : State) → arguments_from m k 0 all (saw no_trees s) ≡ arguments m k (exprs_onto no_exprs all) s
all_arguments m k all s = sym (onto m k no_exprs all s)

counted : (es : ExprTrees) (all : List Expr) → count (exprs_onto es all) ≡ count es + length all
counted es [] = omega arith
counted es (e ∷ rest) = let c = counted (and_expr es (expr_tree e)) rest in omega arith

pub count_all : (all : List Expr) → count (exprs_onto no_exprs all) ≡ length all
count_all all = let c = counted no_exprs all in omega arith

pub ruleset given = (all_arguments)

pub more_arguments : (m : Option Meaning) (k i j : ℕ) (all : List Expr) (e : Expr) (xs : List Typed) (x : Typed) (s t : State) (w : Want) (whole : Seen TypedTrees) →
    j < length all → e ≡ get_or all j e → w ≡ wanted s m k i →
    argument (is_skipped w (expr_tree e)) w (first_place (expr_tree e)) (judge (expr_tree e) s) s ≡ saw (typed_tree x) t →
    arguments_from m k i (drop j all) (saw (typed_onto no_trees xs) s) ≡ whole →
    arguments_from m k (i + 1) (drop (j + 1) all) (saw (typed_onto no_trees (xs ++ x ∷ [])) t) ≡ whole
more_arguments m k i j all e xs x s t w whole h at v a so_far =
    let split : drop j all ≡ e ∷ drop (j + 1) all = drop_more all j e h ∙ ap (λ y. y ∷ drop (j + 1) all) (sym at) in
    let same : argument (is_skipped (wanted s m k i) (expr_tree e)) (wanted s m k i) (first_place (expr_tree e)) (judge (expr_tree e) s) s ≡ saw (typed_tree x) t
    = ap (λ y. argument (is_skipped y (expr_tree e)) y (first_place (expr_tree e)) (judge (expr_tree e) s) s) (sym v) ∙ a in
    let step : and_argument m k i (expr_tree e) (saw (typed_onto no_trees xs) s) ≡ saw (and_tree (typed_onto no_trees xs) (typed_tree x)) t
    = ap (λ r. next r (λ y u. saw (and_tree (typed_onto no_trees xs) y) u)) same in
    ap (λ ts. arguments_from m k (i + 1) (drop (j + 1) all) (saw ts t)) (typed_onto-end no_trees xs x)
    ∙ ap (λ r. arguments_from m k (i + 1) (drop (j + 1) all) r) (sym step)
    ∙ ap (λ l. arguments_from m k i l (saw (typed_onto no_trees xs) s)) (sym split)
    ∙ so_far

-- a call, by the list of its arguments
pub judge-Call : (e : Expr) (f : Box Expr Global) (p : Place) (all : Vec Expr Global) (s : State) → e ≡ expr.Call f p all →
    judge (expr_tree e) s ≡
    call (expr_tree f.value) p (judge (expr_tree f.value) s) (λ m t. arguments m (length all.items) (exprs_onto no_exprs all.items) t) (length all.items) s
judge-Call e f p all s h =
    ap (λ x. judge (expr_tree x) s) h ∙ ap (λ x. judge x s) (expr_tree-Call f p all)
    ∙ ap (λ k. call (expr_tree f.value) p (judge (expr_tree f.value) s) (λ m t. arguments m k (exprs_onto no_exprs all.items) t) k s) (count_all all.items)

abbrev call_on : Expr → Place → List Expr → State → Seen MeantTree
call_on g p xs s = call (expr_tree g) p (judge (expr_tree g) s) (λ m t. arguments m (length xs) (exprs_onto no_exprs xs) t) (length xs) s

pub call_seen : (e : Expr) (f : Box Expr Global) (p : Place) (all : Vec Expr Global) (g : Expr) (xs : List Expr) (s t : State) (r : Result Meant CheckError) →
    e ≡ expr.Call f p all → g ≡ f.value → xs ≡ all.items →
    IfOk r (λ m. call_on g p xs s ≡ saw (meant_tree m) t) → IfOk r (λ m. judge (expr_tree e) s ≡ saw (meant_tree m) t)
call_seen e f p all g xs s t (Ok m) h a b d =
    judge-Call e f p all s h ∙ ap (λ y. call_on y p all.items s) (sym a) ∙ ap (λ ys. call_on g p ys s) (sym b) ∙ d
call_seen e f p all g xs s t (Err x) h a b d = tt

pub weight-Call : (e : Expr) (f : Box Expr Global) (p : Place) (all : Vec Expr Global) → e ≡ expr.Call f p all →
    weight (expr_tree e) ≡ 1 + (weight (expr_tree f.value) + weights (exprs_onto no_exprs all.items))
weight-Call e f p all h = ap (λ x. weight (expr_tree x)) h ∙ ap weight (expr_tree-Call f p all)

pub ruleset calls = (weight-Call)
