-- Code whose labels are merged weighs what the code does.
use Rattle.std.proofs.Common.{arith, ◌≡◌, refl, ap, ◌∙◌, sym, ℕ, ◌+◌, ◌*◌, Bool, true, false, List, [], ◌∷◌}
use Rattle.l2_runs.specs.declared.cells.CellType.{CellType}
use Rattle.l2_runs.specs.Numbers.{at_number}
use Rattle.l2_code.specs.declared.action.Operand.{Operand}
use Rattle.l2_code.specs.declared.action.Operand.TheVariants.{Constant, Temp}
use Rattle.l2_code.specs.declared.action.Test.{Test}
use Rattle.l2_code.specs.declared.action.Test.TheVariants as test
use Rattle.l2_code.specs.declared.action.Computation.{Computation}
use Rattle.l2_code.specs.declared.action.Computation.TheVariants.{Numbers, Convert, Move, Pointers, Passes}
use Rattle.l2_code.specs.declared.action.Action.{Action}
use Rattle.l2_code.specs.declared.action.Action.TheVariants as action
use Rattle.l2_code.specs.Trees.{Node, Do, Block, Loop, Nodes, none, more, CodeTree}
use Rattle.l2_code.specs.Modes.{pointed_cells}
use Rattle.l2_code.specs.Sets.{Family}
use Rattle.l2_code.specs.Sizes.{reach, first_reach, test_weight, computation_weight, weight, head_weight, end_weight, node_size, nodes_size}
use Rattle.l2_labels.specs.Labels.{redirected, where_last, single, at_end, merged, one_label}
use Rattle.l2_labels.specs.Law.{WeighsAlike}

by_case : (P : Nodes → Type 0) (rest last other : Nodes) → (rest ≡ none → P last) → P other → P (where_last rest last other)
by_case P none last other p q = p refl
by_case P (more x rest) last other p q = q

-- ---- the tables stay

module _ (c : CodeTree) (f : Family) where
  reach_same : (ty : CellType) (a : Operand) → reach (one_label c) f ty a ≡ reach c f ty a
  reach_same ty (Constant v) = refl
  reach_same ty (Temp n) = refl

  first_same : (types : List CellType) (a : Operand) → first_reach (one_label c) f types a ≡ first_reach c f types a
  first_same [] a = refl
  first_same (ty ∷ types) a = reach_same ty a

  test_same : (t : Test) → test_weight (one_label c) f t ≡ test_weight c f t
  test_same (test.Cells x a) = ap (λ n. 1 + n) (first_same (pointed_cells (at_number c.pointed x)) a)
  test_same (test.Division ty a b) = refl
  test_same (test.Shift ty a) = refl
  test_same (test.Overflow op ty a b) = refl
  test_same (test.Index i a) = refl
  test_same (test.IndexEnd i a) = refl
  test_same (test.Null a) = refl
  test_same (test.Invalid a) = refl
  test_same (test.Live a) = refl
  test_same (test.Move by a b) = refl
  test_same (test.Same a b) = refl

  computation_same : (x : Computation) → computation_weight (one_label c) f x ≡ computation_weight c f x
  computation_same (Numbers op ty a b) = refl
  computation_same (Passes t) = test_same t
  computation_same (Convert ty a) = refl
  computation_same (Move by a b) = refl
  computation_same (Pointers op a b) = refl

  weight_same : (a : Action) → weight (one_label c) f a ≡ weight c f a
  weight_same (action.Compute n x) = computation_same x
  weight_same (action.Read n ty a) = ap (λ r. 1 + r) (reach_same ty a)
  weight_same (action.Write ty a x) = ap (λ r. 1 + r) (reach_same ty a)
  weight_same (action.Choice i ty) = refl
  weight_same (action.Assume a) = refl
  weight_same (action.Check i a) = refl
  weight_same (action.Unless a i) = refl
  weight_same (action.Goto i) = refl
  weight_same (action.Live i) = refl
  weight_same (action.Dead i) = refl
  weight_same action.End = refl

  mutual
    node_same : (k : ℕ) (rows : List ℕ) (x : Node) → node_size (one_label c) f k rows x ≡ node_size c f k rows x
    node_same k rows (Do a) = weight_same a
    node_same k rows (Block all) = nodes_same k rows all
    node_same k rows (Loop l all) = ap (λ n. head_weight c l + k * (n + end_weight rows l)) (nodes_same k rows all)

    nodes_same : (k : ℕ) (rows : List ℕ) (xs : Nodes) → nodes_size (one_label c) f k rows xs ≡ nodes_size c f k rows xs
    nodes_same k rows none = refl
    nodes_same k rows (more x rest) = λ i. node_same k rows x i + nodes_same k rows rest i

-- ---- and so do the instructions

module _ (c : CodeTree) (f : Family) (k : ℕ) (rows : List ℕ) where
  redirected_weight : (stays : List Bool) (a : Action) → weight c f (redirected stays a) ≡ weight c f a
  redirected_weight stays (action.Unless a i) = refl
  redirected_weight stays (action.Goto i) = refl
  redirected_weight stays (action.Compute n x) = refl
  redirected_weight stays (action.Read n ty a) = refl
  redirected_weight stays (action.Write ty a x) = refl
  redirected_weight stays (action.Choice i ty) = refl
  redirected_weight stays (action.Assume a) = refl
  redirected_weight stays (action.Check i a) = refl
  redirected_weight stays (action.Live i) = refl
  redirected_weight stays (action.Dead i) = refl
  redirected_weight stays action.End = refl

  alone : (n : ℕ) → n + 0 ≡ n
  alone n = omega arith

  mutual
    single_weight : (stays : List Bool) (x : Node) → node_size c f k rows (single stays x) ≡ node_size c f k rows x
    single_weight stays (Do a) = redirected_weight stays a
    single_weight stays (Block all) = merged_weight (true ∷ stays) true all
    single_weight stays (Loop l all) = ap (λ n. head_weight c l + k * (n + end_weight rows l)) (merged_weight stays false all)

    last_weight : (stays : List Bool) (inside : Bool) (x : Node) → nodes_size c f k rows (at_end stays inside x) ≡ node_size c f k rows x
    last_weight stays true (Block all) = merged_weight (false ∷ stays) true all
    last_weight stays false (Block all) = alone (nodes_size c f k rows (merged (true ∷ stays) true all)) ∙ merged_weight (true ∷ stays) true all
    last_weight stays inside (Do a) = alone (weight c f (redirected stays a)) ∙ redirected_weight stays a
    last_weight stays inside (Loop l all) =
        alone (node_size c f k rows (Loop l (merged stays false all))) ∙ ap (λ n. head_weight c l + k * (n + end_weight rows l)) (merged_weight stays false all)

    merged_weight : (stays : List Bool) (inside : Bool) (xs : Nodes) → nodes_size c f k rows (merged stays inside xs) ≡ nodes_size c f k rows xs
    merged_weight stays inside none = refl
    merged_weight stays inside (more x rest) =
        by_case (λ ys. nodes_size c f k rows ys ≡ node_size c f k rows x + nodes_size c f k rows rest) rest (at_end stays inside x) (more (single stays x) (merged stays inside rest))
        (λ e. last_weight stays inside x ∙ sym (alone (node_size c f k rows x)) ∙ ap (λ ys. node_size c f k rows x + nodes_size c f k rows ys) (sym e))
        (λ i. single_weight stays x i + merged_weight stays inside rest i)

pub weights_law : WeighsAlike
weights_law c f k rows = merged_weight (one_label c) f k rows [] false c.body ∙ nodes_same c f k rows c.body
