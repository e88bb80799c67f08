-- The weight of a code is that of the instructions of the unwound code.
use Rattle.std.proofs.Common.{arith, ◌≡◌, refl, ap, ℕ, zero, suc, ◌+◌, ◌*◌, List, [], ◌∷◌, ◌++◌}
use Rattle.l2_code.specs.Trees as code
use Rattle.l2_code.specs.Trees.{CodeTree}
use Rattle.l2_code.specs.Sets.{Family}
use Rattle.l2_code.specs.Sizes.{node_size, nodes_size, head_weight, end_weight}
use Rattle.l2_unwind.specs.Law.{SizesAreWeights}
use Rattle.l2_unwind.specs.Flat.{FlatNodes, Placed, Close, copies_of, unwound, unwound_node, steps_of, steps_of_node, steps_of_copies, weight_of}

weight_of-++ : (c : CodeTree) (f : Family) (rows : List ℕ) (xs ys : List Placed) → weight_of c f rows (xs ++ ys) ≡ weight_of c f rows xs + weight_of c f rows ys
weight_of-++ c f rows [] ys = omega arith
weight_of-++ c f rows (x ∷ xs) ys = let e = weight_of-++ c f rows xs ys in omega arith

copies_weigh : (c : CodeTree) (f : Family) (rows : List ℕ) (within : List ℕ) (l n j : ℕ) (body : FlatNodes) (w : ℕ)
    → ((around : List ℕ) → w ≡ weight_of c f rows (steps_of around body))
    → n * (w + end_weight rows l) ≡ weight_of c f rows (steps_of_copies within l j (copies_of n body))
copies_weigh c f rows within l zero j body w same = omega arith
copies_weigh c f rows within l (suc n) j body w same =
    let a = same (j ∷ within) in
    let b = copies_weigh c f rows within l n (suc j) body w same in
    let d = weight_of-++ c f rows (steps_of (j ∷ within) body) (record { copies = j ∷ within; step = Close l } ∷ steps_of_copies within l (suc j) (copies_of n body)) in
    grind arith

mutual
  node_weighs : (c : CodeTree) (f : Family) (k : ℕ) (rows : List ℕ) (within : List ℕ) (x : code.Node)
      → node_size c f k rows x ≡ weight_of c f rows (steps_of_node within (unwound_node k x))
  node_weighs c f k rows within (code.Do a) = omega arith
  node_weighs c f k rows within (code.Block all) = nodes_weigh c f k rows within all
  node_weighs c f k rows within (code.Loop l all) =
      ap (λ n. head_weight c l + n) (copies_weigh c f rows within l k 1 (unwound k all) (nodes_size c f k rows all) (λ around. nodes_weigh c f k rows around all))

  pub nodes_weigh : (c : CodeTree) (f : Family) (k : ℕ) (rows : List ℕ) (within : List ℕ) (xs : code.Nodes)
      → nodes_size c f k rows xs ≡ weight_of c f rows (steps_of within (unwound k xs))
  nodes_weigh c f k rows within code.none = refl
  nodes_weigh c f k rows within (code.more x rest) =
      let a = node_weighs c f k rows within x in
      let b = nodes_weigh c f k rows within rest in
      let d = weight_of-++ c f rows (steps_of_node within (unwound_node k x)) (steps_of within (unwound k rest)) in
      omega arith

pub sizes_are_weights : SizesAreWeights
sizes_are_weights c f k rows = nodes_weigh c f k rows [] c.body
