-- With rows code weighs no less.
use Rattle.std.proofs.Common.{◌≡◌, ℕ, zero, suc, ◌+◌, ◌*◌, ◌<◌, ◌≤◌, List, [], length, map, refl, arith}
use Rattle.l2_code.specs.Trees.{Node, Do, Block, Loop, Nodes, none, more, CodeTree, code_of}
use Rattle.l2_code.specs.Sets.{Family, family}
use Rattle.l2_code.specs.Sizes.{node_size, nodes_size, size, end_weight, head_weight}
use Rattle.l2_unwind.specs.Refused.{most_weight}
use Rattle.l2_engine.specs.Tasks.{Query, WeighsTooMuch}

no_rows : (l : ℕ) → end_weight [] l ≡ 1
no_rows zero = refl
no_rows (suc l) = refl

pub copied : (h k a b x y : ℕ) → a ≤ b → x ≤ y → h + k * (a + x) ≤ h + k * (b + y)
copied h zero a b x y i j = omega arith
copied h (suc k) a b x y i j =
    let r = copied h k a b x y i j in
    omega (arith, r)

mutual
  grown_node : (c : CodeTree) (f : Family) (k : ℕ) (rows : List ℕ) (x : Node) → node_size c f k [] x ≤ node_size c f k rows x
  grown_node c f k rows (Do a) = omega arith
  grown_node c f k rows (Block all) = grown_nodes c f k rows all
  grown_node c f k rows (Loop l all) = copied (head_weight c l) k _ _ (end_weight [] l) (end_weight rows l) (grown_nodes c f k rows all) (omega (arith, no_rows l))

  grown_nodes : (c : CodeTree) (f : Family) (k : ℕ) (rows : List ℕ) (x : Nodes) → nodes_size c f k [] x ≤ nodes_size c f k rows x
  grown_nodes c f k rows none = omega arith
  grown_nodes c f k rows (more x rest) = omega (arith, grown_node c f k rows x, grown_nodes c f k rows rest)

-- the weight without rows is at most that with some
pub without_rows : (c : CodeTree) (f : Family) (k : ℕ) (rows : List ℕ) → size c f k [] ≤ size c f k rows
without_rows c f k rows = grown_nodes c f k rows c.body

pub too_much : (x : Query) (k : ℕ) → most_weight < size (code_of x.code) (family x.sets) k [] → WeighsTooMuch x k
too_much x k h = omega (arith, h, without_rows (code_of x.code) (family x.sets) k (map length x.forms))
