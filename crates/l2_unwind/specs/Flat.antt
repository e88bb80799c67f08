-- Unwound code: a loop holds the copies of its turn.
use Rattle.std.specs.Prelude.{ℕ, zero, suc, ◌+◌, List, [], ◌∷◌, ◌++◌}
use Rattle.l2_code.specs.declared.action.Action.{Action}
use Rattle.l2_code.specs.Trees as code
use Rattle.l2_code.specs.Trees.{CodeTree}
use Rattle.l2_code.specs.Sets.{Family}
use Rattle.l2_code.specs.Sizes.{weight, head_weight, end_weight}

mutual
  pub data FlatNode : Type 0 where
    Do : Action → FlatNode
    Block : FlatNodes → FlatNode
    Loop : ℕ → Copies → FlatNode

  pub data FlatNodes : Type 0 where
    none : FlatNodes
    more : FlatNode → FlatNodes → FlatNodes

  -- the copies of a turn, the first one first
  pub data Copies : Type 0 where
    no_copies : Copies
    copy : FlatNodes → Copies → Copies

abbrev pub copies_of : ℕ → FlatNodes → Copies
copies_of zero turn = no_copies
copies_of (suc n) turn = copy turn (copies_of n turn)

abbrev mutual
  pub unwound_node : ℕ → code.Node → FlatNode
  unwound_node k (code.Do a) = Do a
  unwound_node k (code.Block all) = Block (unwound k all)
  unwound_node k (code.Loop l all) = Loop l (copies_of k (unwound k all))

  -- code with k copies of each loop's turn
  pub unwound : ℕ → code.Nodes → FlatNodes
  unwound k code.none = none
  unwound k (code.more x rest) = more (unwound_node k x) (unwound k rest)

-- ---- the list of instructions

-- an instruction, or the head of a loop, or the end of a turn of it
pub data Step : Type 0 where
  Act : Action → Step
  Head : ℕ → Step
  Close : ℕ → Step

-- a step with the copies in which it stands, of the loops round it, the innermost first; the first copy is copy 1
pub record Placed : Type 0 where
  pub copies : List ℕ
  pub step : Step

abbrev mutual
  pub steps_of_node : List ℕ → FlatNode → List Placed
  steps_of_node within (Do a) = record { copies = within; step = Act a } ∷ []
  steps_of_node within (Block all) = steps_of within all
  steps_of_node within (Loop l all) = record { copies = within; step = Head l } ∷ steps_of_copies within l 1 all

  -- the instructions of unwound code in their order
  pub steps_of : List ℕ → FlatNodes → List Placed
  steps_of within none = []
  steps_of within (more x rest) = steps_of_node within x ++ steps_of within rest

  pub steps_of_copies : List ℕ → ℕ → ℕ → Copies → List Placed
  steps_of_copies within l j no_copies = []
  steps_of_copies within l j (copy turn rest) =
      steps_of (j ∷ within) turn ++ (record { copies = j ∷ within; step = Close l } ∷ steps_of_copies within l (suc j) rest)

-- ---- weights

abbrev pub step_weight : CodeTree → Family → List ℕ → Step → ℕ
step_weight c f rows (Act a) = weight c f a
step_weight c f rows (Head l) = head_weight c l
step_weight c f rows (Close l) = end_weight rows l

abbrev pub weight_of : CodeTree → Family → List ℕ → List Placed → ℕ
weight_of c f rows [] = 0
weight_of c f rows (x ∷ rest) = step_weight c f rows x.step + weight_of c f rows rest
