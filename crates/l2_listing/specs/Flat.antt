-- The flat list of code: its instructions one after another, numbered from 0. A jump goes to a number, and a loop is a head and
-- the end of a turn.
use Rattle.std.specs.Prelude.{ℕ, ◌+◌, List, [], ◌∷◌, ◌++◌, slice_index}
use Rattle.l2_code.specs.declared.action.Action.{Action}
use Rattle.l2_code.specs.declared.action.Action.TheVariants as action
use Rattle.l2_code.specs.Trees.{Node, Do, Block, Loop, Nodes, none, more}
use Rattle.l2_code.specs.Sizes.{node_count, instructions}

pub data Instruction : Type 0 where
  -- an instruction, and the number of the one to which it jumps, 0 where it is no jump
  Step : Action → ℕ → Instruction
  Head : ℕ → Instruction
  Close : ℕ → Instruction

-- where a jump leads: to the end of the block that it leaves, where these are the ends of the blocks round it, innermost first
abbrev pub target : List ℕ → Action → ℕ
target ends (action.Compute t c) = 0
target ends (action.Read t ty a) = 0
target ends (action.Write ty a b) = 0
target ends (action.Choice t ty) = 0
target ends (action.Assume a) = 0
target ends (action.Check c a) = 0
target ends (action.Unless a n) = slice_index ends n
target ends (action.Goto n) = slice_index ends n
target ends (action.Live o) = 0
target ends (action.Dead o) = 0
target ends action.End = 0

-- the flat list of code whose first instruction has this number, where these are the ends of the blocks round it
abbrev mutual
  pub flat_of : ℕ → List ℕ → Node → List Instruction
  flat_of at ends (Do a) = Step a (target ends a) ∷ []
  flat_of at ends (Block xs) = flat at ((at + instructions xs) ∷ ends) xs
  flat_of at ends (Loop l xs) = Head l ∷ (flat (at + 1) ends xs ++ Close l ∷ [])

  pub flat : ℕ → List ℕ → Nodes → List Instruction
  flat at ends none = []
  flat at ends (more x rest) = flat_of at ends x ++ flat (at + node_count x) ends rest
