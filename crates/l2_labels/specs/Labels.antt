-- Code whose labels stand at different places: a block that ends where the block round it ends is no block of its own, so that
-- jumps out of both lead to one label, in the order in which they arrive.
use Rattle.std.specs.Prelude.{ℕ, zero, suc, Bool, true, false, List, [], ◌∷◌}
use Rattle.l2_code.specs.declared.action.Action.{Action}
use Rattle.l2_code.specs.declared.action.Action.TheVariants as action
use Rattle.l2_code.specs.Trees.{Node, Do, Block, Loop, Nodes, none, more, CodeTree}

-- a jump out of so many blocks, where each of the blocks round it, the innermost first, stays or doesn't
abbrev pub blocks_left : List Bool → ℕ → ℕ
blocks_left stays zero = zero
blocks_left [] (suc n) = suc n
blocks_left (true ∷ stays) (suc n) = suc (blocks_left stays n)
blocks_left (false ∷ stays) (suc n) = blocks_left stays n

abbrev pub redirected : List Bool → Action → Action
redirected stays (action.Unless a n) = action.Unless a (blocks_left stays n)
redirected stays (action.Goto n) = action.Goto (blocks_left stays n)
redirected stays a = a

-- the first of two for the last node of a list
abbrev pub where_last : Nodes → Nodes → Nodes → Nodes
where_last none last other = last
where_last (more x rest) last other = other

-- `inside` says whether the list's end is that of a block
abbrev mutual
  pub single : List Bool → Node → Node
  single stays (Do a) = Do (redirected stays a)
  single stays (Block all) = Block (merged (true ∷ stays) true all)
  single stays (Loop l all) = Loop l (merged stays false all)

  -- the last node of a list: a block there ends where the block round it ends
  pub at_end : List Bool → Bool → Node → Nodes
  at_end stays inside (Do a) = more (Do (redirected stays a)) none
  at_end stays inside (Loop l all) = more (Loop l (merged stays false all)) none
  at_end stays true (Block all) = merged (false ∷ stays) true all
  at_end stays false (Block all) = more (Block (merged (true ∷ stays) true all)) none

  pub merged : List Bool → Bool → Nodes → Nodes
  merged stays inside none = none
  merged stays inside (more x rest) = where_last rest (at_end stays inside x) (more (single stays x) (merged stays inside rest))

abbrev pub one_label : CodeTree → CodeTree
one_label c = record c { body = merged [] false c.body }
