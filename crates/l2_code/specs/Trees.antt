-- Code as definitions speak of it, without addresses.
use Rattle.std.specs.Prelude.{ℕ, List, [], ◌∷◌}
use Rattle.l2_code.specs.declared.action.Action.{Action}
use Rattle.l2_code.specs.declared.code.CodeObject.{CodeObject}
use Rattle.l2_code.specs.declared.code.Pointed.{Pointed}
use Rattle.l2_code.specs.declared.code.CodeCheck.{CodeCheck}
use Rattle.l2_code.specs.declared.code.CodeLoop.{CodeLoop}
use Rattle.l2_code.specs.declared.code.Code as rust
use Rattle.l2_code.specs.declared.code.Item as item
use Rattle.l2_code.specs.declared.code.Item.{Item, Row_of-Item, end_of-Item, more_of-Item}

mutual
  pub data Node : Type 0 where
    Do : Action → Node
    Block : Nodes → Node
    Loop : ℕ → Nodes → Node

  pub data Nodes : Type 0 where
    none : Nodes
    more : Node → Nodes → Nodes

abbrev mutual
  pub tree_of : Item → Node
  tree_of (item.Do a) = Do a.value
  tree_of (item.Block' shape all) = Block (row_nodes all)
  tree_of (item.Loop' l shape all) = Loop l (row_nodes all)

  pub row_nodes : {m : _} → Row_of-Item m → Nodes
  row_nodes end_of-Item = none
  row_nodes (more_of-Item x rest) = more (tree_of x) (row_nodes rest)

abbrev pub items_of : List Item → Nodes
items_of [] = none
items_of (x ∷ rest) = more (tree_of x) (items_of rest)

-- some nodes, and then others
abbrev pub join : Nodes → Nodes → Nodes
join none ys = ys
join (more x rest) ys = more x (join rest ys)

pub record CodeTree : Type 0 where
  pub objects : List CodeObject
  pub pointed : List Pointed
  pub checks : List CodeCheck
  pub loops : List CodeLoop
  pub temps : ℕ
  pub body : Nodes

abbrev pub code_of : rust.Code → CodeTree
code_of c = record {
  objects = c.objects;
  pointed = c.pointed;
  checks = c.checks;
  loops = c.loops;
  temps = c.temps;
  body = items_of c.items.items;
}
