-- The nodes of a list but for its last one.
use Rattle.std.specs.Prelude.{Bool, List}
use Rattle.l2_code.specs.Trees.{Nodes, none, more}
use Rattle.l2_labels.specs.Labels.{single}

-- each by itself
abbrev pub singles : List Bool → Nodes → Nodes
singles stays none = none
singles stays (more x rest) = more (single stays x) (singles stays rest)
