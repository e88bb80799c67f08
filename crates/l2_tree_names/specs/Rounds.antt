-- What code says of what stands round a name.
use Rattle.l2_tree.specs.Units.{suffix_tree}
use Rattle.l2_tree_names.specs.Declarators.{Round, before, behind}
use Rattle.l2_tree_names.specs.declared.declarators.Round.{Round as RoundCode}
use Rattle.l2_tree_names.specs.declared.declarators.Round.TheVariants as code

abbrev pub round_tree : RoundCode → Round
round_tree (code.Before p) = before p
round_tree (code.Behind x) = behind (suffix_tree x.now)
